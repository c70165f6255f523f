-- Row k of the way back: the rows gathered and then q's constant added at column n are the rows and 1 at column n gathered together, and
-- how far from 0 the numbers get on the way.
use mathlib.Core.Path.{◌≡◌, refl, sym, ap, ap₂, ◌∙◌}
use mathlib.Core.Bool.{true}
use mathlib.Core.List.{List, [], ◌∷◌, ◌++◌}
use Prim.Native.Nat.{ℕ, zero, suc, ◌+◌, ◌*◌, ◌≤◌, ◌<◌}
use native.Mathlib.Nat.{mul-le-mul_right}
use native.Mathlib.Numerals.{add-one}
use native.Mathlib.Omega.{arith}
use lib.ListN.{length, get_or, take, set, replicate, length-take}
use lib.Seq.{take_all, take-suc}
use lib.IntN.{ℤ, pos, neg_ℤ, nat_abs, ◌+ℤ◌}
use mir.Syntax.{w64}
use mir.Val.{to_z, of_z, SFits}
use Rattle.whole.specs.Limit.{W}
use Rattle.whole.proofs.Reify.{reify, ring}
use Rattle.whole.proofs.Steps.{steps, read_by, fits_by}
use Rattle.rows.specs.Row.{at, zeros, unit_row, less, gathered, all_within}
use Rattle.rows.specs.Table.{rows_of, flat, row_at, set_row}
use Rattle.rows.proofs.Bounded.{bounded_at, bounded-take, bounded-gathered}
use Rattle.rows.proofs.Algebra.{length-gathered}
use Rattle.rows.proofs.TableLaws.{length-row_at, length-rows_of, flat-rows_of, row_of}
use Rattle.tables.proofs.Multiples.{within-row}
use Rattle.turning.specs.Turned.{returned}
use Rattle.in_place.proofs.InPlace.{row-at, row-set, set-in-row}

-- ---- the last of the rows that are gathered
gathered-last : (row cs : List ℤ) (rows : List (List ℤ)) (c : ℤ) (other : List ℤ) → length cs ≡ length rows
    → gathered row (cs ++ c ∷ []) (rows ++ other ∷ []) ≡ less (gathered row cs rows) (neg_ℤ c) other
unfolding gathered
gathered-last row [] [] c other e = refl
gathered-last row [] (r ∷ rows) c other e = absurd (omega arith)
gathered-last row (x ∷ cs) [] c other e = absurd (omega arith)
gathered-last row (x ∷ cs) (r ∷ rows) c other e = gathered-last (less row (neg_ℤ x) r) cs rows c other (omega arith)

-- ---- -c times the row that has 1 at column n, else 0, taken from a row: c is added at column n
less-zeros : (row : List ℤ) (q : ℤ) (width : ℕ) → less row q (replicate width (pos 0)) ≡ row
unfolding less
less-zeros [] q width = refl
less-zeros (a ∷ row) q zero = refl
less-zeros (a ∷ row) q (suc width) = ap₂ ◌∷◌ (ring (a ∷ q ∷ []) (search reify) (search reify) refl) (less-zeros row q width)

less-set : (row : List ℤ) (c : ℤ) (width n : ℕ) → n < width → n < length row
    → less row (neg_ℤ c) (set (replicate width (pos 0)) n (pos 1)) ≡ set row n (at row n +ℤ c)
unfolding less
less-set [] c width n h l = absurd (omega arith)
less-set (a ∷ row) c zero n h l = absurd (omega arith)
less-set (a ∷ row) c (suc width) zero h l = ap₂ ◌∷◌ (ring (a ∷ c ∷ []) (search reify) (search reify) refl) (less-zeros row (neg_ℤ c) width)
less-set (a ∷ row) c (suc width) (suc n) h l =
    ap₂ ◌∷◌ (ring (a ∷ c ∷ []) (search reify) (search reify) refl) (less-set row c width n (omega arith) (omega arith))

less-unit : (row : List ℤ) (c : ℤ) (width n : ℕ) → n < width → n < length row → less row (neg_ℤ c) (unit_row width n) ≡ set row n (at row n +ℤ c)
unfolding unit_row zeros
less-unit row c width n h l = less-set row c width n h l

-- ---- row k of the way back of n rows, without q's constant and with it
abbrev pub gain : ℕ → ℕ → List ℤ → List ℤ → List ℤ
gain n k q t = gathered (row_at (suc n) k t) (take n q) (rows_of (suc n) n t)

module _ (n k : ℕ) (q t : List ℤ) (h : k < n) (e : length t ≡ n * suc n) where
  pub length-gain : length (gain n k q t) ≡ suc n
  length-gain = length-gathered (row_at (suc n) k t) (take n q) (rows_of (suc n) n t) ∙ length-row_at (suc n) n k t h e

  pub length-returned : length (returned n k q t) ≡ suc n
  length-returned =
      let rows = rows_of (suc n) n t in
      length-gathered (get_or rows k []) q (rows ++ unit_row (suc n) n ∷ []) ∙ ap length (row_of (suc n) n k t h) ∙ length-row_at (suc n) n k t h e

  -- n rows at most 32, so that the sum with one more number is far below 2 ^ 63
  gain-small : n ≤ 32 → all_within t ≡ true → all_within q ≡ true → nat_abs (at (gain n k q t) n) ≤ W + 32 * (W * W)
  gain-small l f g =
      let few : length (take n q) ≤ 32 = simp length-take (omega arith) in
      let rows = rows_of (suc n) n t in
      let all : all_within (flat rows) ≡ true = ap all_within (flat-rows_of (suc n) n t e) ∙ f in
      let sized = bounded-gathered W W W (row_at (suc n) k t) (take n q) rows (within-row (suc n) k t f) (bounded-take W n q g) all in
      omega (arith, bounded_at (W + length (take n q) * (W * W)) (gain n k q t) n sized, mul-le-mul_right (W * W) few)

  -- the constant added at column n
  returned-is : length q ≡ suc n → set (gain n k q t) n (at (gain n k q t) n +ℤ at q n) ≡ returned n k q t
  returned-is l =
      let rows = rows_of (suc n) n t in
      let whole : q ≡ take n q ++ at q n ∷ [] = sym (take_all (suc n) q (omega arith)) ∙ take-suc q n (pos 0) (omega arith) in
      let many : length (take n q) ≡ length rows = rw (length-rows_of (suc n) n t) (simp length-take (omega arith)) in
      sym (less-unit (gain n k q t) (at q n) (suc n) n (omega arith) (omega (arith, length-gain)))
      ∙ sym (gathered-last (row_at (suc n) k t) (take n q) rows (at q n) (unit_row (suc n) n) many)
      ∙ ap₂ (λ (row cs : List ℤ). gathered row cs (rows ++ unit_row (suc n) n ∷ [])) (sym (row_of (suc n) n k t h)) (sym whole)

-- ---- the code's sum of two such numbers
module _ (x y : ℤ) (h : nat_abs x ≤ W + 32 * (W * W)) (l : nat_abs y ≤ W) where
  sum_fits : SFits w64 (to_z w64 (of_z w64 x) +ℤ to_z w64 (of_z w64 y))
  sum_fits = fits_by (search steps) tt

  sum_is : to_z w64 (of_z w64 (to_z w64 (of_z w64 x) +ℤ to_z w64 (of_z w64 y))) ≡ x +ℤ y
  sum_is = read_by (search steps) tt

-- ---- the table l with the row without the constant in place of row k, and then with the one with it
abbrev pub with-constant : ℕ → ℕ → List ℤ → List ℤ → List ℤ
with-constant n k q l = set l (k * (n + 1) + n) (to_z w64 (of_z w64 (to_z w64 (of_z w64 (at l (k * (n + 1) + n))) +ℤ to_z w64 (of_z w64 (at q n)))))

module _ (n k : ℕ) (q t l : List ℤ) (h : k < n) (e : length t ≡ n * suc n) (few : n ≤ 32) (f : all_within t ≡ true) (g : all_within q ≡ true)
    (gained : l ≡ set_row (suc n) k (gain n k q t) t) where
  here : at l (k * (n + 1) + n) ≡ at (gain n k q t) n
  here =
      rw (gained, add-one n)
      (sym (row-at (suc n) k (set_row (suc n) k (gain n k q t) t) n (omega arith))
      ∙ ap (λ (m : List ℤ). at m n) (row-set (suc n) n k t h e (gain n k q t) (length-gain n k q t h e)))

  here-small : nat_abs (at l (k * (n + 1) + n)) ≤ W + 32 * (W * W)
  here-small = rw here (gain-small n k q t h e few f g)

  pub constant-fits : SFits w64 (to_z w64 (of_z w64 (at l (k * (n + 1) + n))) +ℤ to_z w64 (of_z w64 (at q n)))
  constant-fits = sum_fits (at l (k * (n + 1) + n)) (at q n) here-small (bounded_at W q n g)

  pub with-constant-is : length q ≡ suc n → with-constant n k q l ≡ set_row (suc n) k (returned n k q t) t
  with-constant-is m =
      let row = gain n k q t in
      rw (sum_is (at l (k * (n + 1) + n)) (at q n) here-small (bounded_at W q n g), here, gained, add-one n)
      (set-in-row (suc n) n k t h e row (length-gain n k q t h e) n (at row n +ℤ at q n) (omega arith)
      ∙ ap (λ (x : List ℤ). set_row (suc n) k x t) (returned-is n k q t h e m))
