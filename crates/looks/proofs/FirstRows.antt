-- The first row of a table that passes a test, and the first pair of rows in conflict, as the loops over the rows meet them.
use mathlib.Core.Path.{◌≡◌, refl, sym, ap, ◌∙◌}
use mathlib.Core.Bool.{Bool, true, false}
use mathlib.Core.List.{List, [], ◌∷◌, map}
use Prim.Native.Nat.{ℕ, zero, suc, ◌+◌, ◌-◌, ◌*◌, ◌/◌, ◌≤◌, ◌<◌, zero-le}
use native.Mathlib.Nat.{le-div_iff_mul-le, add-mul-div_right}
use native.Mathlib.Numerals.{add-one}
use native.Mathlib.Omega.{arith}
use borrow.Author.Tests.{eq-eqb, ne_eqb}
use lib.Dec.{eqb, eqb-suc-zero}
use lib.ListN.{length, take, drop, length-drop}
use lib.Seq.{take_all}
use lib.IntN.{ℤ}
use Rattle.whole.specs.Limit.{W}
use Rattle.rows.specs.Row.{all_within}
use Rattle.rows.specs.Table.{rows_of, row_at}
use Rattle.rows.proofs.Bounded.{bounded-drop}
use Rattle.rows.proofs.TableLaws.{length-rows_of}
use Rattle.tables.proofs.Rowed.{rows_from, rows_start, rows_more}
use Rattle.rules.specs.Inequalities.{first_row, against, first_pair}
use Rattle.std.specs.Prelude.{Some, None}
use Rattle.looks.specs.Found.{row_found, pair_found}

-- the number of a row found behind the first i rows: 0 stays 0
abbrev pub past : ℕ → ℕ → ℕ
past i zero = 0
past i (suc k) = suc (i + k)

past-zero : (k : ℕ) → past 0 k ≡ k
past-zero zero = refl
past-zero (suc k) = omega arith

past-past : (i k : ℕ) → past i (past 1 k) ≡ past (i + 1) k
past-past i zero = refl
past-past i (suc k) = omega arith

past-le : {m : ℕ} (k : ℕ) → k ≤ m → past 1 k ≤ suc m
past-le zero h = zero-le
past-le (suc k) h = omega arith

-- no row is left
pub rows_none : (w count i : ℕ) (t : List ℤ) → count ≤ i → rows_from w count i t ≡ []
unfolding rows_of
rows_none w count i t h = let none : count - i ≡ 0 = omega arith in rw none

-- the rows behind row i: they are lent as what is left of the table
module _ (n i : ℕ) (t : List ℤ) where
  abbrev rest_lent : List ℤ
  rest_lent = take (length t - (i + 1) * (n + 1)) (drop ((i + 1) * (n + 1)) t)

  rest-lent : rest_lent ≡ drop ((i + 1) * suc n) t
  rest-lent = rw (add-one n) (take_all (length t - (i + 1) * suc n) (drop ((i + 1) * suc n) t) (rw (length-drop ((i + 1) * suc n) t) (omega arith)))

  pub rest-within : all_within t ≡ true → all_within rest_lent ≡ true
  rest-within e = ap all_within rest-lent ∙ bounded-drop W ((i + 1) * suc n) t e

  rest-count : i < length t / suc n → length (drop ((i + 1) * suc n) t) / suc n ≡ length t / suc n - (i + 1)
  rest-count h =
      let fits : (i + 1) * suc n ≤ length t = (le-div_iff_mul-le {k = suc n} (omega arith)).0 (omega arith) in
      let more : (length t - (i + 1) * suc n + (i + 1) * suc n) / suc n ≡ (length t - (i + 1) * suc n) / suc n + (i + 1) =
      add-mul-div_right (length t - (i + 1) * suc n) (i + 1) (omega arith) in
      let same : length t - (i + 1) * suc n + (i + 1) * suc n ≡ length t = omega arith in
      let e : length t / suc n ≡ (length t - (i + 1) * suc n) / suc n + (i + 1) = rw same at more in
      rw (length-drop ((i + 1) * suc n) t) (omega arith)

  pub rest-rows : i < length t / suc n → rows_of (suc n) (length rest_lent / suc n) rest_lent ≡ rows_from (suc n) (length t / suc n) (i + 1) t
  rest-rows h = rw (rest-lent, rest-count h)

-- ---- one row passes, or the rows behind it decide
first-here : (test : List ℤ → Bool) (row : List ℤ) (rows : List (List ℤ)) → test row ≡ true → first_row test (row ∷ rows) ≡ 1
unfolding first_row
first-here test row rows e = rw (e, first_row)

first-later : (test : List ℤ → Bool) (row : List ℤ) (rows : List (List ℤ)) → test row ≡ false → first_row test (row ∷ rows) ≡ past 1 (first_row test rows)
unfolding first_row
first-later test row rows e = rw (e, first_row) (go (first_row test rows))
  where
    go : (k : ℕ) → (elim (eqb k 0) [ true ↦ 0 | false ↦ suc k ]) ≡ past 1 k
    go zero = refl
    go (suc k) = rw (eqb-suc-zero k) (omega arith)

-- the number found is that of a row
first-le : (test : List ℤ → Bool) (rows : List (List ℤ)) → first_row test rows ≤ length rows
unfolding first_row
first-le test [] = zero-le
first-le test (row ∷ rows) = go (test row) refl (first-le test rows)
  where
    go : (b : Bool) → test row ≡ b → first_row test rows ≤ length rows → first_row test (row ∷ rows) ≤ suc (length rows)
    go true e h = rw (first-here test row rows e) (omega arith)
    go false e h = rw (first-later test row rows e) (past-le (first_row test rows) h)

-- a test of what is made of the rows
pub first-map : (test : List ℤ → Bool) (f : List ℤ → List ℤ) (rows : List (List ℤ)) → first_row test (map f rows) ≡ first_row (λ row. test (f row)) rows
unfolding first_row
first-map test f [] = refl
first-map test f (row ∷ rows) =
    ap (λ (later : ℕ). elim (test (f row)) [ true ↦ 1 | false ↦ elim (eqb later 0) [ true ↦ 0 | false ↦ suc later ] ]) (first-map test f rows)

-- ---- the loop: none of the first i rows passes
module _ (test : List ℤ → Bool) (w count : ℕ) (t : List ℤ) where
  abbrev whole : ℕ
  whole = first_row test (rows_of w count t)

  abbrev pub Passed : ℕ → Type 0
  Passed i = past i (first_row test (rows_from w count i t)) ≡ whole

  pub passed_start : Passed 0
  passed_start = past-zero (first_row test (rows_from w count 0 t)) ∙ ap (first_row test) (rows_start w count t)

  pub passed_here : (i : ℕ) → i < count → test (row_at w i t) ≡ true → Passed i → i + 1 ≡ whole
  passed_here i h e s =
      let one : i + 1 ≡ past i 1 = omega arith in
      one ∙ ap (past i) (sym (ap (first_row test) (rows_more w count i t h) ∙ first-here test (row_at w i t) (rows_from w count (i + 1) t) e)) ∙ s

  pub passed-next : (i : ℕ) → i < count → test (row_at w i t) ≡ false → Passed i → Passed (i + 1)
  passed-next i h e s =
      sym (past-past i (first_row test (rows_from w count (i + 1) t)))
      ∙ ap (past i) (sym (ap (first_row test) (rows_more w count i t h) ∙ first-later test (row_at w i t) (rows_from w count (i + 1) t) e)) ∙ s

  pub passed_none : (i : ℕ) → count ≤ i → Passed i → 0 ≡ whole
  unfolding first_row
  passed_none i h s = ap (λ (rows : List (List ℤ)). past i (first_row test rows)) (sym (rows_none w count i t h)) ∙ s

-- the answer of the loop
pub found-some : (k : ℕ) {r : ℕ} → row_found k ≡ Some r → (k ≡ r) × (k ≡ 0 → ⊥)
found-some zero e = absurd (cc)
found-some (suc k) e = (cc, λ z. omega arith)

pub found-none : (k : ℕ) → row_found k ≡ None → k ≡ 0
found-none zero e = refl
found-none (suc k) e = absurd (cc)

pub found-pair : (i j : ℕ) → pair_found (i + 1, j) ≡ Some (record { i = i + 1; j = j })
found-pair i j = rw (add-one i) refl

pub found-row : (i : ℕ) {k : ℕ} → i + 1 ≡ k → Some (i + 1) ≡ row_found k
found-row i e = rw (← e, add-one i) refl

-- ---- pairs, the first of the rows being row i, from 0
pair-more : (n i : ℕ) (row : List ℤ) (later : List (List ℤ)) (b : Bool) → let after = first_row (against n row) later in
    eqb after 0 ≡ b → first_pair n i (row ∷ later) ≡ elim b [ true ↦ first_pair n (suc i) later | false ↦ (i, i + after) ]
unfolding first_pair
pair-more n i row later b e =
    ap (λ (b : Bool). elim b [ true ↦ first_pair n (suc i) later | false ↦ (i, i + first_row (against n row) later) ]) e

module _ (n count i : ℕ) (t : List ℤ) where
  abbrev pub pair_from : ℕ × ℕ
  pair_from = first_pair n (i + 1) (rows_from (suc n) count i t)

  abbrev pub after : ℕ
  after = first_row (against n (row_at (suc n) i t)) (rows_from (suc n) count (i + 1) t)

  -- it counts from 1, so it is at most the number of the rows behind row i
  pub after-le : after ≤ count - (i + 1)
  after-le =
      let rows = rows_from (suc n) count (i + 1) t in
      rw (length-rows_of (suc n) (count - (i + 1)) (drop ((i + 1) * suc n) t)) at (first-le (against n (row_at (suc n) i t)) rows)

  pub pair-none : count ≤ i → pair_from ≡ (0, 0)
  unfolding first_pair
  pair-none h = rw (rows_none (suc n) count i t h)

  module _ (h : i < count) where
    more : (b : Bool) → eqb after 0 ≡ b → pair_from ≡ elim b [ true ↦ first_pair n (suc (i + 1)) (rows_from (suc n) count (i + 1) t) | false ↦ (i + 1, i + 1 + after) ]
    more b e = rw (rows_more (suc n) count i t h) (pair-more n (i + 1) (row_at (suc n) i t) (rows_from (suc n) count (i + 1) t) b e)

    pub pair-here : (after ≡ 0 → ⊥) → pair_from ≡ (i + 1, i + 1 + after)
    pair-here e = more false (ne_eqb after 0 e)

    pub pair-next : after ≡ 0 → pair_from ≡ first_pair n (i + 1 + 1) (rows_from (suc n) count (i + 1) t)
    pair-next e = rw (add-one (i + 1)) (more true (eq-eqb after 0 e))
