-- The columns of a row from column c on, as the loops meet them: what an open one adds, and -x_i. How many are open.
use mathlib.Core.Path.{◌≡◌, refl, ap, ◌∙◌}
use mathlib.Core.Bool.{Bool, true, false, cond, not}
use mathlib.Core.List.{List, [], ◌∷◌, ◌++◌, map}
use Prim.Native.Nat.{ℕ, suc, ◌+◌, ◌≤◌, ◌<◌}
use native.Mathlib.Omega.{arith}
use borrow.Author.Tests.{eq-eqb, ne_eqb}
use lib.Dec.{eqb}
use lib.ListN.{length, get_or, set, drop, drop_of_length-le, length-set, length-replicate, get_or-replicate}
use lib.Seq.{get_or-set_same, get_or-set_other}
use lib.IntN.{ℤ, pos}
use Rattle.std.specs.List.{count_by}
use Rattle.std.proofs.lemmas.List.Recursion.{is_count_by}
use Rattle.rows.specs.Row.{at, zeros}
use Rattle.rows.proofs.Lists.{tail_at}
use Rattle.matrix.specs.Printed.{signed, turned, spaced, spaced_by, opened, open_columns}
use Rattle.matrix.proofs.Spaced.{spaced-append}

pub open_counted : (marks : List ℕ) → open_columns marks ≡ count_by (λ mark. not (eqb mark 0)) marks
unfolding open_columns
open_counted marks =
    is_count_by open_columns (λ mark. not (eqb mark 0)) refl
    (λ mark more. let n = open_columns more in
    elim (eqb mark 0) as (λ b. cond b n (suc n) ≡ cond (not b) (1 + n) n) [ true ↦ refl | false ↦ omega arith ])
    marks

-- ---- the bytes of a row's open columns and its constant
module _ (opposite : Bool) (marks : List ℕ) (row : List ℤ) where
  abbrev pub open_from : ℕ → List ℕ
  open_from c = spaced (map (turned opposite) (opened (drop c marks) (drop c row)))

  module _ (c : ℕ) (h : c < length marks) (k : c < length row) where
    abbrev rest : List ℤ
    rest = opened (drop (c + 1) marks) (drop (c + 1) row)

    opened-more : (b : Bool) → eqb (get_or marks c 0) 0 ≡ b → opened (drop c marks) (drop c row) ≡ cond b rest (at row c ∷ rest)
    unfolding opened
    opened-more b e = rw (tail_at marks c 0 h, tail_at row c (pos 0) k, e)

    pub open-past : get_or marks c 0 ≡ 0 → open_from c ≡ open_from (c + 1)
    open-past e = ap (λ (l : List ℤ). spaced (map (turned opposite) l)) (opened-more true (eq-eqb (get_or marks c 0) 0 e))

    pub open-here : (get_or marks c 0 ≡ 0 → ⊥) → open_from c ≡ spaced (turned opposite (at row c) ∷ []) ++ open_from (c + 1)
    open-here n =
        ap (λ (l : List ℤ). spaced (map (turned opposite) l)) (opened-more false (ne_eqb (get_or marks c 0) 0 n))
        ∙ spaced-append signed (turned opposite (at row c) ∷ []) (map (turned opposite) rest)

  -- past the last mark only the constant is left
  pub open-last : (c : ℕ) → c ≡ length marks → length row ≡ suc (length marks) → open_from c ≡ spaced (turned opposite (at row c) ∷ [])
  unfolding opened
  open-last c e l =
      let none : drop (c + 1) row ≡ [] = drop_of_length-le row {i = c + 1} (omega arith) in
      rw (drop_of_length-le marks {i = c} (omega arith), tail_at row c (pos 0) (omega arith), none)

-- ---- the bytes of a row that has one number at column i, else 0
module _ (n i : ℕ) (z : ℤ) where
  abbrev row : List ℤ
  row = set (zeros n) i z

  abbrev pub unit_from : ℕ → List ℕ
  unit_from c = spaced (drop c row)

  width : length row ≡ n
  unfolding zeros
  width = length-set (zeros n) i z ∙ length-replicate n (pos 0)

  pub unit-none : (c : ℕ) → n ≤ c → unit_from c ≡ []
  unfolding spaced_by
  unit-none c h = rw (drop_of_length-le row {i = c} (omega (arith, width)))

  module _ (c : ℕ) (h : c < n) where
    unit-more : (a : ℤ) → at row c ≡ a → unit_from c ≡ spaced (a ∷ []) ++ unit_from (c + 1)
    unit-more a e = rw (tail_at row c (pos 0) (omega (arith, width)), e) (spaced-append signed (a ∷ []) (drop (c + 1) row))

    pub unit-here : c ≡ i → unit_from c ≡ spaced (z ∷ []) ++ unit_from (c + 1)
    unfolding zeros
    unit-here e = unit-more z (rw e (get_or-set_same (zeros n) i z (pos 0) (omega (arith, length-replicate n (pos 0)))))

    pub unit-other : (c ≡ i → ⊥) → unit_from c ≡ spaced (pos 0 ∷ []) ++ unit_from (c + 1)
    unfolding zeros
    unit-other e = unit-more (pos 0) (get_or-set_other (zeros n) i c z (pos 0) e ∙ get_or-replicate n c (pos 0) (pos 0) h)
