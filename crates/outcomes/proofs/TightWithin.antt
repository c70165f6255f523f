-- Tightened rows stay within the limit where the sums are: a closed column becomes 0, a coefficient is divided, and the constant becomes
-- its quotient rounded up, which is not further from 0.
use mathlib.Core.Path.{◌≡◌, refl, ◌∙◌}
use mathlib.Core.Bool.{Bool, true, false, not, ◌&&◌}
use mathlib.Core.List.{List, [], ◌∷◌, ◌++◌, map}
use Prim.Native.Nat.{ℕ, suc, ◌≤◌}
use native.Mathlib.Nat.{le_trans}
use native.Mathlib.Omega.{arith}
use borrow.Author.Tests.{leb-true, le-leb, eqb-true, not-false}
use lib.Dec.{eqb, leb}
use lib.ListN.{take}
use lib.IntN.{ℤ, pos, nat_abs}
use Rattle.whole.specs.Limit.{W}
use Rattle.whole.specs.Gcd.{divides}
use Rattle.whole.specs.Quotient.{ceiling}
use Rattle.whole.proofs.Order.{orders}
use Rattle.whole.proofs.QuotientLaws.{ceiling-le}
use Rattle.rows.specs.Row.{at, gcd_of, divided, all_within}
use Rattle.rows.specs.Table.{flat}
use Rattle.rows.proofs.Bounded.{and_left, and_both, bounded_at, bounded-nil, bounded-cons, bounded-append, bounded-take, bounded-divided}
use Rattle.rules.specs.Elimination.{State}
use Rattle.rules.specs.Inequalities.{sums, only_open, tighten, tightened_row, first_row}
use Rattle.tightening.proofs.OpenColumns.{bounded-only_open}

-- ---- one row
tighten-within : (n : ℕ) (row : List ℤ) → all_within row ≡ true → all_within (tighten n row) ≡ true
unfolding tighten
tighten-within n row w = go (leb 2 g && not (divides g (at row n))) refl
  where
    g : ℕ
    g = gcd_of (take n row)

    c : ℤ
    c = ceiling (at row n) (pos g)

    front : List ℤ
    front = divided (pos g) (take n row)

    go : (b : Bool) → leb 2 g && not (divides g (at row n)) ≡ b → all_within (elim b [ true ↦ front ++ c ∷ [] | false ↦ row ]) ≡ true
    go false e = w
    go true e =
        let two : 2 ≤ g = leb-true 2 g (and_left (leb 2 g) (not (divides g (at row n))) e) in
        let small : nat_abs c ≤ W = le_trans (ceiling-le (at row n) (pos g) (omega (arith, orders))) (bounded_at W row n w) in
        bounded-append W front (c ∷ [])
        ∙ and_both (bounded-divided W (pos g) (take n row) (bounded-take W n row w)) (bounded-cons W c [] ∙ and_both (le-leb (nat_abs c) W small) (bounded-nil W))

row_within : (n : ℕ) (s : State) (row : List ℤ) → all_within (sums n s.substitution row) ≡ true → all_within (tightened_row n s row) ≡ true
unfolding tightened_row
row_within n s row w =
    let all = sums n s.substitution row in tighten-within n (only_open s.marks all) (bounded-only_open W s.marks all w)

-- ---- no row passes the test where none is found: not the first, and none of the others
module _ (test : List ℤ → Bool) (row : List ℤ) (rows : List (List ℤ)) where
  none_found : first_row test (row ∷ rows) ≡ 0 → (test row ≡ false) × (first_row test rows ≡ 0)
  unfolding first_row
  none_found e = go (test row) refl (eqb (first_row test rows) 0) refl e
    where
      go : (b : Bool) → test row ≡ b → (d : Bool) → eqb (first_row test rows) 0 ≡ d
          → ◌≡◌ {A = ℕ} (elim b [ true ↦ 1 | false ↦ elim d [ true ↦ 0 | false ↦ suc (first_row test rows) ] ]) 0
          → (test row ≡ false) × (first_row test rows ≡ 0)
      go true t d h z = absurd (omega arith)
      go false t true h z = (t, eqb-true (first_row test rows) 0 h)
      go false t false h z = absurd (omega arith)

-- ---- all rows
pub rows-within : (n : ℕ) (s : State) (rows : List (List ℤ)) → first_row (λ row. not (all_within row)) (map (sums n s.substitution) rows) ≡ 0
    → all_within (flat (map (tightened_row n s) rows)) ≡ true
unfolding flat
rows-within n s [] e = bounded-nil W
rows-within n s (row ∷ rows) e =
    let all = sums n s.substitution in
    let none = none_found (λ row. not (all_within row)) (all row) (map all rows) e in
    bounded-append W (tightened_row n s row) (flat (map (tightened_row n s) rows))
    ∙ and_both (row_within n s row (not-false (all_within (all row)) none.0)) (rows-within n s rows none.1)
