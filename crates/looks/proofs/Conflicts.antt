-- What the two looks for a conflict test: a row of zeros from a column on, a sum above 0, and the tests put together.
use mathlib.Core.Path.{◌≡◌, refl, sym, ap, ◌∙◌}
use mathlib.Core.Bool.{Bool, true, false, not, ◌&&◌, and-false, and-true}
use mathlib.Core.List.{List, [], ◌∷◌}
use Prim.Native.Nat.{ℕ}
use native.Mathlib.Nat.{pos_of_ne-zero}
use native.Mathlib.Omega.{arith}
use borrow.Author.Tests.{eqb-true, eqb-false, ne_eqb}
use lib.Dec.{eqb}
use lib.ListN.{take}
use lib.IntN.{ℤ, nat_abs, ◌+ℤ◌}
use Rattle.std.specs.List.{list_all}
use Rattle.whole.specs.Gcd.{gcd}
use Rattle.whole.proofs.GcdLaws.{gcd-zero-l, gcd-nonzero-l}
use Rattle.rows.specs.Row.{at, gcd_of, opposite, all_zero}
use Rattle.rules.specs.Inequalities.{positive, alone, against}

-- ---- a row of zeros
pub zeros-all : (row : List ℤ) → list_all (λ z. eqb (nat_abs z) 0) row ≡ all_zero row
unfolding all_zero
zeros-all [] = refl
zeros-all (a ∷ row) = ap (λ (b : Bool). eqb (nat_abs a) 0 && b) (zeros-all row)

-- those rows are the ones with greatest common divisor 0
zero-gcd : (row : List ℤ) → all_zero row ≡ eqb (gcd_of row) 0
unfolding all_zero gcd_of
zero-gcd [] = refl
zero-gcd (a ∷ row) = go (eqb (nat_abs a) 0) refl (zero-gcd row)
  where
    go : (b : Bool) → eqb (nat_abs a) 0 ≡ b → all_zero row ≡ eqb (gcd_of row) 0 → b && all_zero row ≡ eqb (gcd (nat_abs a) (gcd_of row)) 0
    go true e h = h ∙ rw (eqb-true (nat_abs a) 0 e, gcd-zero-l (gcd_of row))
    go false e h =
        let k = gcd-nonzero-l (nat_abs a) (gcd_of row) (pos_of_ne-zero (eqb-false (nat_abs a) 0 e)) in
        sym (ne_eqb (gcd (nat_abs a) (gcd_of row)) 0 (λ z. omega arith))

-- ---- the tests put together
pub alone-not : (n : ℕ) (row : List ℤ) → all_zero (take n row) ≡ false → alone n row ≡ false
unfolding alone
alone-not n row e = rw e

pub alone-by : (n : ℕ) (row : List ℤ) → all_zero (take n row) ≡ true → alone n row ≡ positive (at row n)
unfolding alone
alone-by n row e = rw e

module _ (n : ℕ) (row other : List ℤ) where
  pub against-low : positive (at row n +ℤ at other n) ≡ false → against n row other ≡ false
  unfolding against
  against-low e = rw (e, and-false (not (all_zero (take n row))), and-false (opposite (take n row) (take n other)))

  pub against-unlike : opposite (take n row) (take n other) ≡ false → against n row other ≡ false
  unfolding against
  against-unlike e = rw e

  pub against-by : opposite (take n row) (take n other) ≡ true → positive (at row n +ℤ at other n) ≡ true
      → against n row other ≡ not (eqb (gcd_of (take n row)) 0)
  unfolding against
  against-by e f = rw (e, f, and-true (not (all_zero (take n row))), zero-gcd (take n row))
