-- The three ways that `tighten` can go, and the row in the code's form.
use mathlib.Core.Path.{◌≡◌, ap, ◌∙◌}
use mathlib.Core.Bool.{Bool, true, false, not, ◌&&◌, and-false}
use mathlib.Core.List.{List, [], ◌∷◌, ◌++◌}
use Prim.Native.Nat.{ℕ, suc, ◌+◌, ◌%◌, ◌≤◌, ◌<◌}
use native.Mathlib.Omega.{arith}
use borrow.Author.Tests.{eq-eqb, ne_eqb, le-leb, lt-leb}
use lib.Dec.{leb}
use lib.ListN.{length, take, drop, set, drop_of_length-le}
use lib.Seq.{set_at}
use lib.IntN.{ℤ, pos, nat_abs}
use mir.Syntax.{w64}
use mir.Val.{to_z, of_z, SFits}
use mir.Facts.{to_z-of_z}
use Rattle.whole.specs.Limit.{W}
use Rattle.whole.proofs.Bounds.{bounds, sfits-by}
use Rattle.whole.specs.Gcd.{divides}
use Rattle.whole.specs.Quotient.{ceiling}
use Rattle.rows.specs.Row.{at, gcd_of, divided}
use Rattle.rows.proofs.Lists.{tail_at}
use Rattle.rules.specs.Inequalities.{tighten}

-- ---- the row stays where the coefficients have no common divisor of 2 or more, or where it divides the constant: else it is new
module _ (n : ℕ) (row : List ℤ) where
  abbrev g : ℕ
  g = gcd_of (take n row)

  abbrev new : List ℤ
  new = divided (pos g) (take n row) ++ ceiling (at row n) (pos g) ∷ []

  tight-by : (b : Bool) → leb 2 g && not (divides g (at row n)) ≡ b → tighten n row ≡ elim b [ true ↦ new | false ↦ row ]
  unfolding tighten
  tight-by b e = ap (λ (b : Bool). elim b [ true ↦ new | false ↦ row ]) e

  pub tight-small : g < 2 → tighten n row ≡ row
  tight-small h = tight-by false (rw (lt-leb 2 g h))

  pub tight-even : nat_abs (at row n) % g ≡ 0 → tighten n row ≡ row
  tight-even e = tight-by false (rw (eq-eqb (nat_abs (at row n) % g) 0 e, and-false (leb 2 g)))

  pub tight-new : 2 ≤ g → (nat_abs (at row n) % g ≡ 0 → ⊥) → tighten n row ≡ new
  tight-new h e = tight-by true (rw (le-leb 2 g h, ne_eqb (nat_abs (at row n) % g) 0 e))

-- ---- the row in the code's form: the first numbers divided where they stand, then the constant put behind them
pub put_last : (n : ℕ) (front row : List ℤ) (z : ℤ) → length front ≡ n → length row ≡ suc n → set (front ++ drop n row) n z ≡ front ++ z ∷ []
put_last n front row z e h =
    let one : drop n row ≡ at row n ∷ [] = tail_at row n (pos 0) (omega arith) ∙ ap (λ (l : List ℤ). at row n ∷ l) (drop_of_length-le row {i = n + 1} (omega arith)) in
    ap (λ (l : List ℤ). set (front ++ l) n z) one ∙ set_at front (at row n) [] z n e

-- ---- a number within the limit is read back from its bits as it is
pub back-small : (z : ℤ) → nat_abs z ≤ W → to_z w64 (of_z w64 z) ≡ z
back-small z h = let f : SFits w64 z = sfits-by (search bounds) tt in to_z-of_z f
