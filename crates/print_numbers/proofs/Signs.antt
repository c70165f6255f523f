-- A number or its opposite: its sign and its absolute value.
use mathlib.Core.Path.{◌≡◌, refl, sym}
use mathlib.Core.Bool.{Bool, true, false}
use mathlib.Core.List.{◌∷◌}
use Prim.Native.Nat.{zero, suc}
use native.Mathlib.Omega.{arith}
use borrow.Author.Tests.{lt-ltb, le-ltb}
use lib.IntN.{ℤ, pos, negsuc, neg_ℤ, nat_abs}
use lib.Signed.{lt_z}
use Rattle.whole.proofs.Integers.{nat_abs-neg}
use Rattle.matrix.specs.Bytes.{minus}
use Rattle.matrix.specs.Printed.{decimal, signed, turned}

abs-turned : (opposite : Bool) (z : ℤ) → nat_abs (turned opposite z) ≡ nat_abs z
unfolding turned
abs-turned true z = nat_abs-neg z
abs-turned false z = refl

-- the opposite is below 0 where the number is above
pub below-turned : (z : ℤ) → lt_z (neg_ℤ z) (pos 0) ≡ lt_z (pos 0) z
below-turned (pos zero) = refl
below-turned (pos (suc n)) = sym (lt-ltb 0 (suc n) (omega arith))
below-turned (negsuc n) = le-ltb (suc n) 0 (omega arith)

module _ (opposite : Bool) (z : ℤ) where
  pub signed_below : lt_z (turned opposite z) (pos 0) ≡ true → signed (turned opposite z) ≡ minus ∷ decimal (nat_abs z)
  unfolding signed
  signed_below e = rw (e, abs-turned opposite z)

  pub signed_above : lt_z (turned opposite z) (pos 0) ≡ false → signed (turned opposite z) ≡ decimal (nat_abs z)
  unfolding signed
  signed_above e = rw (e, abs-turned opposite z)
