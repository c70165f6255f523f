-- The sign of a number is the highest of its 64 bits, so that `|` of two numbers is negative where one of them is. And z is within the
-- limit where neither z + W nor W - z is negative.
use mathlib.Core.Path.{◌≡◌, refl, sym, ap₂, ◌∙◌}
use mathlib.Core.Bool.{Bool, true, false, ◌&&◌, and-true, cond}
use Prim.Native.Nat.{ℕ, zero, suc, ◌-◌, ◌^◌}
use native.Mathlib.Omega.{arith}
use borrow.Author.Tests.{ltb-true, ltb-false, lt-ltb, le-ltb, le-leb, lt-leb}
use lib.Bits.{bit_or, or_lt, or_add_and, and_le_l, and_le_r}
use lib.Dec.{ltb, leb, leb-zero}
use lib.IntN.{ℤ, pos, negsuc, sub_ℕ, ◌+ℤ◌, ◌-ℤ◌}
use lib.Signed.{non_neg, le_z}
use mir.Syntax.{w64}
use mir.Val.{to_z, sel}
use Rattle.whole.specs.Limit.{W, within}

-- ---- the sign: the highest bit, and the code's test
sign_bit : (n : ℕ) → non_neg (to_z w64 n) ≡ ltb n (2 ^ 63)
sign_bit n = go (ltb n (2 ^ 63))
  where
    go : (t : Bool) → non_neg (sel t (pos n) (negsuc (2 ^ 64 - suc n))) ≡ t
    go true = refl
    go false = refl

pub sign-test : (z : ℤ) → le_z (pos 0) z ≡ non_neg z
sign-test (pos n) = leb-zero n
sign-test (negsuc n) = refl

-- ---- the sign of `|`
below : (a b : ℕ) → ltb (bit_or a b) (2 ^ 63) ≡ ltb a (2 ^ 63) && ltb b (2 ^ 63)
below a b = go (ltb a (2 ^ 63)) (ltb b (2 ^ 63)) refl refl
  where
    go : (s t : Bool) → ltb a (2 ^ 63) ≡ s → ltb b (2 ^ 63) ≡ t → ltb (bit_or a b) (2 ^ 63) ≡ s && t
    go true true d e = lt-ltb (bit_or a b) (2 ^ 63) (or_lt 63 a b (ltb-true a (2 ^ 63) d) (ltb-true b (2 ^ 63) e))
    go true false d e = le-ltb (bit_or a b) (2 ^ 63) (omega (arith, or_add_and a b, and_le_l a b, ltb-false b (2 ^ 63) e))
    go false t d e = le-ltb (bit_or a b) (2 ^ 63) (omega (arith, or_add_and a b, and_le_r a b, ltb-false a (2 ^ 63) d))

pub sign-or : (a b : ℕ) → non_neg (to_z w64 (bit_or a b)) ≡ non_neg (to_z w64 a) && non_neg (to_z w64 b)
sign-or a b = sign_bit (bit_or a b) ∙ below a b ∙ sym (ap₂ (λ s t. s && t) (sign_bit a) (sign_bit b))

-- ---- the limit: one of the two numbers is W less the absolute value, and the other is never negative
sign-sub : (a b : ℕ) → non_neg (sub_ℕ a b) ≡ leb b a
sign-sub a b = go (ltb a b) refl
  where
    go : (t : Bool) → ltb a b ≡ t → non_neg (cond t (negsuc (b - suc a)) (pos (a - b))) ≡ leb b a
    go true e = sym (lt-leb b a (ltb-true a b e))
    go false e = sym (le-leb b a (ltb-false a b e))

pub sides-within : (z : ℤ) → non_neg (z +ℤ pos W) && non_neg (pos W -ℤ z) ≡ within z
sides-within (pos zero) = refl
sides-within (pos (suc n)) = sign-sub W (suc n)
sides-within (negsuc n) = and-true (non_neg (sub_ℕ W (suc n))) ∙ sign-sub W (suc n)
