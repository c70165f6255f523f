-- A bound of the absolute value of an integer expression, found by `search`: where the bounds of the variables are numerals, that a
-- step of the code fits its width is `sfits-by (search bounds) tt`. And facts on the bits of a signed number.
use mathlib.Core.Path.{◌≡◌, refl, ap}
use mathlib.Core.Bool.{Bool, true, false, not}
use Prim.Native.Nat.{ℕ, suc, ◌+◌, ◌*◌, ◌-◌, ◌≤◌, ◌<◌, ◌^◌}
use native.Mathlib.Nat.{le_refl, le_trans, le_of_eq, add-le-add, mul-le-mul, lt_of_le_of_lt, pos_of_ne-zero}
use native.Mathlib.Omega.{arith}
use lib.Dec.{T, ltb, leb, ltb→lt, leb→le, nltb→le, lit≤}
use lib.IntN.{ℤ, pos, negsuc, neg_ℤ, nat_abs, ◌+ℤ◌, ◌-ℤ◌, ◌*ℤ◌}
use lib.Signed.{mag, quot_z, rem_z}
use mir.Syntax.{Width, w8, w16, w32, w64, w128}
use mir.Val.{SFits, hbits, bits, to_z, of_z, sel}
use Rattle.whole.proofs.Integers.{nat_abs-neg, nat_abs-*, nat_abs-+, nat_abs--}
use Rattle.whole.proofs.Division.{quot_le, rem-le}

pub record Bound (z : ℤ) : Type 0 where
  pub n : ℕ
  pub is : nat_abs z ≤ n

-- ---- what is read back from bits
half : (w : Width) → 2 ^ bits w ≡ 2 ^ hbits w + 2 ^ hbits w
half w8 = refl
half w16 = refl
half w32 = refl
half w64 = refl
half w128 = refl

big : (w : Width) → 1 ≤ 2 ^ hbits w
big w8 = lit≤ tt
big w16 = lit≤ tt
big w32 = lit≤ tt
big w64 = lit≤ tt
big w128 = lit≤ tt

sel-ind : (c : Bool) (x y : ℤ) (P : ℤ → Type 0) → (T c → P x) → (T (not c) → P y) → P (sel c x y)
sel-ind true x y P f g = f tt
sel-ind false x y P f g = g tt

to_z-le : (w : Width) (n m : ℕ) → (n < 2 ^ hbits w → n ≤ m) → (2 ^ hbits w ≤ n → suc (2 ^ bits w - suc n) ≤ m) → nat_abs (to_z w n) ≤ m
to_z-le w n m f g = sel-ind (ltb n (2 ^ hbits w)) (pos n) (negsuc (2 ^ bits w - suc n)) (λ z. nat_abs z ≤ m)
    (λ t. f (ltb→lt n (2 ^ hbits w) t)) (λ t. g (nltb→le n (2 ^ hbits w) t))

pub bits-le : (w : Width) (z : ℤ) → nat_abs (to_z w (of_z w z)) ≤ nat_abs z
bits-le w (pos n) = to_z-le w n n (λ h. le_refl n) (λ h. omega (arith, half w, big w))
bits-le w (negsuc n) = to_z-le w (2 ^ bits w - suc n) (suc n) (λ h. omega (arith, half w)) (λ h. omega (arith, half w, big w))

-- ---- the rules: a bound that is known, then one for each operation
abbrev pub b-hyp : {z : ℤ} {m : ℕ} → nat_abs z ≤ m → Bound z
b-hyp {m} h = record { n = m; is = h }

abbrev pub b-add : {a b : ℤ} → Bound a → Bound b → Bound (a +ℤ b)
b-add {a} {b} x y = record { n = x.n + y.n; is = le_trans (nat_abs-+ a b) (add-le-add x.is y.is) }

abbrev pub b-sub : {a b : ℤ} → Bound a → Bound b → Bound (a -ℤ b)
b-sub {a} {b} x y = record { n = x.n + y.n; is = le_trans (nat_abs-- a b) (add-le-add x.is y.is) }

abbrev pub b-mul : {a b : ℤ} → Bound a → Bound b → Bound (a *ℤ b)
b-mul {a} {b} x y = record { n = x.n * y.n; is = le_trans (le_of_eq (nat_abs-* a b)) (mul-le-mul x.is y.is) }

abbrev pub b-neg : {a : ℤ} → Bound a → Bound (neg_ℤ a)
b-neg {a} x = record { n = x.n; is = le_trans (le_of_eq (nat_abs-neg a)) x.is }

abbrev pub b-pos : {m : ℕ} → Bound (pos m)
b-pos {m} = record { n = m; is = le_refl m }

-- a signed local holds bits, and what is read back from the bits of z is never further from 0 than z
abbrev pub b-bits : (w : Width) {z : ℤ} → Bound z → Bound (to_z w (of_z w z))
b-bits w {z} x = record { n = x.n; is = le_trans (bits-le w z) x.is }

abbrev pub b-quot : (a b : ℤ) → Bound a → Bound (quot_z a b)
b-quot a b x = record { n = x.n; is = le_trans (quot_le a b) x.is }

abbrev pub b-rem : (a b : ℤ) → Bound a → Bound (rem_z a b)
b-rem a b x = record { n = x.n; is = le_trans (rem-le a b) x.is }

pub ruleset bounds = (b-sub, b-add, b-mul, b-neg, b-pos, b-bits, b-quot, b-rem, b-hyp)

-- ---- what a bound gives
pub mag-le : (z : ℤ) → mag z ≤ nat_abs z
mag-le (pos m) = le_refl m
mag-le (negsuc m) = omega arith

pub sfits-by : {w : Width} {z : ℤ} (x : Bound z) → T (ltb x.n (2 ^ hbits w)) → SFits w z
sfits-by {w} {z} x t = record { sfits = lt_of_le_of_lt (le_trans (mag-le z) x.is) (ltb→lt x.n (2 ^ hbits w) t) }

pub bound_by : {z : ℤ} {m : ℕ} (x : Bound z) → T (leb x.n m) → nat_abs z ≤ m
bound_by {z} {m} x t = le_trans x.is (leb→le x.n m t)

-- an absolute value below 2 ^ 63 fits an i64
pub fits-abs : (z : ℤ) → nat_abs z < 9223372036854775808 → SFits w64 z
fits-abs z h = record { sfits = lt_of_le_of_lt (mag-le z) h }

-- ---- bits and zero: the divisor of a division, and the test of a loop
pub bits_pos : {w : Width} {b : ℤ} → SFits w b → (b ≡ pos 0 → ⊥) → 0 < of_z w b
bits_pos {w} {b = pos n} f h = pos_of_ne-zero (λ e. h (ap pos e))
bits_pos {w} {b = negsuc n} f h = omega (arith, f.sfits, half w, big w)
