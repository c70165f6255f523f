-- The laws of the bit length: how it is counted from the leading zeros, what halving takes from it, and that it grows with the number.
use mathlib.Core.Path.{◌≡◌, refl, ap, ◌∙◌}
use Prim.Native.Nat.{ℕ, zero, suc, ◌*◌, ◌-◌, ◌/◌, ◌^◌, ◌≤◌, ◌<◌}
use native.Mathlib.Nat.{le_refl, two-pow-succ}
use native.Mathlib.Omega.{arith}
use lib.Count.{count_leading_zeros, leading_le}
use Rattle.whole.specs.BitLength.{halvings, bit_length}

-- ---- the number of halvings does not depend on how many are allowed, where they are enough
below_power : (x : ℕ) → x < 2 ^ x
below_power zero = omega arith
below_power (suc x) = omega (arith, below_power x, two-pow-succ x)

enough : (k m x : ℕ) → x < 2 ^ k → x < 2 ^ m → halvings k x ≡ halvings m x
unfolding halvings
enough zero zero x h l = refl
enough zero (suc m) zero h l = refl
enough zero (suc m) (suc x) h l = absurd (omega arith)
enough (suc k) zero zero h l = refl
enough (suc k) zero (suc x) h l = absurd (omega arith)
enough (suc k) (suc m) zero h l = refl
enough (suc k) (suc m) (suc x) h l =
    ap suc (enough k m (suc x / 2) (omega (arith, two-pow-succ k)) (omega (arith, two-pow-succ m)))

-- ---- from the leading zeros, once for every width
counted : (k x : ℕ) → k - count_leading_zeros k x ≡ halvings k x
unfolding halvings count_leading_zeros
counted zero x = refl
counted (suc k) zero = omega arith
counted (suc k) (suc x) = omega (arith, leading_le k (suc x / 2), counted k (suc x / 2))

pub leading : (k x : ℕ) → x < 2 ^ k → k - count_leading_zeros k x ≡ bit_length x
unfolding bit_length
leading k x h = counted k x ∙ enough k x x h (below_power x)

-- ---- by halving
pub bit_length-step : (x : ℕ) → 0 < x → bit_length x ≡ suc (bit_length (x / 2))
unfolding bit_length halvings
bit_length-step zero h = absurd (omega arith)
bit_length-step (suc x) h =
    ap suc (enough x (suc x / 2) (suc x / 2) (omega (arith, below_power x)) (below_power (suc x / 2)))

-- ---- with the number
halvings-mono : (k x y : ℕ) → x ≤ y → halvings k x ≤ halvings k y
unfolding halvings
halvings-mono zero x y h = le_refl 0
halvings-mono (suc k) zero y h = omega arith
halvings-mono (suc k) (suc x) zero h = absurd (omega arith)
halvings-mono (suc k) (suc x) (suc y) h = omega (arith, halvings-mono k (suc x / 2) (suc y / 2) (omega arith))

pub bit_length-mono : (x y : ℕ) → x ≤ y → bit_length x ≤ bit_length y
unfolding bit_length
bit_length-mono x y h =
    let p : x < 2 ^ y = omega (arith, below_power y) in
    rw (enough x y x (below_power x) p) (halvings-mono y x y h)

-- what is at most half is at least one bit shorter
pub bit_length-half : (x y : ℕ) → 2 * x ≤ y → 0 < y → suc (bit_length x) ≤ bit_length y
bit_length-half x y h p = omega (arith, bit_length-step y p, bit_length-mono x (y / 2) (omega arith))
