-- The steps that the bit length of the smallest coefficient of a row allows.
use mathlib.Core.Path.{◌≡◌, refl}
use mathlib.Core.List.{List}
use Prim.Native.Nat.{ℕ, suc, ◌≤◌, ◌<◌, ◌*◌}
use native.Mathlib.Omega.{arith}
use lib.ListN.{take}
use lib.Seq.{take-take, get_or-take}
use lib.IntN.{ℤ, pos, nat_abs}
use Rattle.whole.specs.Limit.{W}
use Rattle.whole.specs.BitLength.{bit_length, halvings}
use Rattle.whole.proofs.BitLengthLaws.{bit_length-step, bit_length-mono}
use Rattle.rows.specs.Row.{at, smallest}
use Rattle.rules.specs.Elimination.{step_bound}
use Rattle.stepping.specs.Worked.{bound_of}

-- the bound of a table's first row, and that it is small
pub bound-is : (n : ℕ) (rows : List ℤ) (k : ℕ) → k ≡ smallest (take n rows) → k ≤ n → step_bound (nat_abs (at rows k)) ≡ bound_of n (take (suc n) rows)
bound-is n rows k e h = rw (take-take n (suc n) rows (omega arith), ← e, get_or-take (suc n) rows k (pos 0) (omega arith))

limit-bits : bit_length W ≡ 28
unfolding bit_length halvings
limit-bits = refl

pub bound-small : (x : ℕ) → x ≤ W → step_bound x ≤ 64
unfolding step_bound
bound-small x h = omega (arith, bit_length-mono x W h, limit-bits)

-- a number above 0 has at least one bit
pub one_bit : (x : ℕ) → 0 < x → 1 ≤ 2 * bit_length x
one_bit x h = omega (arith, bit_length-step x h)
