-- `whole::bit_length` meets its contract, by the law over the width, here 64.
use native.Mathlib.Omega.{arith}
use lib.Count.{leading_le}
use Rattle.whole.proofs.BitLengthLaws.{leading}
use Rattle.whole.proofs.bit_length.Goals as goal

pub overflow_sub-result : goal.overflow_sub-result
overflow_sub-result c = omega (arith, leading_le 64 c.args.x)

pub returns : goal.returns
returns c = leading 64 c.args.x c.ranges.x.fits
