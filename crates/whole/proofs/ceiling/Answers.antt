-- `whole::ceiling` meets its contract: the quotient and what is left fit, as neither is further from 0 than z, and one more than the
-- quotient fits too. The test is the one of the definition.
use mathlib.Core.Path.{◌≡◌}
use mathlib.Core.Bool.{true, false}
use native.Mathlib.Omega.{arith}
use lib.IntN.{pos}
use lib.Signed.{quot_z, rem_z, lt_z}
use mir.Syntax.{w64}
use mir.Val.{SFits, to_z, of_z}
use mir.Facts.{to_z-of_z}
use Rattle.whole.specs.Quotient.{ceiling}
use Rattle.whole.proofs.Order.{orders, eq-nat}
use Rattle.whole.proofs.Bounds.{bounds, sfits-by, bits_pos}
use Rattle.whole.proofs.ceiling.Goals as goal

pub nonzero_div-q : goal.nonzero_div-q
nonzero_div-q c = (bits_pos c.ranges.g (λ e. omega (arith, orders, c.requires.1, eq-nat e)), sfits-by (search bounds) tt)

pub nonzero_rem-z : goal.nonzero_rem-z
nonzero_rem-z c = nonzero_div-q c

-- what the code's quotient and what is left come to
module _ (c : goal.Start) where
  quot_is : to_z w64 (of_z w64 (quot_z (to_z w64 (of_z w64 c.args.z)) (to_z w64 (of_z w64 c.args.g)))) ≡ quot_z c.args.z c.args.g
  quot_is = rw (to_z-of_z (nonzero_div-q c).1, to_z-of_z c.ranges.z, to_z-of_z c.ranges.g)

  rem_is : to_z w64 (of_z w64 (rem_z (to_z w64 (of_z w64 c.args.z)) (to_z w64 (of_z w64 c.args.g)))) ≡ rem_z c.args.z c.args.g
  rem_is =
      let fits : SFits w64 (rem_z c.args.z c.args.g) = sfits-by (search bounds) tt in
      rw (to_z-of_z c.ranges.z, to_z-of_z c.ranges.g) (to_z-of_z fits)

pub overflow_add-result : goal.overflow_add-result
overflow_add-result c = sfits-by (search bounds) tt

pub returns-then-z-g-gt0 : goal.returns-then-z-g-gt0
unfolding ceiling
returns-then-z-g-gt0 c =
    let up : lt_z (pos 0) (rem_z c.before.args.z c.before.args.g) ≡ true = rw (rem_is c.before) at c.if-z-g-gt0.true in
    rw (to_z-of_z (overflow_add-result c), quot_is c.before, up)

pub returns : goal.returns
unfolding ceiling
returns c =
    let down : lt_z (pos 0) (rem_z c.before.args.z c.before.args.g) ≡ false = rw (rem_is c.before) at c.if-z-g-gt0.false in
    rw (quot_is c.before, down)
