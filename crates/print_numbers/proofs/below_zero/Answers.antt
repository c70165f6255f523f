-- `print_numbers::below_zero` meets its contract: the opposite is below 0 where the number is above.
use mathlib.Core.Path.{sym}
use mir.Facts.{to_z-of_z}
use Rattle.matrix.specs.Printed.{turned}
use Rattle.print_numbers.proofs.Signs.{below-turned}
use Rattle.print_numbers.proofs.below_zero.Goals as goal

pub returns-then-opposite : goal.returns-then-opposite
unfolding turned
returns-then-opposite c = rw (to_z-of_z c.ranges.z, c.if-opposite.true) (sym (below-turned c.args.z))

pub returns-else-opposite : goal.returns-else-opposite
unfolding turned
returns-else-opposite c = rw (to_z-of_z c.ranges.z, c.if-opposite.false)
