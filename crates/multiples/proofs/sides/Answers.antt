-- `multiples::sides` meets its contract: 2 ^ 62, W times W and W are together below 2 ^ 63, and the signs tell the limit.
use mathlib.Core.Path.{◌∙◌}
use lib.IntN.{pos, ◌+ℤ◌, ◌-ℤ◌}
use mir.Syntax.{w64}
use mir.Val.{to_z, of_z}
use mir.Facts.{to_z-of_z}
use Rattle.whole.specs.Limit.{W}
use Rattle.whole.proofs.Bounds.{bounds, sfits-by}
use Rattle.multiples.proofs.Signs.{sign-or, sides-within}
use Rattle.multiples.proofs.sides.Goals as goal

pub overflow_add-result : goal.overflow_add-result
overflow_add-result c = sfits-by (search bounds) tt

pub overflow_sub-result : goal.overflow_sub-result
overflow_sub-result c = sfits-by (search bounds) tt

pub returns : goal.returns
returns c =
    let z = to_z w64 (of_z w64 c.args.z) in
    sign-or (of_z w64 (z +ℤ pos W)) (of_z w64 (pos W -ℤ z))
    ∙ rw (to_z-of_z (overflow_add-result c), to_z-of_z (overflow_sub-result c), to_z-of_z c.ranges.z) (sides-within c.args.z)
