-- `in_place::more_product` meets its contract: 2 ^ 62 and W times W are together below 2 ^ 63.
use mir.Facts.{to_z-of_z}
use Rattle.whole.proofs.Bounds.{bounds, sfits-by}
use Rattle.in_place.proofs.more_product.Goals as goal

pub overflow_mul-result : goal.overflow_mul-result
overflow_mul-result c = sfits-by (search bounds) tt

pub overflow_add-result : goal.overflow_add-result
overflow_add-result c = sfits-by (search bounds) tt

pub returns : goal.returns
returns c = rw (to_z-of_z (overflow_add-result c), to_z-of_z (overflow_mul-result c)) (simp (to_z-of_z c.ranges.a, to_z-of_z c.ranges.c, to_z-of_z c.ranges.b))
