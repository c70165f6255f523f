-- `multiples::less_product` meets its contract: 2 ^ 62 and W times W are together below 2 ^ 63.
use mir.Facts.{to_z-of_z}
use Rattle.whole.proofs.Bounds.{bounds, sfits-by}
use Rattle.multiples.proofs.less_product.Goals as goal

pub overflow_mul-result : goal.overflow_mul-result
overflow_mul-result c = sfits-by (search bounds) tt

pub overflow_sub-result : goal.overflow_sub-result
overflow_sub-result c = sfits-by (search bounds) tt

pub returns : goal.returns
returns c = rw (to_z-of_z (overflow_sub-result c), to_z-of_z (overflow_mul-result c)) (simp (to_z-of_z c.ranges.a, to_z-of_z c.ranges.q, to_z-of_z c.ranges.b))
