-- `multiples::product` meets its contract: W times W is below 2 ^ 63.
use mir.Facts.{to_z-of_z}
use Rattle.whole.proofs.Bounds.{bounds, sfits-by}
use Rattle.multiples.proofs.product.Goals as goal

pub overflow_mul-result : goal.overflow_mul-result
overflow_mul-result c = sfits-by (search bounds) tt

pub returns : goal.returns
returns c = rw (to_z-of_z (overflow_mul-result c)) (simp (to_z-of_z c.ranges.p, to_z-of_z c.ranges.a))
