-- `whole::exactly` meets its contract: the divisor is not 0, and the quotient is not further from 0 than the dividend, so it fits.
use mir.Facts.{to_z-of_z}
use Rattle.whole.specs.Quotient.{exactly}
use Rattle.whole.proofs.Bounds.{bounds, sfits-by, bits_pos}
use Rattle.whole.proofs.exactly.Goals as goal

pub nonzero_div-result : goal.nonzero_div-result
nonzero_div-result c = (bits_pos c.ranges.g c.requires.1, sfits-by (search bounds) tt)

pub returns : goal.returns
unfolding exactly
returns c = rw (to_z-of_z (nonzero_div-result c).1, to_z-of_z c.ranges.z, to_z-of_z c.ranges.g)
