-- `put_byte` meets its contract: the test is that of `put`.
use mathlib.Core.Path.{refl, sym}
use Rattle.matrix.specs.Poured.{written}
use Rattle.matrix.proofs.Written.{put-room, put_full}
use Rattle.print_numbers.proofs.Page.put_byte.Goals as goal

pub returns-then-self : goal.returns-then-self
unfolding written
returns-then-self c = record { shows = sym (put-room _ _ _ c.if-self.true); same_cells = refl }

pub returns-else-self : goal.returns-else-self
unfolding written
returns-else-self c = record { shows = sym (put_full _ _ _ c.if-self.false); same_cells = refl }
