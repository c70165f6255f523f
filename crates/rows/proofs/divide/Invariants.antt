-- `rows::divide` meets its contract: a sweep that puts each number's quotient in its place.
use lib.ListN.{drop}
use Rattle.rows.specs.Row.{divided}
use Rattle.rows.proofs.Sweep.{Swept}
use Rattle.rows.proofs.divide.Given as goal

abbrev pub invariant-loop-z : goal.invariant-loop-z
invariant-loop-z l = Swept l.fn.row l.z-items (divided l.g l.fn.row) l.z-index (divided l.g (drop l.z-index l.fn.row))
