-- `coefficients::quotients` meets its contract: a sweep that writes the quotient of each number of one row into another.
use Rattle.std.proofs.Common.{drop}
use Rattle.rows.specs.Row.{quotients}
use Rattle.rows.proofs.Sweep.{Swept}
use Rattle.coefficients.proofs.quotients.Given as goal

abbrev pub invariant-loop-i : goal.invariant-loop-i
invariant-loop-i l = Swept l.initial.into l.into (quotients l.a l.row) l.i (quotients l.a (drop l.i l.row))
