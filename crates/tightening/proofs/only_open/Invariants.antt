-- `tightening::only_open` meets its contract: a sweep over the marks. A number at an open column is as it has to be already.
use Rattle.std.proofs.Common.{drop}
use Rattle.rows.proofs.Sweep.{Swept}
use Rattle.rules.specs.Inequalities.{only_open}
use Rattle.tightening.proofs.only_open.Given as goal

abbrev pub invariant-loop-k : goal.invariant-loop-k
invariant-loop-k l = Swept l.initial.row l.row (only_open l.marks l.initial.row) l.k (only_open (drop l.k l.marks) (drop l.k l.initial.row))
