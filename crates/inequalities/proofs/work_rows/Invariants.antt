-- `inequalities::work_rows` meets its contract: the rows passed are worked and within the limit, and one that is not is the answer.
use Rattle.std.proofs.Common.{length}
use Rattle.used.specs.Shown.{state_in}
use Rattle.inequalities.proofs.WorkedRows.{Done}
use Rattle.inequalities.proofs.work_rows.Given as goal

abbrev pub invariant-loop-i : goal.invariant-loop-i
invariant-loop-i l =
    Done l.n l.m (length l.initial.used) (state_in l.n l.m l.state) l.inequalities l.initial.tightened l.initial.used l.tightened l.used l.i
