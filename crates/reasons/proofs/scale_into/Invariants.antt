-- `reasons::scale_into` meets its contract: a sweep that writes c times each number of one row into another.
use lib.ListN.{drop}
use Rattle.rows.specs.Row.{scaled}
use Rattle.rows.proofs.Sweep.{Swept}
use Rattle.reasons.proofs.scale_into.Given as goal

abbrev pub invariant-loop-i : goal.invariant-loop-i
invariant-loop-i l = Swept l.initial.into l.into (scaled l.c l.row) l.i (scaled l.c (drop l.i l.row))
