-- The loop of `all_rows::in_order`. Before row j the tails of the tables are good, at most 64·j steps are made, and what the run from
-- row j comes to is what the whole run comes to.
use Rattle.rows.specs.Row.{all_within}
use Rattle.rules.specs.Elimination.{in_order}
use Rattle.rules.specs.Lent.{SameTables, SameLengths}
use Rattle.stepping.specs.Worked.{state_now}
use Rattle.all_rows.specs.Ran.{carried_now}
use Rattle.all_rows.proofs.Order.{Ahead}
use Rattle.all_rows.proofs.in_order.Given as goal

abbrev pub invariant-loop-j : goal.invariant-loop-j
invariant-loop-j l =
    let s = l.state in
    SameTables l.fn.state s
    × SameLengths l.fn.state s
    × Ahead (in_order all_within l.n l.m 1 (carried_now l.n l.m l.fn.work) (state_now l.n l.m l.fn.state 0)) l.n l.m
    l.rows l.multipliers l.divisors s.substitution.now s.marks.now s.way_back.now s.reasons.now l.steps l.j
