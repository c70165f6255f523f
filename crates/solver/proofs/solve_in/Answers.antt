-- `solver::solve_in` meets its contract: the checks in their order, and what the call answers by them. At the first two refusals the
-- tables are as they came.
use mathlib.Core.Path.{◌≡◌, sym, ◌∙◌}
use mathlib.Core.Bool.{true}
use Rattle.rules.specs.Outcomes.{in_range, right_lengths}
use Rattle.outcomes.specs.Answered.{tables_in}
use Rattle.solver.proofs.Called.{in-range, all-long, out_of_range, wrong-length, right-length}
use Rattle.solver.proofs.solve_in.Goals.{Else-not-in_range}
use Rattle.solver.proofs.solve_in.Goals as goal

ranged : (c : Else-not-in_range) → in_range c.args.system.n c.args.system.m c.args.system.k ≡ true
ranged c = sym c.in_range.ensures ∙ c.if-not-in_range.false

pub returns-then-not-in_range-clause-answer : goal.returns-then-not-in_range-clause-answer
returns-then-not-in_range-clause-answer c =
    let a = c.args in
    let s = a.system in
    sym (out_of_range s.n s.m s.k a.equations.now a.inequalities.now (tables_in a.state.now a.conflict.now a.rows.now)
    (sym c.in_range.ensures ∙ c.if-not-in_range.true))

pub right_lengths-requires : goal.right_lengths-requires
right_lengths-requires c =
    let s = c.args.system in
    let h = in-range s.n s.m s.k (ranged (goal.at.right_lengths-requires c).Else-not-in_range) in
    (h.1, h.2, h.3)

pub returns-then-not-right_lengths-clause-answer : goal.returns-then-not-right_lengths-clause-answer
unfolding right_lengths
returns-then-not-right_lengths-clause-answer c =
    let a = c.args in
    let s = a.system in
    sym (wrong-length s.n s.m s.k a.equations.now a.inequalities.now (tables_in a.state.now a.conflict.now a.rows.now)
    (ranged (goal.at.returns-then-not-right_lengths-clause-answer c).Else-not-in_range) (sym c.right_lengths.ensures ∙ c.if-not-right_lengths.true))

pub solve_long-requires : goal.solve_long-requires
solve_long-requires c =
    let a = c.args in
    let s = a.system in
    let h = in-range s.n s.m s.k (ranged (goal.at.solve_long-requires c).Else-not-in_range) in
    let l = all-long s a.equations.now a.inequalities.now a.state.now a.conflict.now a.rows.now (sym c.right_lengths.ensures ∙ c.if-not-right_lengths.false) in
    record { size = h; lengths = l }

pub returns-clause-answer : goal.returns-clause-answer
unfolding right_lengths
returns-clause-answer c =
    let a = c.args in
    let s = a.system in
    c.solve_long.ensures.answer
    ∙ sym (right-length s.n s.m s.k a.equations.now a.inequalities.now (tables_in a.state.now a.conflict.now a.rows.now)
    (ranged (goal.at.returns-clause-answer c).Else-not-in_range) (sym c.right_lengths.ensures ∙ c.if-not-right_lengths.false))
