-- `plassobine_solve` meets its contract: the solver's answer in numbers, where there is room for them.
use Rattle.rules.specs.Outcomes.{Answer, solve}
use Rattle.solver.specs.Answered.{answer, tables}
use Rattle.rules.specs.Numbers.{of_outcome}
use Rattle.numbers.specs.Numbers.{five}
use Rattle.exports.specs.Numbered.{solved}
use Rattle.exports.proofs.Room.{without-room, with-room}
use Rattle.exports.proofs.plassobine_solve.Goals as goal

pub returns-then-outcome-ne5 : goal.returns-then-outcome-ne5
unfolding solved
returns-then-outcome-ne5 c = without-room _ _ _ _ c.if-outcome-ne5.true

pub returns : goal.returns
unfolding solved
returns c =
    let s = c in
    let l = s in
    let a = l.args in
    let t = s.solve-answer.new in
    let held = answer s.solve-answer.result t.substitution t.marks t.back t.reasons t.conflict t.tightened t.used in
    let given = tables a.substitution.now a.marks.now a.back.now a.reasons.now a.conflict.now a.tightened.now a.used.now in
    let goal = solve a.n a.m a.k a.equations.now a.inequalities.now given in
    with-room (λ (x : Answer). five (of_outcome x.outcome)) (λ (x : Answer). x.results) held goal _ a.outcome.now given
    l.if-outcome-ne5.false s.solve-answer.ensures c.put_outcome.ensures
