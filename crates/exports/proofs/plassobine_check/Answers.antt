-- `plassobine_check` meets its contract: the checker's answer in numbers, where there is room for them.
use Rattle.std.specs.Prelude.{Bool, Result}
use Rattle.rules.specs.declared.Refusal.{Refusal}
use Rattle.rules.specs.Numbers.{of_verdict}
use Rattle.numbers.specs.Numbers.{five}
use Rattle.exports.specs.Numbered.{checked}
use Rattle.exports.proofs.Room.{without-room, with-room}
use Rattle.exports.proofs.plassobine_check.Goals as goal

pub returns-then-outcome-ne5 : goal.returns-then-outcome-ne5
unfolding checked
returns-then-outcome-ne5 c = without-room _ tt _ tt c.if-outcome-ne5.true

pub returns : goal.returns
unfolding checked
returns c =
    let v = c in
    let a = v.args in
    with-room (λ (x : Result Bool Refusal). five (of_verdict x)) (λ (x : Result Bool Refusal). tt) _ _ _ a.outcome.now tt v.if-outcome-ne5.false v.check-verdict.ensures c.put_verdict.ensures
