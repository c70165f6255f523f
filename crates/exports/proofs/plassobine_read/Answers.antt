-- `plassobine_read` meets its contract: the reader's answer in numbers, where there is room for them.
use Rattle.matrix.specs.Reader.{Read, reply}
use Rattle.rules.specs.Numbers.{of_reading}
use Rattle.numbers.specs.Numbers.{five}
use Rattle.exports.specs.Numbered.{read_into}
use Rattle.exports.proofs.Room.{without-room, with-room}
use Rattle.exports.proofs.plassobine_read.Goals as goal

pub returns-then-outcome-ne5 : goal.returns-then-outcome-ne5
unfolding read_into
returns-then-outcome-ne5 c = without-room _ _ _ _ c.if-outcome-ne5.true

pub returns : goal.returns
unfolding read_into
returns c =
    let r = c in
    let l = r in
    let a = l.args in
    with-room (λ (x : Read). five (of_reading x.reading)) (λ (x : Read). (x.equations, x.inequalities)) (reply _ _ _) _ _ a.outcome.now
    (a.equations.now, a.inequalities.now) l.if-outcome-ne5.false r.read-reading.ensures c.put_reading.ensures
