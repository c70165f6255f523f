-- `outcomes::look` meets its contract: the three answers, by what the two looks find.
use mathlib.Core.Path.{sym, ◌∙◌}
use Prim.Native.Nat.{suc, ◌/◌}
use lib.ListN.{length}
use Rattle.rows.specs.Table.{rows_of}
use Rattle.outcomes.proofs.Looked.{looked-one, looked-two, looked-open}
use Rattle.outcomes.proofs.look.Goals as goal

pub returns-in-Some : goal.returns-in-Some
returns-in-Some c =
    let a = c.args in
    let k = length a.tightened.now / suc a.n in
    looked-one a.n k a.steps (rows_of (suc a.n) k a.tightened.now) (sym c.first_alone.ensures ∙ c.in-Some.is)

pub returns-in-Some-first_pair : goal.returns-in-Some-first_pair
returns-in-Some-first_pair c =
    let a = c.args in
    let k = length a.tightened.now / suc a.n in
    looked-two a.n k a.steps (rows_of (suc a.n) k a.tightened.now) (sym c.first_alone.ensures ∙ c.in_default.is)
    (sym c.first_pair.ensures ∙ c.in-Some-first_pair.is)

pub returns : goal.returns
returns c =
    let a = c.args in
    let k = length a.tightened.now / suc a.n in
    looked-open a.n k a.steps (rows_of (suc a.n) k a.tightened.now) (sym c.first_alone.ensures ∙ c.in_default.is)
    (sym c.first_pair.ensures ∙ c.in_default-first_pair.is)
