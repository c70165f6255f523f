-- `all_rows::in_order` meets its contract: a row that passes leaves the run of the rows behind it; where one does not, the run ends with
-- its answer.
use Rattle.std.proofs.Common.{rules, ◌≡◌, suc, ◌*◌, length, take, pos, to_z, of_z, w64}
use mathlib.Core.Path.{ap, ◌∙◌}
use native.Mathlib.Nat.{add-sub_cancel_left}
use native.Mathlib.Numerals.{add-one}
use native.Mathlib.Omega.{arith}
use lib.ListN.{length-drop}
use lib.Seq.{length-take-le}
use Rattle.rules.specs.Elimination.{unmet, large}
use Rattle.closing.proofs.ShutTables.{rest-lent, rest_back}
use Rattle.all_rows.proofs.Order.{ahead-end, answered, conflict-small, multipliers-inside}
use Rattle.all_rows.proofs.OrderNext.{Returned, ahead-next, conflict-noted}
use Rattle.all_rows.proofs.in_order.Goals as goal

pub signed-requires : goal.signed-requires
signed-requires c =
    let a = c.args in
    let j = c.loop-j.j in
    let told =
    rw (c.in-Unmet.is, add-one a.n, rest-lent (j * suc a.n) c.loop-j.rows, rest-lent (j * a.m) c.loop-j.multipliers, rest-lent j c.loop-j.divisors)
    at c.from_row-found.ensures.made in
    omega (arith, conflict-small c.loop-j.invariant.2 c.loop-j-test.true _ c.in-Unmet.d c.in-Unmet.done told)

pub returns-in-Unmet-clause-run : goal.returns-in-Unmet-clause-run
returns-in-Unmet-clause-run c =
    let a = c.args in
    let j = c.loop-j.j in
    let m = a.m in
    let multipliers = c.from_row-found.new.multipliers in
    let g = c.loop-j.invariant.2 in
    let told =
    rw (c.in-Unmet.is, add-one a.n, rest-lent (j * suc a.n) c.loop-j.rows, rest-lent (j * m) c.loop-j.multipliers, rest-lent j c.loop-j.divisors)
    at c.from_row-found.ensures.made in
    let inside = multipliers-inside g c.loop-j-test.true in
    let kept = rw (rest-lent (j * m) c.loop-j.multipliers) at c.from_row-found.auto.multipliers in
    let row = rest_back (j * m) c.loop-j.multipliers multipliers (omega (arith, inside)) in
    let copied = rw (add-sub_cancel_left (j * m) m, row) at c.copy.ensures in
    let long = length-take-le m multipliers (omega (arith, inside, kept, length-drop (j * m) c.loop-j.multipliers)) in
    let last : to_z w64 (of_z w64 c.signed.result) ≡ pos c.in-Unmet.d = search rules in
    let noted =
    conflict-noted m c.copy.new.into c.loop-j.conflict (pos c.in-Unmet.d) (ap length copied ∙ long)
    (c.loop-j.auto.conflict ∙ c.requires.divisors_len.1) in
    rw (last, noted.0, noted.1, copied, add-one j) (answered g c.loop-j-test.true (unmet (take m multipliers) c.in-Unmet.d c.in-Unmet.done) told)

pub returns-in-Large-clause-run : goal.returns-in-Large-clause-run
returns-in-Large-clause-run c =
    let a = c.args in
    let j = c.loop-j.j in
    let told =
    rw (c.in-Large.is, add-one a.n, rest-lent (j * suc a.n) c.loop-j.rows, rest-lent (j * a.m) c.loop-j.multipliers, rest-lent j c.loop-j.divisors)
    at c.from_row-found.ensures.made in
    rw (add-one j) (answered c.loop-j.invariant.2 c.loop-j-test.true (large c.in-Large.done) told)

pub loop-j-preserved : goal.loop-j-preserved
loop-j-preserved c =
    let a = c.args in
    let j = c.loop-j.j in
    let g = c.loop-j.invariant.2 in
    let new = c.from_row-found.new in
    let same = c.from_row-found.ensures.same in
    let told =
    rw (c.in-Passed.is, add-one a.n, rest-lent (j * suc a.n) c.loop-j.rows, rest-lent (j * a.m) c.loop-j.multipliers, rest-lent j c.loop-j.divisors)
    at c.from_row-found.ensures.made in
    let kept : Returned a.n a.m j c.loop-j.rows c.loop-j.multipliers c.loop-j.divisors c.loop-j.state.substitution.now
    c.loop-j.state.marks.now c.loop-j.state.way_back.now c.loop-j.state.reasons.now new.rows new.multipliers new.divisors
    c.from_row-found.new.state.substitution.now c.from_row-found.new.state.marks.now c.from_row-found.new.state.way_back.now
    c.from_row-found.new.state.reasons.now = record {
      rows_kept = rw (add-one a.n) at c.from_row-found.auto.rows;
      multipliers_kept = c.from_row-found.auto.multipliers;
      divisors_kept = c.from_row-found.auto.divisors;
      substitution_kept = same.1.substitution;
      marks_kept = same.1.marks;
      back_kept = same.1.way_back;
      reasons_kept = same.1.reasons;
    } in
    (search rules, search rules, rw (add-one a.n) (ahead-next g c.loop-j-test.true kept c.in-Passed.next told))

pub returns-clause-run : goal.returns-clause-run
returns-clause-run c = ahead-end c.loop-j.invariant.2 c.loop-j-test.false
