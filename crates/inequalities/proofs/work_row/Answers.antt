-- `inequalities::work_row` meets its contract: the sums, and where they are within the limit, the set that they use and the row tightened.
use mathlib.Core.Path.{◌≡◌, sym, ap, ◌∙◌}
use mathlib.Core.Bool.{true}
use mathlib.Core.List.{List}
use lib.ListN.{length}
use lib.IntN.{ℤ}
use Rattle.whole.specs.Limit.{W}
use Rattle.rows.specs.Row.{all_within}
use Rattle.rules.specs.Elimination.{State}
use Rattle.rules.specs.Inequalities.{sums, used_by, only_open, tighten, tightened_row}
use Rattle.rules.proofs.Lengths.{length-only_open}
use Rattle.used.specs.Shown.{state_in}
use Rattle.tightening.proofs.OpenColumns.{bounded-only_open}
use Rattle.inequalities.proofs.WorkedRows.{length-sums, row-worked, row-large}
use Rattle.inequalities.proofs.work_row.Goals.{After-all_within, After-only_open, Start}
use Rattle.inequalities.proofs.work_row.Goals as goal

-- the state that the tables show, and the sums of the inequality
abbrev state : Start → State
state s = state_in s.args.n s.args.m s.args.state.now

abbrev summed : Start → List ℤ
summed s = sums s.args.n (state s).substitution s.args.inequality.now

-- whether the sums are within the limit
answered : (c : After-all_within) → all_within (summed (goal.at.After-all_within c).Start) ≡ c.all_within.result
answered c = sym (c.all_within.ensures ∙ ap all_within c.sums_into.ensures)

pub returns-then-not-all_within : goal.returns-then-not-all_within
returns-then-not-all_within c =
    let p = goal.at.returns-then-not-all_within c in
    row-large c.args.n c.args.m (state p.Start) c.args.inequality.now (answered p.After-all_within ∙ c.if-not-all_within.true)

-- past the test they are, and the row has the open columns alone
fit : (c : After-only_open) → all_within (summed (goal.at.After-only_open c).Start) ≡ true
fit c = answered (goal.at.After-only_open c).After-all_within ∙ c.if-not-all_within.false

opened : (c : After-only_open) → c.only_open.new.row ≡ only_open c.args.state.now.marks.now (summed (goal.at.After-only_open c).Start)
opened c = let all = summed (goal.at.After-only_open c).Start in c.only_open.ensures ∙ ap (only_open c.args.state.now.marks.now) {y = all} c.sums_into.ensures

pub tighten-requires : goal.tighten-requires
tighten-requires c =
    let o = (goal.at.tighten-requires c).After-only_open in
    let all = summed (goal.at.tighten-requires c).Start in
    let marks = c.args.state.now.marks.now in (
      ap length (opened o) ∙ length-only_open marks all ∙ length-sums c.args.n _ c.args.inequality.now,
      ap all_within (opened o) ∙ bounded-only_open W marks all (fit o),
    )

pub returns : goal.returns
unfolding tightened_row used_by
returns c =
    let o = (goal.at.returns c).After-only_open in
    let s = (goal.at.returns c).Start in
    let n = c.args.n in
    let made : c.tighten.new.row ≡ tightened_row n (state s) c.args.inequality.now = c.tighten.ensures ∙ ap (tighten n) (opened o) in
    let used : c.used_by-set.result ≡ used_by c.args.m (state s) (summed s) = rw c.sums_into.ensures at c.used_by-set.ensures in
    row-worked n c.args.m (state s) c.args.inequality.now (fit o) made used
