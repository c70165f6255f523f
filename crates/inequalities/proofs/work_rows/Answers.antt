-- `inequalities::work_rows` meets its contract: the rows passed are worked and within the limit, and one that is not is the answer.
use mathlib.Core.Path.{◌≡◌, refl, sym, ◌∙◌}
use Prim.Native.Nat.{ℕ, suc, ◌+◌, ◌*◌}
use native.Mathlib.Nat.{add-sub_cancel_left}
use native.Mathlib.Numerals.{add-one}
use native.Mathlib.Omega.{arith}
use lib.ListN.{length}
use Rattle.std.specs.Option.{ok_or}
use Rattle.std.specs.Prelude.{Err, Some, None}
use Rattle.std.proofs.lemmas.Result.{err_from_is_err_and}
use Rattle.rows.specs.Table.{row_at}
use Rattle.rows.proofs.TableLaws.{length-row_at, row-lent}
use Rattle.tables.proofs.Multiples.{within-row}
use Rattle.rules.specs.Elimination.{State}
use Rattle.used.specs.Shown.{state_in}
use Rattle.inequalities.specs.Worked.{row_shown, row_worked}
use Rattle.inequalities.proofs.WorkedRows.{done-step, done-large, done_end}
use Rattle.inequalities.proofs.work_rows.Goals.{After-work_row, Start}
use Rattle.inequalities.proofs.work_rows.Goals as goal

-- the state that the tables show, and how many rows there are
abbrev state : Start → State
state s = state_in s.args.n s.args.m s.args.state.now

abbrev count : Start → ℕ
count s = length s.args.rows.now.used.now

pub work_row-requires-clause-n_bound : goal.work_row-requires-clause-n_bound
work_row-requires-clause-n_bound c =
    let r = c.requires.n_bound in
    let n = c.args.n in
    let i = c.loop-i.i in
    let t = c.args.inequalities.now in
    rw (row-lent n i t) (r.0, r.1, within-row (suc n) i t r.3, r.4)

-- what `work_row` answers of row i, and that what comes back has the length of what was lent
told : (c : After-work_row) → let s = (goal.at.After-work_row c).Start in
    row_shown c.work_row.result c.work_row.new.row ≡ row_worked c.args.n c.args.m (state s) (row_at (suc c.args.n) c.loop-i.i c.args.inequalities.now)
told c = rw (row-lent c.args.n c.loop-i.i c.args.inequalities.now) at c.work_row.ensures

size : (c : After-work_row) → length c.work_row.new.row ≡ suc c.args.n
size c =
    let l = c.loop-i in
    let n = c.args.n in
    let kept = rw (row-lent n l.i l.tightened) at c.work_row.auto in
    kept.row ∙ length-row_at (suc n) (count (goal.at.After-work_row c).Start) l.i l.tightened (omega arith) l.invariant.long

pub returns-in_err-set-clause-worked : goal.returns-in_err-set-clause-worked
returns-in_err-set-clause-worked c =
    let w = (goal.at.returns-in_err-set-clause-worked c).After-work_row in
    let s = (goal.at.returns-in_err-set-clause-worked c).Start in
    let was : ok_or c.work_row.result (c.loop-i.i + 1) ≡ Err c.in_err-set.field-0.0 = sym c.ok_or.ensures.value ∙ c.in_err-set.was in
    let none : c.work_row.result ≡ None = grind (arith, was) in
    let first : c.in_err-set.field-0.0 ≡ c.loop-i.i + 1 = grind (arith, was) in
    let p = err_from_is_err_and c.from_residual.result c.from_residual.ensures.1 in
    rw (p.1, p.2, first) (done-large c.args.n c.args.m (count s) (state s) c.args.inequalities.now c.loop-i.invariant (omega arith) (rw none at (told w)))

pub loop-i-preserved : goal.loop-i-preserved
loop-i-preserved c =
    let w = (goal.at.loop-i-preserved c).After-work_row in
    let s = (goal.at.loop-i-preserved c).Start in
    let n = c.args.n in
    let i = c.loop-i.i in
    let some : c.work_row.result ≡ Some c.in_ok-set.field-0 = grind (arith, c.ok_or.ensures.value, c.in_ok-set.was) in
    rw (add-one n, add-sub_cancel_left (i * suc n) (suc n))
    (done-step n c.args.m (count s) (state s) c.args.inequalities.now c.loop-i.invariant (omega arith) refl (size w) (rw some at (told w)))

-- ---- the end
pub returns-clause-worked : goal.returns-clause-worked
returns-clause-worked c =
    let s = (goal.at.returns-clause-worked c).Start in
    done_end c.args.n c.args.m (count s) (state s) c.args.inequalities.now c.loop-i.invariant (omega arith) refl
