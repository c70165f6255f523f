-- `outcomes::with_inequalities` meets its contract: from the state that the tables show the rows are worked; one is too large, and all
-- tables hold zeros, or none is, and the looks decide.
use mathlib.Core.Path.{◌≡◌, refl, ap, ◌∙◌}
use Prim.Native.Nat.{ℕ, suc, ◌*◌, ◌/◌}
use native.Mathlib.Nat.{mul-div_left}
use native.Mathlib.Omega.{arith}
use lib.ListN.{length, length-replicate}
use lib.IntN.{pos}
use Rattle.std.specs.Prelude.{Result}
use Rattle.rows.specs.Table.{rows_of}
use Rattle.used.specs.Shown.{state_in}
use Rattle.inequalities.specs.Worked.{rows_shown, rows_worked}
use Rattle.outcomes.proofs.Tabled.{all-blank}
use Rattle.outcomes.proofs.Finished.{tightened-within, open-answer, large-answer}
use Rattle.outcomes.proofs.with_inequalities.Goals.{After-work_rows}
use Rattle.outcomes.proofs.with_inequalities.Goals as goal

-- what holds after the work on the rows, of which there are as many as sets
tightened-long : (w : After-work_rows) → let a = w.args in length w.work_rows.new.rows.tightened.now ≡ a.system.k * suc a.system.n
tightened-long w = w.work_rows.ensures.same.tightened_long ∙ w.requires.lengths.1.tightened

worked : (w : After-work_rows) (r : Result (Unit {0}) ℕ) → w.work_rows.result ≡ r → let a = w.args in
    rows_shown a.system.n a.system.k r w.work_rows.new.rows.tightened.now w.work_rows.new.rows.used.now
    ≡ rows_worked a.system.n a.system.m (state_in a.system.n a.system.m a.state.now) (rows_of (suc a.system.n) a.system.k a.inequalities.now)
worked w r e = rw (e, w.requires.lengths.1.used) at w.work_rows.ensures.worked

pub look-requires : goal.look-requires
look-requires c =
    let w = (goal.at.look-requires c).After-work_rows in
    let s = c.args.system in
    let t = c.args.state.now in (
      c.requires.size.0,
      tightened-within s.n s.m t.substitution.now t.marks.now t.way_back.now t.reasons.now c.args.steps s.k c.args.inequalities.now
          c.work_rows.new.rows.tightened.now c.work_rows.new.rows.used.now (worked w _ c.in-Ok.is) (tightened-long w),
    )

pub returns-in-Ok-clause-answer : goal.returns-in-Ok-clause-answer
returns-in-Ok-clause-answer c =
    let w = (goal.at.returns-in-Ok-clause-answer c).After-work_rows in
    let s = c.args.system in
    let t = c.args.state.now in
    let l = c.requires.lengths.0 in
    let count : length c.work_rows.new.rows.tightened.now / suc s.n ≡ s.k = rw (tightened-long w) (mul-div_left s.k (omega arith)) in
    open-answer s.n s.m t.substitution.now t.marks.now t.way_back.now t.reasons.now c.args.steps s.k c.args.inequalities.now
    c.work_rows.new.rows.tightened.now c.work_rows.new.rows.used.now (worked w _ c.in-Ok.is) (tightened-long w)
    (rw count at c.look.ensures) c.requires.values.2 l.substitution l.way_back l.reasons

pub returns-in-Err-clause-answer : goal.returns-in-Err-clause-answer
returns-in-Err-clause-answer c =
    let w = (goal.at.returns-in-Err-clause-answer c).After-work_rows in
    let s = c.args.system in
    let t = c.args.state.now in
    let l = c.requires.lengths.0 in
    let z = c.clear.ensures.state in
    all-blank s.n s.m s.k refl (z.substitution, z.marks, z.way_back, z.reasons) (c.clear.ensures.conflict, c.clear.ensures.rows.0, c.clear.ensures.rows.1)
    (l.substitution, l.marks, l.way_back, l.reasons, ap length c.requires.values.2 ∙ length-replicate (suc s.m) (pos 0), tightened-long w, c.work_rows.ensures.same.used_long ∙ c.requires.lengths.1.used)
    ∙ large-answer s.n s.m t.substitution.now t.marks.now t.way_back.now t.reasons.now c.args.steps s.k c.args.inequalities.now
    c.work_rows.new.rows.tightened.now c.work_rows.new.rows.used.now c.in-Err.inequality (worked w _ c.in-Err.is)
