-- `solver::solve_long` meets its contract: at refusal 3 the tables hold zeros, else the run answers.
use mathlib.Core.Path.{refl, sym, ◌∙◌}
use Rattle.outcomes.proofs.Tabled.{all-blank}
use Rattle.solver.proofs.Called.{entries-good, entries-bad, all-good}
use Rattle.solver.proofs.solve_long.Goals as goal

pub solve_good-requires : goal.solve_good-requires
solve_good-requires c =
    let h = entries-good c.args.system.n c.args.equations.now c.args.inequalities.now (sym c.in-Ok.is ∙ c.check_entries.ensures) in
    record { size = c.requires.size; lengths = c.requires.lengths; within = (h.0, h.1) }

pub returns-in-Ok-clause-answer : goal.returns-in-Ok-clause-answer
returns-in-Ok-clause-answer c =
    let s = c.args.system in
    c.solve_good.ensures.answer
    ∙ sym (all-good s.n s.m s.k c.args.equations.now c.args.inequalities.now
    (entries-good s.n c.args.equations.now c.args.inequalities.now (sym c.in-Ok.is ∙ c.check_entries.ensures)))

pub returns-in-Err-clause-answer : goal.returns-in-Err-clause-answer
returns-in-Err-clause-answer c =
    let s = c.args.system in
    let l = c.requires.lengths in
    let t = l.state_long in
    let z = c.clear.ensures.state in
    all-blank s.n s.m s.k refl (z.substitution, z.marks, z.way_back, z.reasons) (c.clear.ensures.conflict, c.clear.ensures.rows.0, c.clear.ensures.rows.1)
    (t.substitution, t.marks, t.way_back, t.reasons, l.conflict_long, l.rows_long.tightened, l.rows_long.used)
    ∙ sym (entries-bad s.n s.m s.k c.args.equations.now c.args.inequalities.now _ (sym c.in-Err.is ∙ c.check_entries.ensures))
