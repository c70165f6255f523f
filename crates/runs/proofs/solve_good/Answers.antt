-- `runs::solve_good` meets its contract. A run that finished leaves its state in the tables, from which the inequalities are worked. A
-- run that ended otherwise has its tables, with zeros for the inequalities.
use mathlib.Core.Path.{◌≡◌, sym, ap, ◌∙◌, subst}
use mathlib.Core.Bool.{true}
use mathlib.Core.List.{List}
use Prim.Native.Nat.{ℕ, suc, ◌*◌}
use lib.ListN.{replicate}
use lib.IntN.{ℤ, pos}
use Rattle.rows.specs.Row.{all_within}
use Rattle.rows.specs.Table.{rows_of}
use Rattle.rules.specs.declared.Outcome.{Outcome}
use Rattle.rules.specs.Elimination.{finished, elimination}
use Rattle.rules.specs.Lent.{StateLengths}
use Rattle.rules.specs.Outcomes.{after_run}
use Rattle.all_rows.specs.declared.Ran.{Ran}
use Rattle.all_rows.specs.declared.Ran.TheVariants.{Finished}
use Rattle.stepping.specs.Worked.{state_now}
use Rattle.elimination.specs.Eliminated.{FinishedNow, outcome_of}
use Rattle.outcomes.specs.Answered.{answer}
use Rattle.outcomes.proofs.Tabled.{same_answer}
use Rattle.outcomes.proofs.Finished.{run-answer, substitution-within}
use Rattle.runs.proofs.Ended.{NotOpen, alone, after-end, no-conflict}
use Rattle.runs.proofs.solve_good.Goals.{After-eliminate}
use Rattle.runs.proofs.solve_good.Goals as goal

-- ---- after the run: its tables have the lengths that they came with
long : (q : After-eliminate) → StateLengths q.args.system.n q.args.system.m q.eliminate.new.state
long q =
    let s = q.eliminate.ensures.same.1 in
    let l = q.requires.lengths.state_long in
    record {
      substitution = s.substitution ∙ l.substitution;
      marks = s.marks ∙ l.marks;
      way_back = s.way_back ∙ l.way_back;
      reasons = s.reasons ∙ l.reasons;
    }

-- ---- where it finished, they show the state that it ended in
module _ (q : After-eliminate) (steps : ℕ) (is : q.eliminate.result ≡ Finished steps) where
  done : finished (state_now q.args.system.n q.args.system.m q.eliminate.new.state steps)
      ≡ elimination q.args.system.n q.args.system.m (rows_of (suc q.args.system.n) q.args.system.m q.args.equations.now)
  done = subst (λ (x : Ran). FinishedNow x q.args.system.n q.args.system.m q.args.equations.now q.eliminate.new.state) is q.eliminate.ensures.run.run_state

  inside : all_within q.eliminate.new.state.substitution.now ≡ true
  inside =
      let s = q.args.system in
      let t = q.eliminate.new.state in
      substitution-within s.n s.m q.args.equations.now t.substitution.now t.marks.now t.way_back.now t.reasons.now steps done
      q.requires.lengths.equations_long q.requires.within.0 (long q).substitution

  blank : q.eliminate.new.conflict ≡ replicate (suc q.args.system.m) (pos 0)
  blank =
      let s = q.args.system in
      q.eliminate.ensures.run.conflict_table
      ∙ no-conflict s.n s.m (state_now s.n s.m q.eliminate.new.state steps) (elimination s.n s.m (rows_of (suc s.n) s.m q.args.equations.now)) done

pub with_inequalities-requires : goal.with_inequalities-requires
with_inequalities-requires c =
    let q = (goal.at.with_inequalities-requires c).After-eliminate in
    record {
      size = (c.requires.size.1, c.requires.size.2, c.requires.size.3, c.requires.lengths.inequalities_long);
      lengths = (long q, c.requires.lengths.rows_long);
      values = (c.requires.within.1, inside q c.in-Finished.steps c.in-Finished.is, blank q c.in-Finished.steps c.in-Finished.is);
    }

pub returns-in-Finished-clause-answer : goal.returns-in-Finished-clause-answer
returns-in-Finished-clause-answer c =
    let q = (goal.at.returns-in-Finished-clause-answer c).After-eliminate in
    let s = c.args.system in
    let t = c.eliminate.new.state in
    c.with_inequalities.ensures.answer
    ∙ run-answer s.n s.m c.args.equations.now t.substitution.now t.marks.now t.way_back.now t.reasons.now c.in-Finished.steps (done q c.in-Finished.steps c.in-Finished.is)
    s.k (rows_of (suc s.n) s.k c.args.inequalities.now)

-- ---- where it ended otherwise, they are those of the answer, with zeros for the inequalities
ended : {outcome : Outcome} {tightened : List ℤ} {used : List ℕ} (q : After-eliminate) → let s = q.args.system in let t = q.eliminate.new.state in
    let run = elimination s.n s.m (rows_of (suc s.n) s.m q.args.equations.now) in
    outcome ≡ (alone s.n s.m run).outcome
    → tightened ≡ replicate (s.k * suc s.n) (pos 0) → used ≡ replicate s.k 0 → NotOpen (alone s.n s.m run).outcome
    → answer outcome t.substitution.now t.marks.now t.way_back.now t.reasons.now q.eliminate.new.conflict tightened used
    ≡ after_run s.n s.m s.k (rows_of (suc s.n) s.k q.args.inequalities.now) run
ended q o t u closed =
    let s = q.args.system in
    let e = q.eliminate.ensures.run in
    same_answer o e.substitution e.marks e.way_back e.reasons e.conflict_table t u
    ∙ after-end s.n s.m s.k (rows_of (suc s.n) s.k q.args.inequalities.now) (elimination s.n s.m (rows_of (suc s.n) s.m q.args.equations.now)) closed

pub returns-in-Conflict-clause-answer : goal.returns-in-Conflict-clause-answer
returns-in-Conflict-clause-answer c =
    let q = (goal.at.returns-in-Conflict-clause-answer c).After-eliminate in
    let said = sym (ap outcome_of c.in-Conflict.is) ∙ c.eliminate.ensures.run.outcome in
    ended q said
    (c.clear_rows.ensures.zeros.0 ∙ ap (λ (l : ℕ). replicate l (pos 0)) c.requires.lengths.rows_long.tightened)
    (c.clear_rows.ensures.zeros.1 ∙ ap (λ (l : ℕ). replicate l 0) c.requires.lengths.rows_long.used)
    (subst NotOpen said tt)

pub returns-in-Grown-clause-answer : goal.returns-in-Grown-clause-answer
returns-in-Grown-clause-answer c =
    let q = (goal.at.returns-in-Grown-clause-answer c).After-eliminate in
    let said = sym (ap outcome_of c.in-Grown.is) ∙ c.eliminate.ensures.run.outcome in
    ended q said
    (c.clear_rows-in-Grown.ensures.zeros.0 ∙ ap (λ (l : ℕ). replicate l (pos 0)) c.requires.lengths.rows_long.tightened)
    (c.clear_rows-in-Grown.ensures.zeros.1 ∙ ap (λ (l : ℕ). replicate l 0) c.requires.lengths.rows_long.used)
    (subst NotOpen said tt)
