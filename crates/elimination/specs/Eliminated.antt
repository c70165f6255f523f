-- What the answer and the tables of the run show.
use Rattle.std.specs.Prelude.{List, [], ℕ, suc, ◌≡◌, ℤ}
use Rattle.rows.specs.Table.{rows_of}
use Rattle.rules.specs.declared.Outcome.{Outcome}
use Rattle.rules.specs.declared.Outcome.TheVariants.{Open, EquationConflict, Refused}
use Rattle.rules.specs.declared.StateTables.{StateTables}
use Rattle.rules.specs.declared.Refusal.TheVariants.{TooLarge}
use Rattle.rules.specs.Elimination.{finished, elimination}
use Rattle.rules.specs.Outcomes.{Answer, after_run}
use Rattle.stepping.specs.Worked.{state_of}
use Rattle.all_rows.specs.declared.Ran.{Ran}
use Rattle.all_rows.specs.declared.Ran.TheVariants.{Finished, Conflict, Grown}

-- where the run finished, the tables show the state that it ended in
abbrev pub FinishedAs : Ran → ℕ → ℕ → List ℤ → List ℤ → List ℕ → List ℤ → List ℤ → Type 0
FinishedAs (Finished steps) n m equations substitution marks way_back reasons =
    finished (state_of n m substitution marks way_back reasons steps) ≡ elimination n m (rows_of (suc n) m equations)
FinishedAs (Conflict row steps) n m equations substitution marks way_back reasons = Unit {0}
FinishedAs (Grown row steps) n m equations substitution marks way_back reasons = Unit {0}

-- the same of the tables as the caller lends them
abbrev pub FinishedNow : Ran → ℕ → ℕ → List ℤ → StateTables → Type 0
FinishedNow answer n m equations state = FinishedAs answer n m equations state.substitution.now state.marks.now state.way_back.now state.reasons.now

-- document 01's outcome for the run's answer
abbrev pub outcome_of : Ran → Outcome
outcome_of (Finished steps) = Open steps
outcome_of (Conflict row steps) = EquationConflict row steps
outcome_of (Grown row steps) = Refused (TooLarge row steps)

-- the whole answer where there are no inequalities
abbrev pub eliminated : ℕ → ℕ → List ℤ → Answer
eliminated n m equations = after_run n m 0 [] (elimination n m (rows_of (suc n) m equations))

-- what the answer and the tables show after the run over the equations
pub record EliminatedAs (answer : Ran) (n m : ℕ) (equations : List ℤ) (state : StateTables) (conflict : List ℤ) : Type 0 where
  pub outcome : outcome_of answer ≡ (eliminated n m equations).outcome
  pub substitution : state.substitution.now ≡ (eliminated n m equations).results.substitution
  pub marks : state.marks.now ≡ (eliminated n m equations).results.marks
  pub way_back : state.way_back.now ≡ (eliminated n m equations).results.way_back
  pub reasons : state.reasons.now ≡ (eliminated n m equations).results.reasons
  pub conflict_table : conflict ≡ (eliminated n m equations).results.conflict
  pub run_state : FinishedNow answer n m equations state
