-- What the answer of the run over all rows shows, with the tables after it.
use Rattle.std.specs.Prelude.{List, ℕ, suc, ◌≡◌, take, ℤ, pos, nat_abs}
use Rattle.rows.specs.Row.{at}
use Rattle.rules.specs.declared.StateTables.{StateTables}
use Rattle.rules.specs.Elimination.{Carried, Worked, Ended, finished, conflicting, too_large}
use Rattle.steps.specs.declared.WorkTables.{WorkTables}
use Rattle.steps.specs.Shown.{carried_of}
use Rattle.stepping.specs.Worked.{state_of, work_shown}
use Rattle.stepping.specs.declared.Working.{Working}
use Rattle.all_rows.specs.declared.Ran.{Ran}
use Rattle.all_rows.specs.declared.Ran.TheVariants.{Finished, Conflict, Grown}

-- the answer of the work on a row, with the working tables and the run's state after it
abbrev pub answer_over : Working → ℕ → ℕ → List ℤ → List ℤ → List ℕ → StateTables → Worked
answer_over answer n m rows multipliers divisors state =
    work_shown answer n m rows multipliers divisors state.substitution.now state.marks.now state.way_back.now state.reasons.now

-- the answer of the run over all rows, with the tables after it
abbrev pub ran_shown : Ran → ℕ → ℕ → List ℤ → List ℕ → List ℤ → List ℤ → List ℤ → Ended
ran_shown (Finished steps) n m substitution marks way_back reasons conflict = finished (state_of n m substitution marks way_back reasons steps)
ran_shown (Conflict row steps) n m substitution marks way_back reasons conflict = conflicting row (take m conflict) (nat_abs (at conflict m)) steps
ran_shown (Grown row steps) n m substitution marks way_back reasons conflict = too_large row steps

-- the same of the tables of the run's state, as the caller lends them
abbrev pub ran_now : Ran → ℕ → ℕ → StateTables → List ℤ → Ended
ran_now answer n m state conflict = ran_shown answer n m state.substitution.now state.marks.now state.way_back.now state.reasons.now conflict

-- every row of the working tables
abbrev pub carried_now : ℕ → ℕ → WorkTables → List Carried
carried_now n m work = carried_of (suc n) m work.rows.now work.multipliers.now work.divisors.now

-- where there is a conflict, its table ends with D, which is not negative
abbrev pub EndsWithD : Ran → ℕ → List ℤ → Type 0
EndsWithD (Finished steps) m conflict = Unit {0}
EndsWithD (Conflict row steps) m conflict = at conflict m ≡ pos (nat_abs (at conflict m))
EndsWithD (Grown row steps) m conflict = Unit {0}
