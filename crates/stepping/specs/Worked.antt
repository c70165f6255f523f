-- The row in hand and the state that the tables show, and what the answer of the work on a row shows with them.
use Rattle.std.specs.Prelude.{List, ℕ, suc, ◌≤◌, ◌*◌, ◌≡◌, true, length, get_or, take, ℤ, nat_abs}
use Rattle.rows.specs.Row.{at, smallest, all_within}
use Rattle.rows.specs.Table.{rows_of}
use Rattle.rules.specs.declared.StateTables.{StateTables}
use Rattle.rules.specs.Elimination.{Carried, State, Worked, passed, unmet, large, step_bound, stepping}
use Rattle.steps.specs.declared.WorkTables.{WorkTables}
use Rattle.steps.specs.Shown.{carry, later_of, Divisors}
use Rattle.stepping.specs.declared.Working.{Working}
use Rattle.stepping.specs.declared.Working.TheVariants.{Passed, Unmet, Large}

-- the state that the result tables show
abbrev pub state_of : ℕ → ℕ → List ℤ → List ℕ → List ℤ → List ℤ → ℕ → State
state_of n m substitution marks way_back reasons steps = record {
  substitution = rows_of (suc n) n substitution;
  way_back = rows_of (suc n) n way_back;
  marks = marks;
  reasons = rows_of (suc m) n reasons;
  steps = steps;
}

-- the row in hand, first in the working tables
abbrev pub in_hand : ℕ → ℕ → List ℤ → List ℤ → List ℕ → Carried
in_hand n m rows multipliers divisors = carry (take (suc n) rows) (take m multipliers) (get_or divisors 0 0)

-- the steps of the row in hand, for at most as many as the bound of its smallest coefficient allows
abbrev pub bound_of : ℕ → List ℤ → ℕ
bound_of n row = step_bound (nat_abs (at row (smallest (take n row))))

abbrev pub steps_from : ℕ → Carried → List Carried → State → Worked
steps_from n e later s = stepping all_within n (bound_of n e.row) e later s

-- the answer of the work on a row, with the tables after it
abbrev pub work_shown : Working → ℕ → ℕ → List ℤ → List ℤ → List ℕ → List ℤ → List ℕ → List ℤ → List ℤ → Worked
work_shown (Passed steps) n m rows multipliers divisors substitution marks way_back reasons =
    passed (later_of n m rows multipliers divisors) (state_of n m substitution marks way_back reasons steps)
work_shown (Unmet d steps) n m rows multipliers divisors substitution marks way_back reasons = unmet (take m multipliers) d steps
work_shown (Large steps) n m rows multipliers divisors substitution marks way_back reasons = large steps

-- the working tables of count rows: their lengths, and every number within the limit
pub record Working3 (n m : ℕ) (rows multipliers : List ℤ) (divisors : List ℕ) : Type 0 where
  pub rows_long : length rows ≡ length divisors * suc n
  pub multipliers_long : length multipliers ≡ length divisors * m
  pub rows_within : all_within rows ≡ true
  pub multipliers_within : all_within multipliers ≡ true
  pub divisors_good : Divisors divisors

-- the result tables of the run
pub record Results4 (n m : ℕ) (substitution : List ℤ) (marks : List ℕ) (way_back reasons : List ℤ) : Type 0 where
  pub small : (1 ≤ n) × (n ≤ 32) × (m ≤ 32)
  pub substitution_long : length substitution ≡ n * suc n
  pub marks_long : length marks ≡ n
  pub way_back_long : length way_back ≡ n * suc n
  pub reasons_long : length reasons ≡ n * suc m
  pub substitution_within : all_within substitution ≡ true
  pub way_back_within : all_within way_back ≡ true

-- ---- the same of the tables as the caller lends them, by what they hold
abbrev pub WorkReady : ℕ → ℕ → WorkTables → Type 0
WorkReady n m work = Working3 n m work.rows.now work.multipliers.now work.divisors.now

abbrev pub StateReady : ℕ → ℕ → StateTables → Type 0
StateReady n m state = Results4 n m state.substitution.now state.marks.now state.way_back.now state.reasons.now

abbrev pub hand_now : ℕ → ℕ → WorkTables → Carried
hand_now n m work = in_hand n m work.rows.now work.multipliers.now work.divisors.now

abbrev pub later_now : ℕ → ℕ → WorkTables → List Carried
later_now n m work = later_of n m work.rows.now work.multipliers.now work.divisors.now

abbrev pub state_now : ℕ → ℕ → StateTables → ℕ → State
state_now n m state steps = state_of n m state.substitution.now state.marks.now state.way_back.now state.reasons.now steps

abbrev pub answer_now : Working → ℕ → ℕ → WorkTables → StateTables → Worked
answer_now answer n m work state =
    work_shown answer n m work.rows.now work.multipliers.now work.divisors.now state.substitution.now state.marks.now state.way_back.now state.reasons.now
