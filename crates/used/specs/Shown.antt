-- How the result tables of the run show the state that the definitions speak of.
use Rattle.std.specs.Prelude.{List, [], ℕ, suc, ℤ}
use Rattle.rows.specs.Table.{rows_of}
use Rattle.rules.specs.declared.StateTables.{StateTables}
use Rattle.rules.specs.Elimination.{State}

-- the state that the result tables of the run show; its steps are not looked at
abbrev pub shown_state : ℕ → ℕ → List ℤ → List ℕ → List ℤ → State
shown_state n m substitution marks reasons = record {
  substitution = rows_of (suc n) n substitution;
  way_back = [];
  marks = marks;
  reasons = rows_of (suc m) n reasons;
  steps = 0;
}

-- the same of tables that are lent in one value
abbrev pub state_in : ℕ → ℕ → StateTables → State
state_in n m state = shown_state n m state.substitution.now state.marks.now state.reasons.now
