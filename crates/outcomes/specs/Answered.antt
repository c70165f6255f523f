-- The answer that an outcome and the seven result tables show together.
use Rattle.std.specs.Prelude.{List, ℕ, ℤ}
use Rattle.rules.specs.declared.Outcome.{Outcome}
use Rattle.rules.specs.declared.StateTables.{StateTables}
use Rattle.rules.specs.declared.RowTables.{RowTables}
use Rattle.rules.specs.Outcomes.{Results, Answer}

abbrev pub tables : List ℤ → List ℕ → List ℤ → List ℤ → List ℤ → List ℤ → List ℕ → Results
tables substitution marks way_back reasons conflict tightened used = record {
  substitution = substitution;
  marks = marks;
  way_back = way_back;
  reasons = reasons;
  conflict = conflict;
  tightened = tightened;
  used = used;
}

abbrev pub answer : Outcome → List ℤ → List ℕ → List ℤ → List ℤ → List ℤ → List ℤ → List ℕ → Answer
answer outcome substitution marks way_back reasons conflict tightened used =
    record { outcome = outcome; results = tables substitution marks way_back reasons conflict tightened used }

-- the same of tables that are lent in two values and one
abbrev pub tables_in : StateTables → List ℤ → RowTables → Results
tables_in state conflict rows =
    tables state.substitution.now state.marks.now state.way_back.now state.reasons.now conflict rows.tightened.now rows.used.now

abbrev pub answer_in : Outcome → StateTables → List ℤ → RowTables → Answer
answer_in outcome state conflict rows = record { outcome = outcome; results = tables_in state conflict rows }
