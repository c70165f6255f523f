-- Refusals 2 and 3, as the checks answer them.
use Rattle.std.specs.Prelude.{Bool, true, false, ◌&&◌, List, ℕ, suc, ◌*◌, eqb, length, ℤ, Result, Ok, Err}
use Rattle.rows.specs.Row.{all_within}
use Rattle.rules.specs.declared.StateTables.{StateTables}
use Rattle.rules.specs.declared.RowTables.{RowTables}
use Rattle.rules.specs.declared.Table.{Table}
use Rattle.rules.specs.declared.Table.TheVariants.{Equations, Inequalities}
use Rattle.rules.specs.declared.Refusal.{Refusal}
use Rattle.rules.specs.Outcomes.{bad_entry}

-- refusal 3 for one table
abbrev pub table_checked : ℕ → Table → List ℤ → Result (Unit {0}) Refusal
table_checked width which table = elim (all_within table) [ true ↦ Ok tt | false ↦ Err (bad_entry width which table) ]

-- refusal 2: "Result tables, each of exactly this length", the input tables before them
abbrev pub lengths_right : ℕ → ℕ → ℕ → List ℤ → List ℤ → StateTables → List ℤ → RowTables → Bool
lengths_right n m k equations inequalities state conflict rows =
    eqb (length equations) (m * suc n)
    && (eqb (length inequalities) (k * suc n)
    && (eqb (length state.substitution.now) (n * suc n)
    && (eqb (length state.marks.now) n
    && (eqb (length state.way_back.now) (n * suc n)
    && (eqb (length state.reasons.now) (n * suc m)
    && (eqb (length conflict) (suc m) && (eqb (length rows.tightened.now) (k * suc n) && eqb (length rows.used.now) k)))))))

-- refusal 3, the equations before the inequalities
abbrev pub entries_checked : ℕ → List ℤ → List ℤ → Result (Unit {0}) Refusal
entries_checked n equations inequalities =
    elim (all_within equations) [ true ↦ table_checked (suc n) Inequalities inequalities | false ↦ Err (bad_entry (suc n) Equations equations) ]
