-- How answers and tables show rows that were worked.
use Rattle.std.specs.Prelude.{Option, Some, None, Result, Ok, Err, true, false, not, List, map, ℕ, suc, eqb, ℤ}
use Rattle.rows.specs.Row.{all_within}
use Rattle.rows.specs.Table.{rows_of}
use Rattle.rules.specs.Elimination.{State}
use Rattle.rules.specs.Inequalities.{sums, used_by, tightened_row, first_row}

-- a row worked, with the set that it used: or a sum beyond the limit
pub data RowWorked : Type 0 where
  worked : List ℤ → ℕ → RowWorked
  large : RowWorked

abbrev pub row_shown : Option ℕ → List ℤ → RowWorked
row_shown (Some set) row = worked row set
row_shown None row = large

abbrev pub row_worked : ℕ → ℕ → State → List ℤ → RowWorked
row_worked n m s row = let all = sums n s.substitution row in elim (all_within all) [ true ↦ worked (tightened_row n s row) (used_by m s all) | false ↦ large ]

-- all rows worked: or the number of the first with a sum beyond the limit
pub data RowsWorked : Type 0 where
  all_worked : List (List ℤ) → List ℕ → RowsWorked
  first_large : ℕ → RowsWorked

abbrev pub rows_shown : ℕ → ℕ → Result (Unit {0}) ℕ → List ℤ → List ℕ → RowsWorked
rows_shown n k (Ok done) tightened used = all_worked (rows_of (suc n) k tightened) used
rows_shown n k (Err bad) tightened used = first_large bad

abbrev pub rows_worked : ℕ → ℕ → State → List (List ℤ) → RowsWorked
rows_worked n m s rows =
    let all = map (sums n s.substitution) rows in
    let bad = first_row (λ row. not (all_within row)) all in
    elim (eqb bad 0) [ true ↦ all_worked (map (tightened_row n s) rows) (map (used_by m s) all) | false ↦ first_large bad ]
