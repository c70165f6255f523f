-- What step (c) makes, and how the tables show it.
use Rattle.std.specs.Prelude.{List, [], ◌∷◌, ◌++◌, map, ℕ, suc, get_or, take, set, ℤ}
use Rattle.rows.specs.Row.{gathered, unit_row, all_within}
use Rattle.rows.specs.Table.{rows_of, flat}
use Rattle.rules.specs.declared.StateTables.{StateTables}
use Rattle.rules.specs.Elimination.{Step, step_of, put_in, way_back_row}
use Rattle.steps.specs.Shown.{Tried, tried}

-- what step (c) makes: of the rows from the one in hand on, the substitution, the way back
pub record Turned : Type 0 where
  pub rows : List (List ℤ)
  pub substitution : List (List ℤ)
  pub way_back : List (List ℤ)

abbrev pub turned : ℕ → Step → List (List ℤ) → List (List ℤ) → List (List ℤ) → Turned
turned n t rows substitution way_back = record {
  rows = map (put_in t) rows;
  substitution = map (put_in t) substitution;
  way_back = set way_back t.column (way_back_row n t way_back);
}

-- the numbers that (c) lists
abbrev pub listed_turn : ℕ → Step → List (List ℤ) → List (List ℤ) → List (List ℤ) → List ℤ
listed_turn n t rows substitution way_back = flat (map (put_in t) rows) ++ (flat (map (put_in t) substitution) ++ way_back_row n t way_back)

-- the three in tables
abbrev pub turned_tables : ℕ → ℕ → List ℤ → List ℤ → List ℤ → Turned
turned_tables n count rows substitution way_back = record {
  rows = rows_of (suc n) count rows;
  substitution = rows_of (suc n) n substitution;
  way_back = rows_of (suc n) n way_back;
}

-- (c) on tables whose first row is in hand: what it makes, or that a listed number is beyond the limit
abbrev pub turn_by : ℕ → Step → List (List ℤ) → List (List ℤ) → List (List ℤ) → Tried Turned
turn_by n t rows substitution way_back = tried (all_within (listed_turn n t rows substitution way_back)) (turned n t rows substitution way_back)

abbrev pub turn_of : ℕ → ℕ → List ℤ → List ℤ → List ℤ → Tried Turned
turn_of n count rows substitution way_back =
    turn_by n (step_of n (take (suc n) rows)) (rows_of (suc n) count rows) (rows_of (suc n) n substitution) (rows_of (suc n) n way_back)

-- the same of the tables of the run's state, as the caller lends them
abbrev pub turned_state : ℕ → ℕ → List ℤ → StateTables → Turned
turned_state n count rows state = turned_tables n count rows state.substitution.now state.way_back.now

abbrev pub turn_state : ℕ → ℕ → List ℤ → StateTables → Tried Turned
turn_state n count rows state = turn_of n count rows state.substitution.now state.way_back.now

-- row k of the way back gains the rows as often as q says, and q's constant: `way_back_row` of a step with column k and quotients q. Then the
-- table with it, or that it is beyond the limit
abbrev pub returned : ℕ → ℕ → List ℤ → List ℤ → List ℤ
returned n k q way_back = gathered (get_or (rows_of (suc n) n way_back) k []) q (rows_of (suc n) n way_back ++ unit_row (suc n) n ∷ [])

abbrev pub return_of : ℕ → ℕ → List ℤ → List ℤ → Tried (List (List ℤ))
return_of n k q way_back = tried (all_within (returned n k q way_back)) (set (rows_of (suc n) n way_back) k (returned n k q way_back))
