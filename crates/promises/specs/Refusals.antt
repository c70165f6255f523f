-- When a call is refused: each refusal by the document's number and fields (`of_refusal` of rules/specs/Numbers.antt).
use Rattle.std.specs.Prelude.{◌≡◌, true, false, List, [], ◌∷◌, ℕ, suc, ◌+◌, ◌*◌, ◌-◌, ◌≤◌, ◌<◌, take, ℤ}
use Rattle.whole.specs.Limit.{within}
use Rattle.rows.specs.Row.{at, all_within}
use Rattle.rows.specs.Table.{rows_of}
use Rattle.rules.specs.Elimination.{State, finished, elimination}
use Rattle.rules.specs.Inequalities.{sums}
use Rattle.rules.specs.Outcomes.{Results, in_range, right_lengths}
use Rattle.promises.specs.Meaning.{row_number, Counts}
use Rattle.promises.specs.Listed.{listed_run, FirstLarge}

-- ---- refusal 3: "row, column of the first bad entry"

-- of a table with so many rows of this width
pub record FirstBad (width count : ℕ) (numbers : List ℤ) (row column : ℕ) : Type 0 where
  pub row_counts : Counts row count
  pub column_counts : Counts column width
  -- the entry is beyond the limit, and none before it is
  pub bad : within (at numbers ((row - 1) * width + (column - 1))) ≡ false
  pub before : all_within (take ((row - 1) * width + (column - 1)) numbers) ≡ true

-- "table (0 equations, 1 inequalities ..), .. in that order"
pub data BadIn (n m k : ℕ) (equations inequalities : List ℤ) (row column : ℕ) : ℕ → Type 0 where
  in_equations : FirstBad (suc n) m equations row column → BadIn n m k equations inequalities row column 0
  in_inequalities : all_within equations ≡ true → FirstBad (suc n) k inequalities row column → BadIn n m k equations inequalities row column 1

-- ---- refusal 5: the run over the equations finished, and this is the lowest inequality with a sum beyond the limit
pub record LowestLarge (n m k : ℕ) (equations inequalities : List (List ℤ)) (i : ℕ) : Type 0 where
  pub state : State
  pub ran : elimination n m equations ≡ finished state
  pub counts : Counts i k
  pub large : all_within (sums n state.substitution (row_number i inequalities)) ≡ false
  pub lowest : (h : ℕ) → 1 ≤ h → h < i → all_within (sums n state.substitution (row_number h inequalities)) ≡ true

-- ---- "Checks run in the order 1, 2, 3, then the run."
module _ (n m k : ℕ) (equations inequalities : List ℤ) (given : Results) where
  -- checks 1 and 2 are passed, and then check 3
  abbrev pub Sized : Type 0
  Sized = (in_range n m k ≡ true) × (right_lengths n m k equations inequalities given ≡ true)

  abbrev pub Taken : Type 0
  Taken = Sized × (all_within equations ≡ true) × (all_within inequalities ≡ true)

  -- the refusal that is due, if one is: `exactly-refused` in proofs/Refused.antt shows that it is given, and no other
  pub data Due : List ℕ → Type 0 where
    -- "n, m or k out of range"
    one : in_range n m k ≡ false → Due (1 ∷ [])
    -- "a table's length is wrong"
    two : in_range n m k ≡ true → right_lengths n m k equations inequalities given ≡ false → Due (2 ∷ [])
    three : {table row column : ℕ} → Sized → BadIn n m k equations inequalities row column table → Due (3 ∷ table ∷ row ∷ column ∷ [])
    -- "A listed number outside -W..W is refusal 4", with "row in hand, steps completed"
    four : {row steps : ℕ} → Taken → FirstLarge row steps (listed_run n m (rows_of (suc n) m equations)) → Due (4 ∷ row ∷ steps ∷ [])
    -- "each of the n+1 sums is a listed number here"
    five : {i : ℕ} → Taken → LowestLarge n m k (rows_of (suc n) m equations) (rows_of (suc n) k inequalities) i → Due (5 ∷ i ∷ [])
