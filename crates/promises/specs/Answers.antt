-- What the answer of a whole call promises. A call is `solve n m k equations inequalities given`, with flat input tables and the result
-- tables before the call. One record for each kind of outcome; here the tables are taken as rows, and rows count from 1, as in every field.
use Rattle.std.specs.Prelude.{◌≡◌, true, List, [], ◌∷◌, ℕ, suc, ◌≤◌, ◌<◌, length, get_or, ℤ, pos}
use Rattle.rows.specs.Row.{at, zeros, all_within}
use Rattle.rows.specs.Table.{rows_of}
use Rattle.rules.specs.Elimination.{State}
use Rattle.rules.specs.Inequalities.{sums, used_by, tightened_row}
use Rattle.rules.specs.Outcomes.{Results, Answer, blank}
use Rattle.rules.specs.Numbers.{of_outcome, of_verdict}
use Rattle.rules.specs.Checker.{check}
use Rattle.promises.specs.Meaning.{row_number, set_number, Counts, NoSolution, Holds, Meets, Satisfies, SatisfiesSet}
use Rattle.promises.specs.Solutions.{Solved, Unsolvable}
use Rattle.promises.specs.Rows.{Tightened}
use Rattle.promises.specs.Refusals.{Due}

-- the result tables substitution, way back, marks and reasons, with the steps that the outcome carries, as the state of a run
abbrev pub shown : ℕ → ℕ → ℕ → Results → State
shown n m steps results = record {
  substitution = rows_of (suc n) n results.substitution;
  way_back = rows_of (suc n) n results.way_back;
  marks = results.marks;
  reasons = rows_of (suc m) n results.reasons;
  steps = steps;
}

-- "Tables not named as filled hold zeros": the result tables without what the table conflict holds
abbrev pub all_but_conflict : ℕ → Results → Results
all_but_conflict m results = record {
  substitution = results.substitution;
  marks = results.marks;
  way_back = results.way_back;
  reasons = results.reasons;
  conflict = zeros (suc m);
  tightened = results.tightened;
  used = results.used;
}

-- ---- equation conflict: "conflict filled". The equations are the flat table, as the checker takes it.
pub record EquationsUnmet (n m : ℕ) (equations : List ℤ) (row : ℕ) (results : Results) : Type 0 where
  pub counts : Counts row m
  -- "the equations can't be met": no whole numbers satisfy them
  pub unsolvable : Unsolvable n (rows_of (suc n) m equations)
  -- just the equations with a non-zero multiplier have no solution
  pub never : (x : List ℤ) → length x ≡ n
      → ((j : ℕ) → j < m → (at results.conflict j ≡ pos 0 → ⊥) → Holds x (get_or (rows_of (suc n) m equations) j [])) → ⊥
  -- "Every conflict table filled above gets a yes."
  pub yes : of_verdict (check n m equations results.conflict) ≡ 1 ∷ []

-- ---- open, one-row conflict and two-row conflict: "all but conflict filled"
module _ (n m k : ℕ) (equations inequalities : List (List ℤ)) (steps : ℕ) (results : Results) where
  -- what the tables hold for inequality i
  pub record InequalityWorked (i : ℕ) : Type 0 where
    -- row i of the table tightened and set i of the table used are those of the state that the other tables show
    pub row : row_number i (rows_of (suc n) k results.tightened) ≡ tightened_row n (shown n m steps results) (row_number i inequalities)
    pub set : set_number i results.used ≡ used_by m (shown n m steps results) (sums n (shown n m steps results).substitution (row_number i inequalities))
    -- none of its sums is beyond the limit
    pub within : all_within (sums n (shown n m steps results).substitution (row_number i inequalities)) ≡ true
    -- "a tightened row holds exactly when its inequality does", and "whole numbers that satisfy the inequality and the used equations
    -- alone satisfy the tightened row, taken at the way back"
    pub tightened : Tightened n m equations (shown n m steps results) (row_number i inequalities)

  pub record Filled : Type 0 where
    -- some whole numbers satisfy the equations
    pub solvable : (x : List ℤ) × (length x ≡ n) × Satisfies x equations
    -- "the substitution gives every solution, each from exactly one choice, and nothing else", with the way back and the reasons
    pub solved : Solved n m equations (shown n m steps results)
    pub inequality : (i : ℕ) → Counts i k → InequalityWorked i
    pub no_conflict : results.conflict ≡ zeros (suc m)

  -- one-row conflict, besides: "any other conflict names rows that no whole numbers satisfy together"
  pub record OneRowUnmet (i : ℕ) : Type 0 where
    pub filled : Filled
    pub counts : Counts i k
    -- no whole numbers satisfy inequality i and the equations that it used
    pub never : (x : List ℤ) → length x ≡ n → Meets x (row_number i inequalities) → SatisfiesSet x equations (set_number i results.used) → ⊥
    -- so none satisfy the whole system
    pub whole : NoSolution n equations inequalities

  -- two-row conflict, besides
  pub record TwoRowsUnmet (i j : ℕ) : Type 0 where
    pub filled : Filled
    pub counts : Counts i k × Counts j k
    pub ordered : i < j
    -- no whole numbers satisfy inequalities i and j and the equations used by either
    pub never : (x : List ℤ) → length x ≡ n → Meets x (row_number i inequalities) → Meets x (row_number j inequalities)
        → SatisfiesSet x equations (set_number i results.used) → SatisfiesSet x equations (set_number j results.used) → ⊥
    -- so none satisfy the whole system
    pub whole : NoSolution n equations inequalities

-- ---- what an answer says, by the document's number and values of it (`of_outcome` of rules/specs/Numbers.antt): `given` are the result
-- tables before the call, `results` those after it
module _ (n m k : ℕ) (equations inequalities : List ℤ) (given results : Results) where
  pub data Says : List ℕ → Type 0 where
    opened : {steps : ℕ} → Filled n m k (rows_of (suc n) m equations) (rows_of (suc n) k inequalities) steps results → Says (0 ∷ steps ∷ [])
    equation_conflict : {row steps : ℕ} → EquationsUnmet n m equations row results → all_but_conflict m results ≡ blank n m k → Says (1 ∷ row ∷ steps ∷ [])
    one_row_conflict : {i steps : ℕ}
        → OneRowUnmet n m k (rows_of (suc n) m equations) (rows_of (suc n) k inequalities) steps results i → Says (2 ∷ i ∷ steps ∷ [])
    two_row_conflict : {i j steps : ℕ}
        → TwoRowsUnmet n m k (rows_of (suc n) m equations) (rows_of (suc n) k inequalities) steps results i j → Says (3 ∷ i ∷ j ∷ steps ∷ [])
    -- refusals 1 and 2: "untouched"
    untouched : {number : ℕ} {fields : List ℕ}
        → number ≤ 2 → Due n m k equations inequalities given (number ∷ fields) → results ≡ given → Says (4 ∷ number ∷ fields)
    -- refusals 3, 4 and 5: "zeros"
    zeroed : {number : ℕ} {fields : List ℕ}
        → 3 ≤ number → Due n m k equations inequalities given (number ∷ fields) → results ≡ blank n m k → Says (4 ∷ number ∷ fields)

-- the same of an answer: `promised` in proofs/Answers.antt shows it of every call's
abbrev pub Promised : ℕ → ℕ → ℕ → List ℤ → List ℤ → Results → Answer → Type 0
Promised n m k equations inequalities given answer = Says n m k equations inequalities given answer.results (of_outcome answer.outcome)
