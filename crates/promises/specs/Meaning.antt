-- What rows and tables say of whole numbers x_1..x_n and parameters y_1..y_n.
use Rattle.std.specs.Prelude.{◌≡◌, List, [], ◌∷◌, ◌++◌, ℕ, ◌-◌, ◌<◌, ◌≤◌, ◌/◌, ◌%◌, ◌^◌, length, get_or, ℤ, pos, ◌≤ℤ◌}
use Rattle.rows.specs.Row.{at, dot, values}
use Rattle.rules.specs.Elimination.{State}

-- the numbers, and 1 for the constant
abbrev pub point : List ℤ → List ℤ
point x = x ++ pos 1 ∷ []

-- "An equation says sum + constant = 0, an inequality says sum + constant <= 0."
abbrev pub Holds : List ℤ → List ℤ → Type 0
Holds x equation = dot equation (point x) ≡ pos 0

abbrev pub Meets : List ℤ → List ℤ → Type 0
Meets x inequality = dot inequality (point x) ≤ℤ pos 0

abbrev pub Satisfies : List ℤ → List (List ℤ) → Type 0
Satisfies x [] = Unit {0}
Satisfies x (equation ∷ equations) = Holds x equation × Satisfies x equations

abbrev pub MeetsAll : List ℤ → List (List ℤ) → Type 0
MeetsAll x [] = Unit {0}
MeetsAll x (inequality ∷ inequalities) = Meets x inequality × MeetsAll x inequalities

-- no whole numbers satisfy the whole system
abbrev pub NoSolution : ℕ → List (List ℤ) → List (List ℤ) → Type 0
NoSolution n equations inequalities = (x : List ℤ) → length x ≡ n → Satisfies x equations → MeetsAll x inequalities → ⊥

-- "Rows and columns count from 1 .. in every field": row i of a table, and set i of the table used
abbrev pub row_number : ℕ → List (List ℤ) → List ℤ
row_number i rows = get_or rows (i - 1) []

abbrev pub set_number : ℕ → List ℕ → ℕ
set_number i sets = get_or sets (i - 1) 0

-- i is the number of a row, of so many
abbrev pub Counts : ℕ → ℕ → Type 0
Counts i count = (1 ≤ i) × (i ≤ count)

-- "marks, n: 1 open, 0 closed"
abbrev pub Closed : State → ℕ → Type 0
Closed s p = get_or s.marks p 1 ≡ 0

-- a choice of the open parameters: "a closed parameter means zero"
pub record Choice (n : ℕ) (s : State) (y : List ℤ) : Type 0 where
  pub long : length y ≡ n
  pub closed_zero : (p : ℕ) → p < n → Closed s p → at y p ≡ pos 0

-- "row i gives x_i by the parameters y_1..y_n and a constant"
abbrev pub substituted : State → List ℤ → List ℤ
substituted s y = values s.substitution (point y)

-- "row p gives y_p by x_1..x_n and a constant"
abbrev pub parameters : State → List ℤ → List ℤ
parameters s x = values s.way_back (point x)

-- "bit j-1 standing for equation j": here j counts from 0
abbrev pub InSet : ℕ → ℕ → Type 0
InSet set j = (set / 2 ^ j) % 2 ≡ 1

-- the equations of the set hold
abbrev pub SatisfiesSet : List ℤ → List (List ℤ) → ℕ → Type 0
SatisfiesSet x equations set = (j : ℕ) → j < length equations → InSet set j → Holds x (get_or equations j [])
