-- What the rows of a text say of whole numbers, and what the names in a reply stand for.
use Rattle.std.specs.Prelude.{Bool, true, false, cond, not, ◌≡◌, List, [], ◌∷◌, ◌++◌, ℕ, suc, ◌-◌, length, ℤ, pos, ◌≤ℤ◌}
use Rattle.rows.specs.Row.{dot}
use Rattle.promises.specs.Meaning.{point}
use Rattle.wellformed.specs.Grammar.{Row, Says}
use Rattle.matrix.specs.Printed.{decimal, spaced_by, equation_letter, inequality_letter, open_bracket, closing}

-- "mark 0 for an equation, 1 for 'sum + constant >= 0', then n coefficients and the constant"
abbrev pub Keeps : List ℤ → Row → Type 0
Keeps x r = elim r.inequality [ true ↦ pos 0 ≤ℤ dot r.numbers (point x) | false ↦ dot r.numbers (point x) ≡ pos 0 ]

-- whole numbers x_1..x_n keep every row
abbrev pub KeepsAll : List ℤ → List Row → Type 0
KeepsAll x [] = Unit {0}
KeepsAll x (r ∷ matrix) = Keeps x r × KeepsAll x matrix

-- ---- a name: equation or inequality, and its number

pub record Name : Type 0 where
  pub inequality : Bool
  pub number : ℕ

-- the rows of one kind, in order
unfoldable pub of_kind : Bool → List Row → List Row
of_kind inequality [] = []
of_kind inequality (r ∷ matrix) = cond (cond inequality r.inequality (not r.inequality)) (r ∷ of_kind inequality matrix) (of_kind inequality matrix)

-- this row has this name: it is the row of its kind with its number, from 1
pub record Named (matrix : List Row) (name : Name) (row : Row) : Type 0 where
  pub before : List Row
  pub after : List Row
  pub there : of_kind name.inequality matrix ≡ before ++ (row ∷ after)
  pub numbered : name.number ≡ suc (length before)

-- whole numbers keep the rows that have these names
abbrev pub KeepsNamed : List ℤ → List Row → List Name → Type 0
KeepsNamed x matrix [] = Unit {0}
KeepsNamed x matrix (name ∷ names) = ((row : Row) → Named matrix name row → Keeps x row) × KeepsNamed x matrix names

-- ---- the line of names: "(e1 i1 i2)"

unfoldable pub name_bytes : Name → List ℕ
unfolding decimal
name_bytes name = cond name.inequality inequality_letter equation_letter ∷ decimal name.number

-- one space between them
unfoldable pub names_line : List Name → List ℕ
unfolding name_bytes spaced_by
names_line [] = open_bracket ∷ closing
names_line (name ∷ names) = open_bracket ∷ (name_bytes name ++ (spaced_by name_bytes names ++ closing))

-- ---- what the two words mean

-- `unsat`, and then this line: no whole numbers keep all rows of the matrix that the text says, and none keep just those that are named
pub record NoneFit (text line : List ℕ) : Type 0 where
  pub rows : ℕ
  pub columns : ℕ
  pub matrix : List Row
  pub says : Says text rows columns matrix
  pub none : (x : List ℤ) → length x ≡ columns - 2 → KeepsAll x matrix → ⊥
  pub names : List Name
  pub named : line ≡ names_line names
  pub none_named : (x : List ℤ) → length x ≡ columns - 2 → KeepsNamed x matrix names → ⊥

-- `sat`: some whole numbers keep all its rows
pub record SomeFit (text : List ℕ) : Type 0 where
  pub rows : ℕ
  pub columns : ℕ
  pub matrix : List Row
  pub says : Says text rows columns matrix
  pub x : List ℤ
  pub long : length x ≡ columns - 2
  pub keeps : KeepsAll x matrix
