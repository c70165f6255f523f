-- "If the answer is an enum, a definition gives this paper's number and values for each of its cases. The promises use that definition."
-- Every answer as a list of numbers: its kind, and then its values. The promises, the printer and the face for other languages go by these.
use Rattle.std.specs.Prelude.{Bool, true, false, List, [], ◌∷◌, ℕ, get_or, Result, Ok, Err}
use Rattle.rules.specs.declared.Table.{Table}
use Rattle.rules.specs.declared.Table.TheVariants.{Equations, Inequalities, Multipliers}
use Rattle.rules.specs.declared.Refusal.{Refusal}
use Rattle.rules.specs.declared.Refusal.TheVariants.{OutOfRange, WrongLength, BadEntry, TooLarge, LargeSum, Malformed, LongText}
use Rattle.rules.specs.declared.Outcome.{Outcome}
use Rattle.rules.specs.declared.Outcome.TheVariants.{Open, EquationConflict, OneRowConflict, TwoRowConflict, Refused}
use Rattle.rules.specs.declared.System.{System}

-- the kind
abbrev pub kind : List ℕ → ℕ
kind numbers = get_or numbers 0 0

-- "table (0 equations, 1 inequalities, 2 multipliers)"
abbrev pub table_number : Table → ℕ
table_number Equations = 0
table_number Inequalities = 1
table_number Multipliers = 2

-- a refusal: its number, then its fields
unfoldable pub of_refusal : Refusal → List ℕ
of_refusal OutOfRange = 1 ∷ []
of_refusal WrongLength = 2 ∷ []
of_refusal (BadEntry table row column) = 3 ∷ table_number table ∷ row ∷ column ∷ []
of_refusal (TooLarge row steps) = 4 ∷ row ∷ steps ∷ []
of_refusal (LargeSum inequality) = 5 ∷ inequality ∷ []
of_refusal (Malformed place) = 6 ∷ place ∷ []
of_refusal LongText = 7 ∷ []

-- the kinds of an outcome, in the document's order; a refusal of any answer is kind 4
unfoldable pub of_outcome : Outcome → List ℕ
unfolding of_refusal
of_outcome (Open steps) = 0 ∷ steps ∷ []
of_outcome (EquationConflict row steps) = 1 ∷ row ∷ steps ∷ []
of_outcome (OneRowConflict i steps) = 2 ∷ i ∷ steps ∷ []
of_outcome (TwoRowConflict i j steps) = 3 ∷ i ∷ j ∷ steps ∷ []
of_outcome (Refused refusal) = 4 ∷ of_refusal refusal

-- the checker's answer: no, yes or a refusal
unfoldable pub of_verdict : Result Bool Refusal → List ℕ
unfolding of_refusal
of_verdict (Ok false) = 0 ∷ []
of_verdict (Ok true) = 1 ∷ []
of_verdict (Err refusal) = 4 ∷ of_refusal refusal

unfoldable pub of_reading : Result System Refusal → List ℕ
unfolding of_refusal
of_reading (Ok s) = 0 ∷ s.n ∷ s.m ∷ s.k ∷ []
of_reading (Err refusal) = 4 ∷ of_refusal refusal
