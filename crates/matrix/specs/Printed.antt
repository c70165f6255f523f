-- "The program reads standard input and prints SMT-LIB response words": all that it prints, byte by byte.
use Rattle.std.specs.Prelude.{Bool, cond, ◌||◌, List, [], ◌∷◌, ◌++◌, map, ℕ, zero, suc, ◌+◌, ◌-◌, ◌/◌, ◌%◌, eqb, ltb, take, set, get_or, ℤ, pos, neg_ℤ, nat_abs}
use Rattle.std.specs.Int.Signed.{lt_z}
use Rattle.rows.specs.Row.{zeros}
use Rattle.rows.specs.Table.{rows_of}
use Rattle.rules.specs.Outcomes.{Results}
use Rattle.rules.specs.Numbers.{of_refusal}
use Rattle.rules.specs.declared.Refusal.{Refusal}
use Rattle.rules.specs.declared.Outcome.{Outcome}
use Rattle.rules.specs.declared.Outcome.TheVariants.{Open, EquationConflict, OneRowConflict, TwoRowConflict, Refused}
use Rattle.matrix.specs.Bytes.{line_feed, space, minus, digit_byte}

-- ---- numbers

-- in so many places at most
unfoldable pub decimal_in : ℕ → ℕ → List ℕ
decimal_in zero x = []
decimal_in (suc places) x = cond (ltb x 10) (digit_byte x ∷ []) (decimal_in places (x / 10) ++ digit_byte (x % 10) ∷ [])

-- a number of 64 bits has at most 20
unfoldable pub decimal : ℕ → List ℕ
unfolding decimal_in
decimal x = decimal_in 20 x

unfoldable pub signed : ℤ → List ℕ
unfolding decimal
signed z = cond (lt_z z (pos 0)) (minus ∷ decimal (nat_abs z)) (decimal (nat_abs z))

-- a number, or its opposite
unfoldable pub turned : Bool → ℤ → ℤ
turned opposite z = cond opposite (neg_ℤ z) z

-- each behind one space, as it is shown
unfoldable pub spaced_by : {A : Type 0} → (A → List ℕ) → List A → List ℕ
spaced_by show [] = []
spaced_by show (a ∷ more) = space ∷ (show a ++ spaced_by show more)

abbrev pub spaced : List ℤ → List ℕ
spaced numbers = spaced_by signed numbers

abbrev pub spaced_fields : List ℕ → List ℕ
spaced_fields fields = spaced_by decimal fields

-- the first with nothing before it
unfoldable pub listed : List ℕ → List ℕ
unfolding decimal spaced_by
listed [] = []
listed (x ∷ more) = decimal x ++ spaced_fields more

-- ---- "A refusal prints `(error "4 1 0")`: number, then fields."

unfoldable pub error : Refusal → List ℕ
unfolding listed of_refusal
error r = (40 ∷ 101 ∷ 114 ∷ 114 ∷ 111 ∷ 114 ∷ 32 ∷ 34 ∷ []) ++ (listed (of_refusal r) ++ (34 ∷ 41 ∷ line_feed ∷ []))

-- ---- "After `unsat`, one line with the names in use ..., each name once, lowest number first in each group."

-- e and i
abbrev pub equation_letter : ℕ
equation_letter = 101

abbrev pub inequality_letter : ℕ
inequality_letter = 105

-- "equations with non-zero multipliers", the first of them being number j: each name behind a byte, the first behind this one
unfoldable pub multiplied : ℕ → ℕ → List ℤ → List ℕ
unfolding decimal
multiplied before j [] = []
multiplied before j (z ∷ multipliers) =
    cond (eqb (nat_abs z) 0) (multiplied before (suc j) multipliers) (before ∷ (equation_letter ∷ (decimal j ++ multiplied space (suc j) multipliers)))

-- "the used equations of the rows in conflict": number j and those after it, `count` in all, bit 0 of either set standing for j; each
-- name has a space behind it
unfoldable pub used_names : ℕ → ℕ → ℕ → ℕ → List ℕ
unfolding decimal
used_names j zero one other = []
used_names j (suc count) one other =
    cond (eqb (one % 2) 1 || eqb (other % 2) 1)
    (equation_letter ∷ (decimal j ++ (space ∷ used_names (suc j) count (one / 2) (other / 2))))
    (used_names (suc j) count (one / 2) (other / 2))

abbrev pub open_bracket : ℕ
open_bracket = 40

-- a closing bracket and the end of the line
abbrev pub closing : List ℕ
closing = 41 ∷ line_feed ∷ []

unfoldable pub names_of_multipliers : List ℤ → List ℕ
unfolding multiplied
names_of_multipliers multipliers = multiplied open_bracket 1 multipliers ++ closing

-- "and then those rows"
unfoldable pub names_of_row : ℕ → ℕ → ℕ → List ℕ
unfolding used_names decimal
names_of_row m i used = open_bracket ∷ (used_names 1 m used 0 ++ (inequality_letter ∷ (decimal i ++ closing)))

unfoldable pub names_of_rows : ℕ → ℕ → ℕ → ℕ → ℕ → List ℕ
unfolding used_names decimal
names_of_rows m i j one other =
    open_bracket ∷ (used_names 1 m one other ++ (inequality_letter ∷ (decimal i ++ (space ∷ (inequality_letter ∷ (decimal j ++ closing))))))

-- ---- "Otherwise two PolyLib matrices"

unfoldable pub open_columns : List ℕ → ℕ
open_columns [] = 0
open_columns (mark ∷ marks) = cond (eqb mark 0) (open_columns marks) (suc (open_columns marks))

-- "open y in order, constant": the entries at open columns and those behind the marks
unfoldable pub opened : List ℕ → List ℤ → List ℤ
opened [] row = row
opened (mark ∷ marks) [] = []
opened (mark ∷ marks) (z ∷ row) = cond (eqb mark 0) (opened marks row) (z ∷ opened marks row)

unfoldable pub header_line : ℕ → ℕ → List ℕ
unfolding decimal
header_line rows columns = decimal rows ++ (space ∷ (decimal columns ++ (line_feed ∷ [])))

-- a mark, the numbers, the end of the line
unfoldable pub row_line : ℕ → List ℤ → List ℕ
unfolding signed spaced_by
row_line mark numbers = digit_byte mark ∷ (spaced numbers ++ (line_feed ∷ []))

-- a line for each row, the first being row i
unfoldable pub lines_from : (ℕ → List ℤ → List ℕ) → ℕ → List (List ℤ) → List ℕ
lines_from line i [] = []
lines_from line i (row ∷ rows) = line i row ++ lines_from line (suc i) rows

-- "first -x_i + substitution = 0, with columns mark, x, open y in order, constant", i from 0
unfoldable pub solved_line : ℕ → List ℕ → ℕ → List ℤ → List ℕ
unfolding row_line opened zeros
solved_line n marks i row = row_line 0 (set (zeros n) i (neg_ℤ (pos 1)) ++ opened marks row)

unfoldable pub solved_matrix : ℕ → List ℕ → List ℤ → List ℕ
unfolding header_line lines_from solved_line open_columns rows_of
solved_matrix n marks substitution = header_line n (n + (open_columns marks + 2)) ++ lines_from (solved_line n marks) 0 (rows_of (suc n) n substitution)

-- "then the tightened rows, negated back, with columns mark, open y, constant"
unfoldable pub tightened_line : List ℕ → List ℤ → List ℕ
unfolding row_line opened
tightened_line marks row = row_line 1 (map neg_ℤ (opened marks row))

unfoldable pub tightened_matrix : ℕ → ℕ → List ℕ → List ℤ → List ℕ
unfolding header_line lines_from tightened_line open_columns rows_of
tightened_matrix n k marks tightened =
    header_line k (open_columns marks + 2) ++ lines_from (λ i. tightened_line marks) 0 (rows_of (suc n) k tightened)

-- ---- "`unsat`, `sat` (open, k = 0) or `unknown` (open, k > 0)"

abbrev pub unsat : List ℕ
unsat = 117 ∷ 110 ∷ 115 ∷ 97 ∷ 116 ∷ line_feed ∷ []

abbrev pub sat : List ℕ
sat = 115 ∷ 97 ∷ 116 ∷ line_feed ∷ []

abbrev pub unknown : List ℕ
unknown = 117 ∷ 110 ∷ 107 ∷ 110 ∷ 111 ∷ 119 ∷ 110 ∷ line_feed ∷ []

abbrev pub open_word : ℕ → List ℕ
open_word k = cond (eqb k 0) sat unknown

unfoldable pub printed : ℕ → ℕ → ℕ → Outcome → Results → List ℕ
unfolding names_of_multipliers names_of_row names_of_rows solved_matrix tightened_matrix error
printed n m k (Open steps) t = open_word k ++ (solved_matrix n t.marks t.substitution ++ tightened_matrix n k t.marks t.tightened)
printed n m k (EquationConflict row steps) t = unsat ++ names_of_multipliers (take m t.conflict)
printed n m k (OneRowConflict i steps) t = unsat ++ names_of_row m i (get_or t.used (i - 1) 0)
printed n m k (TwoRowConflict i j steps) t = unsat ++ names_of_rows m i j (get_or t.used (i - 1) 0) (get_or t.used (j - 1) 0)
printed n m k (Refused refusal) t = error refusal
