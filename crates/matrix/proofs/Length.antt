-- What the program prints has at most 98304 bytes: every number has at most 20 digits, and there are at most 32 lines of 65 numbers and 64 of 33.
use mathlib.Core.Bool.{Bool, true, false, cond, ◌||◌}
use mathlib.Core.List.{List, [], ◌∷◌, ◌++◌, map}
use Prim.Native.Nat.{ℕ, zero, suc, ◌+◌, ◌-◌, ◌*◌, ◌/◌, ◌%◌, ◌≤◌}
use native.Mathlib.Omega.{arith}
use lib.Dec.{eqb, ltb}
use lib.ListN.{length, take, drop, set, get_or, length-append, length-take, length-set, length-replicate, length-map}
use lib.IntN.{ℤ, pos, neg_ℤ, nat_abs}
use lib.Signed.{lt_z}
use Rattle.rows.specs.Row.{zeros}
use Rattle.rows.specs.Table.{rows_of}
use Rattle.rules.specs.Outcomes.{Results}
use Rattle.rules.specs.Numbers.{of_refusal}
use Rattle.rules.specs.declared.Refusal.{Refusal}
use Rattle.rules.specs.declared.Refusal.TheVariants.{OutOfRange, WrongLength, BadEntry, TooLarge, LargeSum, Malformed, LongText}
use Rattle.rules.specs.declared.Outcome.{Outcome}
use Rattle.rules.specs.declared.Outcome.TheVariants.{Open, EquationConflict, OneRowConflict, TwoRowConflict, Refused}
use Rattle.matrix.specs.Bytes.{digit_byte, space, minus}
use Rattle.matrix.specs.Printed.{
  decimal_in,
  decimal,
  signed,
  spaced_by,
  listed,
  error,
  equation_letter,
  multiplied,
  used_names,
  names_of_multipliers,
  names_of_row,
  names_of_rows,
  open_columns,
  opened,
  header_line,
  row_line,
  lines_from,
  solved_line,
  solved_matrix,
  tightened_line,
  tightened_matrix,
  sat,
  unknown,
  open_word,
  printed,
}

-- either of two lists
either : (b : Bool) (l r : List ℕ) (top : ℕ) → length l ≤ top → length r ≤ top → length (cond b l r) ≤ top
either true l r top h k = h
either false l r top h k = k

-- ---- numbers
decimal_in-short : (places x : ℕ) → length (decimal_in places x) ≤ places
unfolding decimal_in
decimal_in-short zero x = omega arith
decimal_in-short (suc places) x =
    let rest = decimal_in places (x / 10) in
    let last = digit_byte (x % 10) ∷ [] in
    either (ltb x 10) (digit_byte x ∷ []) (rest ++ last) (suc places) (omega arith) (omega (arith, decimal_in-short places (x / 10), length-append rest last))

decimal-short : (x : ℕ) → length (decimal x) ≤ 20
unfolding decimal
decimal-short x = decimal_in-short 20 x

signed-short : (z : ℤ) → length (signed z) ≤ 21
unfolding signed
signed-short z =
    let d = decimal (nat_abs z) in
    either (lt_z z (pos 0)) (minus ∷ d) d 21 (omega (arith, decimal-short (nat_abs z))) (omega (arith, decimal-short (nat_abs z)))

spaced-short : {A : Type 0} (show : A → List ℕ) (b : ℕ) → ((a : A) → length (show a) ≤ b) → (l : List A)
    → length (spaced_by show l) ≤ length l * suc b
unfolding spaced_by
spaced-short show b h [] = omega arith
spaced-short show b h (a ∷ l) =
    simp length-append (omega (arith, h a, spaced-short show b h l))

-- ---- refusals and names
listed-short : (l : List ℕ) → length (listed l) ≤ length l * 21
unfolding listed
listed-short [] = omega arith
listed-short (x ∷ l) = simp length-append (omega (arith, decimal-short x, spaced-short decimal 20 decimal-short l))

numbers-short : (r : Refusal) → length (of_refusal r) ≤ 4
unfolding of_refusal
numbers-short OutOfRange = omega arith
numbers-short WrongLength = omega arith
numbers-short (BadEntry table row column) = omega arith
numbers-short (TooLarge row steps) = omega arith
numbers-short (LargeSum inequality) = omega arith
numbers-short (Malformed place) = omega arith
numbers-short LongText = omega arith

error-short : (r : Refusal) → length (error r) ≤ 95
unfolding error
error-short r = simp length-append (omega (arith, numbers-short r, listed-short (of_refusal r)))

multiplied-short : (before j : ℕ) (l : List ℤ) → length (multiplied before j l) ≤ length l * 22
unfolding multiplied
multiplied-short before j [] = omega arith
multiplied-short before j (z ∷ l) =
    let past = multiplied before (suc j) l in
    let here = before ∷ (equation_letter ∷ (decimal j ++ multiplied space (suc j) l)) in
    either (eqb (nat_abs z) 0) past here (suc (length l) * 22) (omega (arith, multiplied-short before (suc j) l))
    (simp length-append (omega (arith, decimal-short j, multiplied-short space (suc j) l)))

used-short : (j count one other : ℕ) → length (used_names j count one other) ≤ count * 22
unfolding used_names
used-short j zero one other = omega arith
used-short j (suc count) one other =
    let rest = used_names (suc j) count (one / 2) (other / 2) in
    let here = equation_letter ∷ (decimal j ++ (space ∷ rest)) in
    either (eqb (one % 2) 1 || eqb (other % 2) 1) here rest (suc count * 22)
    (simp length-append (omega (arith, decimal-short j, used-short (suc j) count (one / 2) (other / 2))))
    (omega (arith, used-short (suc j) count (one / 2) (other / 2)))

-- ---- matrices
header-short : (rows columns : ℕ) → length (header_line rows columns) ≤ 42
unfolding header_line
header-short rows columns = simp length-append (omega (arith, decimal-short rows, decimal-short columns))

row-short : (mark : ℕ) (numbers : List ℤ) → length (row_line mark numbers) ≤ length numbers * 22 + 2
unfolding row_line
row-short mark numbers = simp length-append (omega (arith, spaced-short signed 21 signed-short numbers))

opened-short : (marks : List ℕ) (row : List ℤ) → length (opened marks row) ≤ length row
unfolding opened
opened-short [] row = omega arith
opened-short (mark ∷ marks) [] = omega arith
opened-short (mark ∷ marks) (z ∷ row) = go (eqb mark 0) (opened-short marks row)
  where
    go : (b : Bool) → length (opened marks row) ≤ length row → length (cond b (opened marks row) (z ∷ opened marks row)) ≤ suc (length row)
    go true h = omega arith
    go false h = omega arith

lines-short : (line : ℕ → List ℤ → List ℕ) (w top : ℕ) → ((i : ℕ) (row : List ℤ) → length row ≤ w → length (line i row) ≤ top)
    → (i count : ℕ) (table : List ℤ) → length (lines_from line i (rows_of w count table)) ≤ count * top
unfolding lines_from rows_of
lines-short line w top h i zero table = omega arith
lines-short line w top h i (suc count) table =
    let first = h i (take w table) (omega (arith, length-take w table)) in
    simp length-append (omega (arith, first, lines-short line w top h (suc i) count (drop w table)))

module _ (n : ℕ) (h : n ≤ 32) (marks : List ℕ) where
  solved-line-short : (i : ℕ) (row : List ℤ) → length row ≤ suc n → length (solved_line n marks i row) ≤ 1432
  unfolding solved_line zeros
  solved-line-short i row k =
      let x = set (zeros n) i (neg_ℤ (pos 1)) in
      let y = opened marks row in
      omega (
        arith,
        row-short 0 (x ++ y),
        length-append x y,
        length-set (zeros n) i (neg_ℤ (pos 1)),
        length-replicate n (pos 0),
        opened-short marks row,
      )

  tightened-line-short : (row : List ℤ) → length row ≤ suc n → length (tightened_line marks row) ≤ 728
  unfolding tightened_line
  tightened-line-short row k =
      let y = opened marks row in
      omega (arith, row-short 1 (map neg_ℤ y), length-map y neg_ℤ, opened-short marks row)

  solved-short : (table : List ℤ) → length (solved_matrix n marks table) ≤ 45866
  unfolding solved_matrix
  solved-short table =
      let head = header_line n (n + (open_columns marks + 2)) in
      let lines = lines_from (solved_line n marks) 0 (rows_of (suc n) n table) in
      omega (
        arith,
        length-append head lines,
        header-short n (n + (open_columns marks + 2)),
        lines-short (solved_line n marks) (suc n) 1432 solved-line-short 0 n table,
      )

  tightened-short : (k : ℕ) → k ≤ 64 → (table : List ℤ) → length (tightened_matrix n k marks table) ≤ 46634
  unfolding tightened_matrix
  tightened-short k l table =
      let head = header_line k (open_columns marks + 2) in
      let lines = lines_from (λ i. tightened_line marks) 0 (rows_of (suc n) k table) in
      omega (
        arith,
        length-append head lines,
        header-short k (open_columns marks + 2),
        lines-short (λ i. tightened_line marks) (suc n) 728 (λ i. tightened-line-short) 0 k table,
      )

-- ---- all that is printed
pub printed-short : (n m k : ℕ) (o : Outcome) (t : Results) → n ≤ 32 → m ≤ 32 → k ≤ 64 → length (printed n m k o t) ≤ 98304
unfolding printed names_of_multipliers names_of_row names_of_rows
printed-short n m k (Open steps) t hn hm hk =
    let solved = solved_matrix n t.marks t.substitution in
    let tightened = tightened_matrix n k t.marks t.tightened in
    omega (
      arith,
      length-append (open_word k) (solved ++ tightened),
      length-append solved tightened,
      either (eqb k 0) sat unknown 8 (omega arith) (omega arith),
      solved-short n hn t.marks t.substitution,
      tightened-short n hn t.marks k hk t.tightened,
    )
printed-short n m k (EquationConflict row steps) t hn hm hk =
    simp length-append (omega (arith, multiplied-short 40 1 (take m t.conflict), length-take m t.conflict))
printed-short n m k (OneRowConflict i steps) t hn hm hk =
    simp length-append (omega (arith, decimal-short i, used-short 1 m (get_or t.used (i - 1) 0) 0))
printed-short n m k (TwoRowConflict i j steps) t hn hm hk =
    simp length-append (
    omega (arith, decimal-short i, decimal-short j, used-short 1 m (get_or t.used (i - 1) 0) (get_or t.used (j - 1) 0))
    )
printed-short n m k (Refused refusal) t hn hm hk = omega (arith, error-short refusal)
