-- What the reader answers, and what its two row tables then hold.
use Rattle.std.specs.Prelude.{Bool, true, false, not, cond, ◌&&◌, List, [], ◌∷◌, ◌++◌, ℕ, suc, ◌-◌, eqb, leb, length, ℤ, pos, neg_ℤ, Result, Err, Ok}
use Rattle.rows.specs.Row.{zeros}
use Rattle.rules.specs.declared.Refusal.TheVariants.{OutOfRange, WrongLength, Malformed, LongText}
use Rattle.matrix.specs.Bytes.{line_feed}
use Rattle.matrix.specs.Machine.{begin, step}
use Rattle.matrix.specs.Poured.{poured}
use Rattle.matrix.specs.declared.Phase.{Phase}
use Rattle.matrix.specs.declared.Phase.TheVariants.{Start, Digits, Return, Dead}
use Rattle.matrix.specs.declared.Machine.{Machine}
use Rattle.rules.specs.declared.Refusal.{Refusal}
use Rattle.rules.specs.declared.System.{System}
use Rattle.rules.specs.Reading.{system_of}

abbrev pub is_start : Phase → Bool
is_start Start = true
is_start _ = false

abbrev pub is_digits : Phase → Bool
is_digits Digits = true
is_digits _ = false

abbrev pub is_return : Phase → Bool
is_return Return = true
is_return _ = false

abbrev pub is_dead : Phase → Bool
is_dead Dead = true
is_dead _ = false

-- ---- "Header rows above 96 or columns outside 3..34 give refusal 1 once the header line ends"

abbrev pub counts_fit : ℕ → ℕ → Bool
counts_fit rows columns = leb rows 96 && (leb 3 columns && leb columns 34)

-- a line has ended, the header is read, and its counts do not fit
unfoldable pub beyond : Machine → Bool
beyond m = is_start m.phase && (m.body && not (counts_fit m.rows m.columns))

-- ---- "more than 32 equations or 64 inequalities give it after the text"

unfoldable pub counted : Machine → Result System Refusal
counted m = cond (leb m.equations 32 && leb m.inequalities 64) (system_of (m.columns - 2) m.equations m.inequalities) (Err OutOfRange)

-- the whole text is read and its last line ended: the header and all its rows must have come
unfoldable pub closed : Machine → ℕ → Result System Refusal
unfolding beyond counted
closed m place =
    cond (is_dead m.phase) (Err (Malformed place))
    (cond (beyond m) (Err OutOfRange)
    (cond (m.body && eqb m.rows 0) (counted m) (Err (Malformed place))))

-- "Lines end with LF or CR LF, the last perhaps with neither": the end of the text ends a line, but not one whose LF is missing
unfoldable pub at_end : Machine → ℕ → Result System Refusal
unfolding closed step
at_end m place = cond (is_return m.phase) (Err (Malformed place)) (closed (step m line_feed) place)

-- ---- the bytes from this place on

unfoldable pub scan : Machine → ℕ → List ℕ → Result System Refusal
unfolding at_end beyond step
scan m place [] = at_end m place
scan m place (b ∷ bytes) =
    let next = step m b in
    cond (is_dead next.phase) (Err (Malformed place)) (cond (beyond next) (Err OutOfRange) (scan next (suc place) bytes))

-- ---- the numbers of the equations, or those of the inequalities, in order

-- "An inequality row is negated on entry."
abbrev pub entry_of : Machine → ℤ
entry_of m = cond m.negative (cond m.inequality (pos m.value) (neg_ℤ (pos m.value))) (cond m.inequality (neg_ℤ (pos m.value)) (pos m.value))

-- a number of a row of this kind is in hand before a byte, and no number is after it
unfoldable pub ends : Bool → Machine → Machine → Bool
ends inequality m next = (is_digits m.phase && not (is_digits next.phase)) && (m.body && cond inequality m.inequality (not m.inequality))

unfoldable pub numbers : Bool → Machine → List ℕ → List ℤ
unfolding step ends
numbers inequality m [] = []
numbers inequality m (b ∷ bytes) =
    let next = step m b in
    cond (ends inequality m next) (entry_of m ∷ numbers inequality next bytes) (numbers inequality next bytes)

unfoldable pub numbers_of : Bool → List ℕ → List ℤ
unfolding numbers begin
numbers_of inequality text = numbers inequality begin (text ++ line_feed ∷ [])

-- ---- a text and two row tables

pub record Read : Type 0 where
  pub reading : Result System Refusal
  pub equations : List ℤ
  pub inequalities : List ℤ

abbrev pub reply : Result System Refusal → List ℤ → List ℤ → Read
reply reading equations inequalities = record { reading = reading; equations = equations; inequalities = inequalities }

-- "rows at the front, zeros behind"; "After 1, 6 or 7 from the reader these row tables hold zeros."
unfoldable pub filled : Result System Refusal → List ℕ → Read
unfolding numbers_of poured zeros
filled (Ok s) text = reply (Ok s) (poured (numbers_of false text) (zeros 1056)) (poured (numbers_of true text) (zeros 2112))
filled (Err refusal) text = reply (Err refusal) (zeros 1056) (zeros 2112)

-- "row tables of 1,056 and 2,112 numbers ...; other lengths give refusal 2, tables untouched. Refusal 7 comes next."
unfoldable pub read : List ℕ → List ℤ → List ℤ → Read
unfolding filled scan begin zeros
read text equations inequalities =
    cond (eqb (length equations) 1056 && eqb (length inequalities) 2112)
    (cond (leb (length text) 65536) (filled (scan begin 0 text) text) (reply (Err LongText) (zeros 1056) (zeros 2112)))
    (reply (Err WrongLength) equations inequalities)
