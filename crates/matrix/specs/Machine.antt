-- How a text is read, one byte at a time.
use Rattle.std.specs.Prelude.{Bool, true, false, cond, ℕ, zero, suc, ◌+◌, ◌*◌, ◌-◌, eqb, ltb}
use Rattle.matrix.specs.Bytes.{class_of}
use Rattle.matrix.specs.declared.Class.{Class}
use Rattle.matrix.specs.declared.Class.TheVariants.{Digit, Minus, Blank, CarriageReturn, LineFeed, CommentMark, Other}
use Rattle.matrix.specs.declared.Phase.{Phase}
use Rattle.matrix.specs.declared.Phase.TheVariants.{Start, Lead, Marked, Signed, Digits, Gap, Return, Comment, Dead}
use Rattle.matrix.specs.declared.Machine.{Machine}

-- before the first byte
unfoldable pub begin : Machine
begin = record {
  phase = Start;
  body = false;
  rows = 0;
  columns = 0;
  left = 0;
  digits = 0;
  value = 0;
  negative = false;
  inequality = false;
  equations = 0;
  inequalities = 0;
}

-- the same but for the phase
unfoldable pub in_phase : Phase → Machine → Machine
in_phase phase m = record {
  phase = phase;
  body = m.body;
  rows = m.rows;
  columns = m.columns;
  left = m.left;
  digits = m.digits;
  value = m.value;
  negative = m.negative;
  inequality = m.inequality;
  equations = m.equations;
  inequalities = m.inequalities;
}

abbrev pub dead : Machine → Machine
dead m = in_phase Dead m

-- ---- a digit

-- the first count of the header begins; one more is to come
unfoldable pub first_count : ℕ → Machine → Machine
first_count d m = record {
  phase = Digits;
  body = m.body;
  rows = m.rows;
  columns = m.columns;
  left = 1;
  digits = 1;
  value = d;
  negative = false;
  inequality = m.inequality;
  equations = m.equations;
  inequalities = m.inequalities;
}

-- a row begins by its mark; the columns but the mark's are to come
unfoldable pub marked : Bool → Machine → Machine
marked inequality m = record {
  phase = Marked;
  body = m.body;
  rows = m.rows - 1;
  columns = m.columns;
  left = m.columns - 1;
  digits = m.digits;
  value = m.value;
  negative = m.negative;
  inequality = inequality;
  equations = m.equations + cond inequality 0 1;
  inequalities = m.inequalities + cond inequality 1 0;
}

-- "a mark is one byte": "mark 0 for an equation, 1 for 'sum + constant >= 0'"
unfoldable pub mark_of : ℕ → Machine → Machine
unfolding marked in_phase
mark_of zero m = marked false m
mark_of (suc zero) m = marked true m
mark_of (suc (suc d)) m = dead m

-- the first number of a line: a count of the header, or a row's mark if a row is to come
unfoldable pub first_number : ℕ → Machine → Machine
unfolding first_count mark_of in_phase
first_number d m = cond m.body (cond (eqb m.rows 0) (dead m) (mark_of d m)) (first_count d m)

-- a further number begins by a digit; in the header the first count is then the number of rows
unfoldable pub next_number : ℕ → Machine → Machine
unfolding in_phase
next_number d m = cond (eqb m.left 0) (dead m) (record {
  phase = Digits;
  body = m.body;
  rows = cond m.body m.rows m.value;
  columns = m.columns;
  left = m.left - 1;
  digits = 1;
  value = d;
  negative = false;
  inequality = m.inequality;
  equations = m.equations;
  inequalities = m.inequalities;
})

-- the digit behind a minus
unfoldable pub after_minus : ℕ → Machine → Machine
after_minus d m = record {
  phase = Digits;
  body = m.body;
  rows = m.rows;
  columns = m.columns;
  left = m.left;
  digits = 1;
  value = d;
  negative = m.negative;
  inequality = m.inequality;
  equations = m.equations;
  inequalities = m.inequalities;
}

-- "1 to 10 digits"
unfoldable pub next_digit : ℕ → Machine → Machine
unfolding in_phase
next_digit d m = cond (ltb m.digits 10) (record {
  phase = Digits;
  body = m.body;
  rows = m.rows;
  columns = m.columns;
  left = m.left;
  digits = m.digits + 1;
  value = m.value * 10 + d;
  negative = m.negative;
  inequality = m.inequality;
  equations = m.equations;
  inequalities = m.inequalities;
}) (dead m)

unfoldable pub on_digit : Phase → ℕ → Machine → Machine
unfolding first_number next_number after_minus next_digit in_phase
on_digit Start d m = first_number d m
on_digit Lead d m = first_number d m
on_digit Marked d m = dead m
on_digit Signed d m = after_minus d m
on_digit Digits d m = next_digit d m
on_digit Gap d m = next_number d m
on_digit Return d m = dead m
on_digit Comment d m = m
on_digit Dead d m = m

-- ---- a minus: "header counts take no sign"

unfoldable pub minus_begins : Machine → Machine
unfolding in_phase
minus_begins m = cond m.body (cond (eqb m.left 0) (dead m) (record {
  phase = Signed;
  body = m.body;
  rows = m.rows;
  columns = m.columns;
  left = m.left - 1;
  digits = m.digits;
  value = m.value;
  negative = true;
  inequality = m.inequality;
  equations = m.equations;
  inequalities = m.inequalities;
})) (dead m)

unfoldable pub on_minus : Phase → Machine → Machine
unfolding minus_begins in_phase
on_minus Gap m = minus_begins m
on_minus Comment m = m
on_minus Dead m = m
on_minus _ m = dead m

-- ---- a blank

unfoldable pub on_blank : Phase → Machine → Machine
unfolding in_phase
on_blank Start m = in_phase Lead m
on_blank Lead m = m
on_blank Marked m = in_phase Gap m
on_blank Signed m = dead m
on_blank Digits m = in_phase Gap m
on_blank Gap m = m
on_blank Return m = dead m
on_blank Comment m = m
on_blank Dead m = m

-- ---- the end of a line

-- a header or row line ends, if none of its numbers is missing; the header's last count is the number of columns
unfoldable pub line_ends : Phase → Machine → Machine
unfolding in_phase
line_ends phase m = cond (eqb m.left 0) (record {
  phase = phase;
  body = true;
  rows = m.rows;
  columns = cond m.body m.columns m.value;
  left = m.left;
  digits = m.digits;
  value = m.value;
  negative = m.negative;
  inequality = m.inequality;
  equations = m.equations;
  inequalities = m.inequalities;
}) (dead m)

unfoldable pub on_carriage_return : Phase → Machine → Machine
unfolding line_ends in_phase
on_carriage_return Start m = in_phase Return m
on_carriage_return Lead m = in_phase Return m
on_carriage_return Marked m = line_ends Return m
on_carriage_return Signed m = dead m
on_carriage_return Digits m = line_ends Return m
on_carriage_return Gap m = line_ends Return m
on_carriage_return Return m = dead m
on_carriage_return Comment m = m
on_carriage_return Dead m = m

unfoldable pub on_line_feed : Phase → Machine → Machine
unfolding line_ends in_phase
on_line_feed Start m = m
on_line_feed Lead m = in_phase Start m
on_line_feed Marked m = line_ends Start m
on_line_feed Signed m = dead m
on_line_feed Digits m = line_ends Start m
on_line_feed Gap m = line_ends Start m
on_line_feed Return m = in_phase Start m
on_line_feed Comment m = in_phase Start m
on_line_feed Dead m = m

-- ---- "lines whose first byte is #": "a comment may hold any bytes but LF"

unfoldable pub on_comment_mark : Phase → Machine → Machine
unfolding in_phase
on_comment_mark Start m = in_phase Comment m
on_comment_mark Comment m = m
on_comment_mark Dead m = m
on_comment_mark _ m = dead m

unfoldable pub on_other : Phase → Machine → Machine
unfolding in_phase
on_other Comment m = m
on_other Dead m = m
on_other _ m = dead m

-- ---- one byte

unfoldable pub on_class : Class → Machine → Machine
unfolding on_digit on_minus on_blank on_carriage_return on_line_feed on_comment_mark on_other
on_class (Digit d) m = on_digit m.phase d m
on_class Minus m = on_minus m.phase m
on_class Blank m = on_blank m.phase m
on_class CarriageReturn m = on_carriage_return m.phase m
on_class LineFeed m = on_line_feed m.phase m
on_class CommentMark m = on_comment_mark m.phase m
on_class Other m = on_other m.phase m

unfoldable pub step : Machine → ℕ → Machine
unfolding on_class class_of
step m b = on_class (class_of b) m
