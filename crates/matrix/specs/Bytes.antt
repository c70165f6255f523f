-- "Spaces and tabs separate. Blank lines and lines whose first byte is # are skipped": the bytes by name, and the class of each.
use Rattle.std.specs.Prelude.{Bool, true, false, ℕ, ◌-◌, ◌+◌, eqb, leb}
use Rattle.matrix.specs.declared.Class.{Class}
use Rattle.matrix.specs.declared.Class.TheVariants.{Digit, Minus, Blank, CarriageReturn, LineFeed, CommentMark, Other}

abbrev pub tab : ℕ
tab = 9

abbrev pub line_feed : ℕ
line_feed = 10

abbrev pub carriage_return : ℕ
carriage_return = 13

abbrev pub space : ℕ
space = 32

abbrev pub comment_mark : ℕ
comment_mark = 35

abbrev pub minus : ℕ
minus = 45

-- the byte of a digit, 0 to 9
abbrev pub digit_byte : ℕ → ℕ
digit_byte d = 48 + d

abbrev pub pick : Bool → Class → Class → Class
pick true a b = a
pick false a b = b

-- a byte that is no digit
abbrev pub class_of_other : ℕ → Class
class_of_other b =
    pick (eqb b 45) Minus
    (pick (eqb b 32) Blank
    (pick (eqb b 9) Blank
    (pick (eqb b 13) CarriageReturn
    (pick (eqb b 10) LineFeed
    (pick (eqb b 35) CommentMark
    Other)))))

unfoldable pub class_of : ℕ → Class
class_of b = pick (leb 48 b) (pick (leb b 57) (Digit (b - 48)) (class_of_other b)) (class_of_other b)
