-- What a well-formed text is, and which matrix it says. Limits are no part of it.
use Rattle.std.specs.Prelude.{Bool, cond, ◌≡◌, List, [], ◌∷◌, ◌++◌, map, ℕ, suc, ◌+◌, ◌*◌, ◌-◌, ◌<◌, ◌≤◌, length, ℤ, pos, neg_ℤ}
use Rattle.matrix.specs.Bytes.{tab, line_feed, carriage_return, space, comment_mark, minus, digit_byte}

-- "Spaces and tabs separate."
pub data Blanks : List ℕ → Type 0 where
  none : Blanks []
  a_space : {bytes : List ℕ} → Blanks bytes → Blanks (space ∷ bytes)
  a_tab : {bytes : List ℕ} → Blanks bytes → Blanks (tab ∷ bytes)

-- at least one
pub data Separator : List ℕ → Type 0 where
  by_space : {bytes : List ℕ} → Blanks bytes → Separator (space ∷ bytes)
  by_tab : {bytes : List ℕ} → Blanks bytes → Separator (tab ∷ bytes)

-- digits, each 0 to 9, and the number that they say behind those that say `before`
abbrev pub AllDigits : List ℕ → Type 0
AllDigits [] = Unit {0}
AllDigits (d ∷ digits) = (d < 10) × AllDigits digits

unfoldable pub said : ℕ → List ℕ → ℕ
said before [] = before
said before (d ∷ digits) = said (before * 10 + d) digits

-- the digits that say a number
pub record Numeral (value : ℕ) (bytes : List ℕ) : Type 0 where
  pub digits : List ℕ
  pub each : AllDigits digits
  pub shown : bytes ≡ map digit_byte digits
  pub says : said 0 digits ≡ value

-- "1 to 10 digits"
pub record Count (value : ℕ) (bytes : List ℕ) : Type 0 where
  pub digits : List ℕ
  pub each : AllDigits digits
  pub some : 1 ≤ length digits
  pub few : length digits ≤ 10
  pub shown : bytes ≡ map digit_byte digits
  pub says : value ≡ said 0 digits

-- "A number is an optional minus and 1 to 10 digits"
pub data Number : ℤ → List ℕ → Type 0 where
  plain : {value : ℕ} {bytes : List ℕ} → Count value bytes → Number (pos value) bytes
  negative : {value : ℕ} {bytes : List ℕ} → Count value bytes → Number (neg_ℤ (pos value)) (minus ∷ bytes)

-- numbers, each behind a separator, and blanks that "may also begin or end a header or row line"
pub data Numbers : List ℤ → List ℕ → Type 0 where
  end : {bytes : List ℕ} → Blanks bytes → Numbers [] bytes
  next : {z : ℤ} {numbers : List ℤ} {gap number rest : List ℕ}
      → Separator gap → Number z number → Numbers numbers rest → Numbers (z ∷ numbers) (gap ++ (number ++ rest))

-- "a line with the number of rows and of columns"; "header counts take no sign"
pub data HeaderLine : ℕ → ℕ → List ℕ → Type 0 where
  header : {rows columns : ℕ} {lead first gap second trail : List ℕ}
      → Blanks lead → Count rows first → Separator gap → Count columns second → Blanks trail
      → HeaderLine rows columns (lead ++ (first ++ (gap ++ (second ++ trail))))

-- "each row on a line: mark 0 for an equation, 1 for 'sum + constant >= 0', then n coefficients and the constant"
pub record Row : Type 0 where
  pub inequality : Bool
  pub numbers : List ℤ

abbrev pub mark_byte : Bool → ℕ
mark_byte inequality = cond inequality 49 48

pub data RowLine (columns : ℕ) : Row → List ℕ → Type 0 where
  row : {inequality : Bool} {numbers : List ℤ} {lead rest : List ℕ}
      → Blanks lead → length numbers ≡ columns - 1 → Numbers numbers rest
      → RowLine columns (record { inequality = inequality; numbers = numbers }) (lead ++ (mark_byte inequality ∷ rest))

-- "a comment may hold any bytes but LF"
abbrev pub NoLineFeed : List ℕ → Type 0
NoLineFeed [] = Unit {0}
NoLineFeed (b ∷ bytes) = (b ≡ line_feed → ⊥) × NoLineFeed bytes

-- "Blank lines and lines whose first byte is # are skipped."
pub data SkippedLine : List ℕ → Type 0 where
  blank : {bytes : List ℕ} → Blanks bytes → SkippedLine bytes
  comment : {bytes : List ℕ} → NoLineFeed bytes → SkippedLine (comment_mark ∷ bytes)

-- the row lines, as many as the header says, and skipped lines anywhere between them
pub data Body (columns : ℕ) : ℕ → List Row → List (List ℕ) → Type 0 where
  end : Body columns 0 [] []
  skip : {rows : ℕ} {matrix : List Row} {line : List ℕ} {lines : List (List ℕ)}
      → SkippedLine line → Body columns rows matrix lines → Body columns rows matrix (line ∷ lines)
  next : {rows : ℕ} {r : Row} {matrix : List Row} {line : List ℕ} {lines : List (List ℕ)}
      → RowLine columns r line → Body columns rows matrix lines → Body columns (suc rows) (r ∷ matrix) (line ∷ lines)

pub data Matrix (rows columns : ℕ) (matrix : List Row) : List (List ℕ) → Type 0 where
  skip : {line : List ℕ} {lines : List (List ℕ)} → SkippedLine line → Matrix rows columns matrix lines → Matrix rows columns matrix (line ∷ lines)
  head : {line : List ℕ} {lines : List (List ℕ)} → HeaderLine rows columns line → Body columns rows matrix lines → Matrix rows columns matrix (line ∷ lines)

-- "Lines end with LF or CR LF, the last perhaps with neither": what follows the last line end is the last line, perhaps empty
pub data Lines : List (List ℕ) → List ℕ → Type 0 where
  last : {line : List ℕ} → Lines (line ∷ []) line
  feed : {line bytes : List ℕ} {lines : List (List ℕ)} → Lines lines bytes → Lines (line ∷ lines) (line ++ (line_feed ∷ bytes))
  return_feed : {line bytes : List ℕ} {lines : List (List ℕ)}
      → Lines lines bytes → Lines (line ∷ lines) (line ++ (carriage_return ∷ (line_feed ∷ bytes)))

-- the text says this matrix; a text is well formed if it says one
pub record Says (text : List ℕ) (rows columns : ℕ) (matrix : List Row) : Type 0 where
  pub lines : List (List ℕ)
  pub cut : Lines lines text
  pub matrix_of : Matrix rows columns matrix lines

pub record WellFormed (text : List ℕ) : Type 0 where
  pub rows : ℕ
  pub columns : ℕ
  pub matrix : List Row
  pub says : Says text rows columns matrix
