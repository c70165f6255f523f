-- What the bytes still to come must be, for each state of the machine, if what follows the header is to be of a certain kind.
use mathlib.Core.Bool.{Bool, true, false, cond}
use mathlib.Core.Path.{◌≡◌, refl, subst}
use mathlib.Core.List.{List, [], ◌∷◌}
use Prim.Native.Nat.{ℕ, zero, suc, ◌-◌}
use Rattle.matrix.specs.Bytes.{line_feed, carriage_return, comment_mark}
use Rattle.wellformed.specs.Grammar.{Blanks, HeaderLine, header, Row, RowLine, row, NoLineFeed, SkippedLine, blank, comment, Lines, feed}
use Rattle.matrix.specs.Machine.{in_phase}
use Rattle.matrix.specs.Reader.{is_dead}
use Rattle.matrix.specs.declared.Phase.{Phase}
use Rattle.matrix.specs.declared.Phase.TheVariants.{Start, Lead, Marked, Signed, Digits, Gap, Return, Comment, Dead}
use Rattle.matrix.specs.declared.Machine.{Machine}
use Rattle.matrix.proofs.ByteKinds.{IsBlank}
use Rattle.wellformed.proofs.Cuts.{Cut}
use Rattle.wellformed.proofs.Pieces.{blanks-blank, Counted, Spaced, InNumber, AfterMinus, InSecond, ToSecond, InFirst}

-- ---- the machine with some of its parts put in: the proofs go by cases on these

abbrev pub in_hand : Machine → Phase → Bool → ℕ → ℕ → ℕ → Bool → Machine
in_hand m phase body left digits value negative = record {
  phase = phase;
  body = body;
  rows = m.rows;
  columns = m.columns;
  left = left;
  digits = digits;
  value = value;
  negative = negative;
  inequality = m.inequality;
  equations = m.equations;
  inequalities = m.inequalities;
}

abbrev pub placed : Machine → Phase → Bool → ℕ → Machine
placed m phase body left = in_hand m phase body left m.digits m.value m.negative

-- behind a line that ended
abbrev pub ended : Machine → Phase → Bool → ℕ → Machine
ended m phase body left = record {
  phase = phase;
  body = true;
  rows = m.rows;
  columns = cond body m.columns m.value;
  left = left;
  digits = m.digits;
  value = m.value;
  negative = m.negative;
  inequality = m.inequality;
  equations = m.equations;
  inequalities = m.inequalities;
}

-- of which kind the lines are that follow a header with these columns and rows, or what is left of those rows
pub record Following : Type 1 where
  pub holds : ℕ → ℕ → List (List ℕ) → Type 0
  pub skips : (columns rows : ℕ) (line : List ℕ) (lines : List (List ℕ)) → SkippedLine line → holds columns rows lines → holds columns rows (line ∷ lines)
  pub adds : (columns rows : ℕ) (r : Row) (line : List ℕ) (lines : List (List ℕ))
      → RowLine columns r line → holds columns rows lines → holds columns (suc rows) (line ∷ lines)

abbrev pub Unless : Bool → Type 0 → Type 0
Unless true A = ⊥
Unless false A = A

module _ (G : Following) where
  -- the header is to come
  pub data Heads : List (List ℕ) → Type 0 where
    skip : {line : List ℕ} {lines : List (List ℕ)} → SkippedLine line → Heads lines → Heads (line ∷ lines)
    head : {rows columns : ℕ} {line : List ℕ} {lines : List (List ℕ)} → HeaderLine rows columns line → G.holds columns rows lines → Heads (line ∷ lines)

  -- whole lines, with the header read or not
  abbrev pub After : Bool → ℕ → ℕ → List (List ℕ) → Type 0
  After true columns rows lines = G.holds columns rows lines
  After false columns rows lines = Heads lines

  -- the first line may begin with blanks, and is no comment
  pub data Leads : Bool → ℕ → ℕ → List ℕ → List (List ℕ) → Type 0 where
    blank_line : {body : Bool} {columns rows : ℕ} {line : List ℕ} {lines : List (List ℕ)}
        → Blanks line → After body columns rows lines → Leads body columns rows line lines
    header_line : {columns rows columns' rows' : ℕ} {line : List ℕ} {lines : List (List ℕ)}
        → HeaderLine rows' columns' line → G.holds columns' rows' lines → Leads false columns rows line lines
    row_line : {columns rows : ℕ} {r : Row} {line : List ℕ} {lines : List (List ℕ)}
        → suc (rows - 1) ≡ rows → RowLine columns r line → G.holds columns (rows - 1) lines → Leads true columns rows line lines

  after-skip : (body : Bool) (columns rows : ℕ) {line : List ℕ} (lines : List (List ℕ))
      → SkippedLine line → After body columns rows lines → After body columns rows (line ∷ lines)
  after-skip true columns rows lines skipped after = G.skips columns rows _ lines skipped after
  after-skip false columns rows lines skipped after = skip skipped after

  pub after-comment : (body : Bool) (columns rows : ℕ) (line : List ℕ) (lines : List (List ℕ))
      → NoLineFeed line → After body columns rows lines → After body columns rows ((comment_mark ∷ line) ∷ lines)
  after-comment body columns rows line lines clean after = after-skip body columns rows lines (comment clean) after

  pub leads-after : {body : Bool} {columns rows : ℕ} {line : List ℕ} {lines : List (List ℕ)}
      → Leads body columns rows line lines → After body columns rows (line ∷ lines)
  leads-after (blank_line {body = body} {columns = columns} {rows = rows} {lines = lines} blanks after) =
      after-skip body columns rows lines (blank blanks) after
  leads-after (header_line line lines) = head line lines
  leads-after (row_line {columns = columns} {rows = rows} {line = line} {lines = lines} some r after) =
      subst (λ n. G.holds columns n (line ∷ lines)) some (G.adds columns (rows - 1) _ line lines r after)

  header-blank : {b rows columns : ℕ} {line : List ℕ} → IsBlank b → HeaderLine rows columns line → HeaderLine rows columns (b ∷ line)
  header-blank b (header lead first gap second trail) = header (blanks-blank b lead) first gap second trail

  row-blank : {b columns : ℕ} {r : Row} {line : List ℕ} → IsBlank b → RowLine columns r line → RowLine columns r (b ∷ line)
  row-blank b (row lead long numbers) = row (blanks-blank b lead) long numbers

  pub leads-blank : {b : ℕ} {body : Bool} {columns rows : ℕ} {line : List ℕ} {lines : List (List ℕ)}
      → IsBlank b → Leads body columns rows line lines → Leads body columns rows (b ∷ line) lines
  leads-blank b (blank_line blanks after) = blank_line (blanks-blank b blanks) after
  leads-blank b (header_line line after) = header_line (header-blank b line) after
  leads-blank b (row_line some r after) = row_line some (row-blank b r) after

  -- ---- inside the header line; no run has two of its numbers to come, so nothing is asked there
  abbrev pub HeaderDigits : ℕ → ℕ → ℕ → ℕ → List ℕ → Type 0
  HeaderDigits zero rows had value bytes = Cut (λ line lines. (columns : ℕ) × InSecond had value columns line × G.holds columns rows lines) bytes
  HeaderDigits (suc zero) rows had value bytes =
      Cut (λ line lines. (rows : ℕ) × (columns : ℕ) × InFirst had value rows columns line × G.holds columns rows lines) bytes
  HeaderDigits (suc (suc left)) rows had value bytes = Unit {0}

  abbrev pub HeaderGap : ℕ → ℕ → ℕ → List ℕ → Type 0
  HeaderGap zero rows value bytes = Cut (λ line lines. Blanks line × G.holds value rows lines) bytes
  HeaderGap (suc zero) rows value bytes = Cut (λ line lines. (columns : ℕ) × ToSecond columns line × G.holds columns value lines) bytes
  HeaderGap (suc (suc left)) rows value bytes = Unit {0}

  -- ---- in each phase: header read or not, numbers of the line to come, rows to come, columns, digits and value of the number in hand;
  -- nothing is asked behind a mark or a minus before the header is read, since no run comes there
  abbrev pub RestOf : Phase → Bool → ℕ → ℕ → ℕ → ℕ → ℕ → List ℕ → Type 0
  RestOf Start body left rows columns had value bytes = Cut (λ line lines. After body columns rows (line ∷ lines)) bytes
  RestOf Lead body left rows columns had value bytes = Cut (Leads body columns rows) bytes
  RestOf Marked true left rows columns had value bytes = Cut (λ line lines. Counted left line × G.holds columns rows lines) bytes
  RestOf Marked false left rows columns had value bytes = Unit {0}
  RestOf Signed true left rows columns had value bytes = Cut (λ line lines. AfterMinus left line × G.holds columns rows lines) bytes
  RestOf Signed false left rows columns had value bytes = Unit {0}
  RestOf Digits true left rows columns had value bytes = Cut (λ line lines. InNumber had value left line × G.holds columns rows lines) bytes
  RestOf Digits false left rows columns had value bytes = HeaderDigits left rows had value bytes
  RestOf Gap true left rows columns had value bytes = Cut (λ line lines. Spaced left line × G.holds columns rows lines) bytes
  RestOf Gap false left rows columns had value bytes = HeaderGap left rows value bytes
  RestOf Return body left rows columns had value bytes =
      (lines : List (List ℕ)) × Lines ([] ∷ lines) (carriage_return ∷ bytes) × After body columns rows lines
  RestOf Comment body left rows columns had value bytes = Cut (λ line lines. NoLineFeed line × After body columns rows lines) bytes
  RestOf Dead body left rows columns had value bytes = ⊥

  abbrev pub Rest : Machine → List ℕ → Type 0
  Rest m bytes = RestOf m.phase m.body m.left m.rows m.columns m.digits m.value bytes

  -- the line has ended, and these lines are to come
  abbrev pub Ended : Machine → List (List ℕ) → Type 0
  Ended m lines = Unless (is_dead m.phase) (After m.body m.columns m.rows lines)

  -- ---- a test that must pass, or must fail
  pub rest-passed : (t : Bool) (x y : Machine) (bytes : List ℕ) → Rest (cond t x (in_phase Dead y)) bytes → (t ≡ true) × Rest x bytes
  unfolding in_phase
  rest-passed true x y bytes rest = (refl, rest)
  rest-passed false x y bytes rest = absurd rest

  pub rest-failed : (t : Bool) (x y : Machine) (bytes : List ℕ) → Rest (cond t (in_phase Dead x) y) bytes → (t ≡ false) × Rest y bytes
  unfolding in_phase
  rest-failed true x y bytes rest = absurd rest
  rest-failed false x y bytes rest = (refl, rest)

  pub ended-passed : (t : Bool) (x y : Machine) (lines : List (List ℕ)) → Ended (cond t x (in_phase Dead y)) lines → (t ≡ true) × Ended x lines
  unfolding in_phase
  ended-passed true x y lines rest = (refl, rest)
  ended-passed false x y lines rest = absurd rest

  -- ---- at a line feed or a carriage return, of a line that is complete or not
  pub feed-ends : (t : Bool) (x y : Machine) (bytes : List ℕ) → Rest (cond t (in_phase Start x) (in_phase Dead y)) bytes
      → (lines : List (List ℕ)) × Lines ([] ∷ lines) (line_feed ∷ bytes) × Ended (cond t (in_phase Start x) (in_phase Dead y)) lines
  unfolding in_phase
  feed-ends true x y bytes rest = (rest.line ∷ rest.others, feed rest.lines, rest.holds)
  feed-ends false x y bytes rest = absurd rest

  pub return-ends : (t : Bool) (x y : Machine) (bytes : List ℕ) → Rest (cond t (in_phase Return x) (in_phase Dead y)) bytes
      → (lines : List (List ℕ)) × Lines ([] ∷ lines) (carriage_return ∷ bytes) × Ended (cond t (in_phase Start x) (in_phase Dead y)) lines
  unfolding in_phase
  return-ends true x y bytes rest = rest
  return-ends false x y bytes rest = absurd rest
