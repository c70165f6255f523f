-- The machine on each kind of line: a header line, a row line, a skipped line.
use mathlib.Core.Bool.{Bool, true, false, cond, not}
use mathlib.Core.Path.{◌≡◌, refl, ap}
use mathlib.Core.List.{List, [], ◌∷◌, ◌++◌, map, append-nil}
use Prim.Native.Nat.{ℕ, suc, ◌+◌, ◌-◌, ◌<◌}
use lib.Dec.{eqb}
use lib.ListN.{length}
use lib.IntN.{ℤ, neg_ℤ}
use Rattle.matrix.specs.Bytes.{line_feed, comment_mark, digit_byte}
use Rattle.wellformed.specs.Grammar.{Numbers, HeaderLine, header, Row, RowLine, row, mark_byte, NoLineFeed, SkippedLine, blank, comment}
use Rattle.matrix.specs.Machine.{marked, on_digit, on_class, step}
use Rattle.matrix.specs.Reader.{entry_of, ends}
use Rattle.matrix.specs.declared.Class.{Class}
use Rattle.matrix.specs.declared.Phase.TheVariants.{Start, Marked, Digits, Gap, Comment}
use Rattle.matrix.specs.declared.Machine.{Machine}
use Rattle.matrix.proofs.ByteKinds.{Kind, a_digit, a_minus, a_blank, a_return, a_feed, a_mark, another, kind}
use Rattle.wellformed.proofs.Following.{in_hand, placed}
use Rattle.wellformed.proofs.Passages.{Passage, Line, pending, stay, along, to_end, one_byte, line-ends}
use Rattle.wellformed.proofs.LinePieces.{behind, leading, moved, over, separates, lead, trail}
use Rattle.wellformed.proofs.LineNumbers.{digit-byte, count, number}

-- where a line begins, with the header read or not
abbrev pub at_line : Bool → Machine → Machine
at_line body m = placed m Start body m.left

-- the entries that the numbers of a row give, if it is of this kind
abbrev pub entries_of : Bool → Bool → List ℤ → List ℤ
entries_of which inequality numbers = cond (cond which inequality (not inequality)) (cond inequality (map neg_ℤ numbers) numbers) []

entries_none : (which inequality : Bool) → entries_of which inequality [] ≡ []
entries_none true true = refl
entries_none true false = refl
entries_none false true = refl
entries_none false false = refl

entries_next : (which inequality : Bool) (z entry : ℤ) (numbers : List ℤ) → entry ≡ cond inequality (neg_ℤ z) z
    → cond (cond which inequality (not inequality)) (entry ∷ []) [] ++ entries_of which inequality numbers ≡ entries_of which inequality (z ∷ numbers)
entries_next true true z entry numbers e = rw e
entries_next true false z entry numbers e = refl
entries_next false true z entry numbers e = refl
entries_next false false z entry numbers e = rw e

module _ (which : Bool) where
  -- ---- the numbers of a row
  row-numbers : (m : Machine) (hand : Bool) (digits value : ℕ) (sign : Bool) {numbers : List ℤ} {bytes : List ℕ} → Numbers numbers bytes
      → (digits' : ℕ) × (value' : ℕ) × (sign' : Bool)
      × Line which (in_hand m (behind hand) true (length numbers) digits value sign) bytes (in_hand m Start true 0 digits' value' sign')
      (pending which (in_hand m (behind hand) true (length numbers) digits value sign) ++ entries_of which m.inequality numbers)
  row-numbers m hand digits value sign (Numbers.end blanks) = (
    digits,
    value,
    sign,
    rw (entries_none which m.inequality, append-nil (pending which (in_hand m (behind hand) true 0 digits value sign)))
        (trail which hand (in_hand m Gap true 0 digits value sign) refl blanks),
  )
  row-numbers m hand digits value sign (Numbers.next {z = z} {numbers = numbers} gap this rest) =
      let x = in_hand m Gap true (suc (length numbers)) digits value sign in
      let (n, v, s, passed, entry) = number which x (length numbers) refl refl this in
      let (digits', value', sign', line) = row-numbers m true n v s rest in
      let joined = entries_next which m.inequality z (entry_of (in_hand m Digits true (length numbers) n v s)) numbers entry in
      let after = in_hand m Start true 0 digits' value' sign' in
      (digits', value', sign', rw joined at (to_end which {m'' = after} (separates which hand x gap) (to_end which {m'' = after} passed line)))

  -- ---- a row line

  mark-byte : (m : Machine) (led inequality : Bool) → eqb m.rows 0 ≡ false
      → Passage which (placed m (leading led) true m.left) (mark_byte inequality ∷ []) (placed (marked inequality m) Marked true (m.columns - 1)) []
  unfolding step ends
  mark-byte m true true some = one_byte which _ 49 _ (rw some) refl refl
  mark-byte m true false some = one_byte which _ 48 _ (rw some) refl refl
  mark-byte m false true some = one_byte which _ 49 _ (rw some) refl refl
  mark-byte m false false some = one_byte which _ 48 _ (rw some) refl refl

  other-kind : (inequality : Bool) → ◌≡◌ {A = ℕ} (cond inequality 0 1) (cond (not inequality) 1 0)
  other-kind true = refl
  other-kind false = refl

  -- behind it one row fewer is to come, and one more of its kind has come
  pub record RowPassed (m : Machine) (r : Row) (line : List ℕ) : Type 0 where
    pub after : Machine
    pub passes : Line which (at_line true m) line (at_line true after) (entries_of which r.inequality r.numbers)
    pub rows_are : after.rows ≡ m.rows - 1
    pub columns_are : after.columns ≡ m.columns
    pub equations_are : after.equations ≡ m.equations + cond (not r.inequality) 1 0
    pub inequalities_are : after.inequalities ≡ m.inequalities + cond r.inequality 1 0

  pub row_line : (m : Machine) {r : Row} {line : List ℕ} → eqb m.rows 0 ≡ false → RowLine m.columns r line → RowPassed m r line
  unfolding marked
  row_line m some (row {inequality = inequality} {numbers = numbers} blanks long are) =
      let (led, leads) = lead which (at_line true m) blanks in
      let m' = marked inequality m in
      let (digits, value, sign, rest) = row-numbers m' false m.digits m.value m.negative are in
      let begins = rw (← long) at (mark-byte m led inequality some) in
      record {
        after = in_hand m' Start true 0 digits value sign;
        passes = to_end which leads (to_end which begins rest);
        rows_are = refl;
        columns_are = refl;
        equations_are = ap (λ n. m.equations + n) (other-kind inequality);
        inequalities_are = refl;
      }

  -- ---- the header line

  first-digit : (m : Machine) (led : Bool) (d : ℕ) → d < 10
      → Passage which (placed m (leading led) false m.left) (digit_byte d ∷ []) (in_hand m Digits false 1 1 d false) []
  unfolding on_digit ends
  first-digit m true d low = digit-byte which _ _ d low refl refl refl
  first-digit m false d low = digit-byte which _ _ d low refl refl refl

  abbrev with_rows : ℕ → Machine → Machine
  with_rows rows m = record {
    phase = m.phase;
    body = m.body;
    rows = rows;
    columns = m.columns;
    left = m.left;
    digits = m.digits;
    value = m.value;
    negative = m.negative;
    inequality = m.inequality;
    equations = m.equations;
    inequalities = m.inequalities;
  }

  second-digit : (m : Machine) (digits rows d : ℕ) → d < 10
      → Passage which (in_hand m Gap false 1 digits rows false) (digit_byte d ∷ []) (in_hand (with_rows rows m) Digits false 0 1 d false) []
  unfolding on_digit ends
  second-digit m digits rows d low = digit-byte which _ _ d low refl refl refl

  pub record HeaderPassed (m : Machine) (rows columns : ℕ) (line : List ℕ) : Type 0 where
    pub after : Machine
    pub passes : Line which (at_line false m) line (at_line true after) []
    pub rows_are : after.rows ≡ rows
    pub columns_are : after.columns ≡ columns
    pub equations_are : after.equations ≡ m.equations
    pub inequalities_are : after.inequalities ≡ m.inequalities

  pub header-line : (m : Machine) {rows columns : ℕ} {line : List ℕ} → HeaderLine rows columns line → HeaderPassed m rows columns line
  header-line m (header {rows = rows} {columns = columns} blanks first gap second behind) =
      let (led, leads) = lead which (at_line false m) blanks in
      let (n, counted) = count which m false 1 false (placed m (leading led) false m.left) (first-digit m led) first in
      let (n', counted') = count which (with_rows rows m) false 0 false (in_hand m Gap false 1 n rows false) (second-digit m n rows) second in
      let x = in_hand (with_rows rows m) Digits false 0 n' columns false in
      record {
        after = over x;
        passes =
            to_end which leads (to_end which counted
            (to_end which (separates which true (in_hand m Digits false 1 n rows false) gap) (to_end which counted' (trail which true x refl behind))));
        rows_are = refl;
        columns_are = refl;
        equations_are = refl;
        inequalities_are = refl;
      }

  -- ---- a skipped line

  blank-ends : (led : Bool) (x : Machine) → Line which (moved (leading led) x) [] (moved Start x) []
  unfolding step ends
  blank-ends true x = line-ends which _ _ refl refl refl refl refl refl _ refl refl refl
  blank-ends false x = line-ends which _ _ refl refl refl refl refl refl _ refl refl refl

  comment-class : (x : Machine) {b : ℕ} {c : Class} → Kind b c → (b ≡ line_feed → ⊥) → on_class c (moved Comment x) ≡ moved Comment x
  unfolding on_class
  comment-class x (a_digit d low) other = refl
  comment-class x a_minus other = refl
  comment-class x (a_blank is) other = refl
  comment-class x a_return other = refl
  comment-class x a_feed other = absurd (other refl)
  comment-class x a_mark other = refl
  comment-class x (another no-feed) other = refl

  comment-bytes : (x : Machine) (bytes : List ℕ) → NoLineFeed bytes → Passage which (moved Comment x) bytes (moved Comment x) []
  unfolding step ends
  comment-bytes x [] clean = stay which (moved Comment x)
  comment-bytes x (b ∷ bytes) clean =
      along which (one_byte which _ b _ (comment-class x (kind b) clean.0) refl refl) (comment-bytes x bytes clean.1)

  comment-begins : (x : Machine) → Passage which (moved Start x) (comment_mark ∷ []) (moved Comment x) []
  unfolding step ends
  comment-begins x = one_byte which _ comment_mark _ refl refl refl

  comment-ends : (x : Machine) → Line which (moved Comment x) [] (moved Start x) []
  unfolding step ends
  comment-ends x = line-ends which _ _ refl refl refl refl refl refl _ refl refl refl

  pub skipped-line : (x : Machine) {line : List ℕ} → SkippedLine line → Line which (moved Start x) line (moved Start x) []
  skipped-line x (blank {bytes = bytes} blanks) =
      let (led, leads) = lead which x blanks in
      rw (append-nil bytes) at (to_end which leads (blank-ends led x))
  skipped-line x (comment {bytes = bytes} clean) =
      rw (append-nil bytes) at (to_end which (along which (comment-begins x) (comment-bytes x bytes clean)) (comment-ends x))
