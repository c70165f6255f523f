-- What the reader does on a well-formed text, and on one whose header is out of range.
use mathlib.Core.Bool.{Bool, true, false}
use mathlib.Core.Path.{◌≡◌, refl, sym, ◌∙◌}
use mathlib.Core.List.{List}
use Prim.Native.Nat.{ℕ}
use native.Mathlib.Nat.{zero-add}
use Rattle.rules.specs.declared.Refusal.TheVariants.{OutOfRange}
use Rattle.matrix.specs.Bytes.{line_feed}
use Rattle.wellformed.specs.Grammar.{Row, Matrix, Lines, last, feed, return_feed, Says, WellFormed}
use Rattle.matrix.specs.Machine.{begin, step}
use Rattle.matrix.specs.Reader.{is_return, counts_fit, beyond, counted, closed, scan, numbers_of}
use Rattle.matrix.specs.declared.Phase.TheVariants.{Start}
use Rattle.matrix.specs.declared.Machine.{Machine}
use Rattle.wellformed.specs.Promised.{rows_of_kind, packed, answered, Headed}
use Rattle.wellformed.proofs.Runs.{run, Accepts}
use Rattle.wellformed.proofs.Passages.{Answers, by_feed, by_return}
use Rattle.wellformed.proofs.LineKinds.{at_line, HeaderPassed, header-line, skipped-line}
use Rattle.wellformed.proofs.TextReads.{Passed, matrix-lines}
use Rattle.std.specs.Prelude.{Err}

-- ---- the machine behind the text's last line

pub record Ran (text : List ℕ) (columns : ℕ) (matrix : List Row) : Type 0 where
  pub ended : is_return (run begin text).phase ≡ false
  pub starts : (step (run begin text) line_feed).phase ≡ Start
  pub headed : (step (run begin text) line_feed).body ≡ true
  pub whole : (step (run begin text) line_feed).rows ≡ 0
  pub columns_are : (step (run begin text) line_feed).columns ≡ columns
  pub equations_are : (step (run begin text) line_feed).equations ≡ rows_of_kind false matrix
  pub inequalities_are : (step (run begin text) line_feed).inequalities ≡ rows_of_kind true matrix

says-passes : (which : Bool) {rows columns : ℕ} {matrix : List Row} {text : List ℕ} (s : Says text rows columns matrix)
    → Passed which false begin s.lines rows columns matrix
says-passes which s = matrix-lines which begin s.matrix_of

pub says-run : {rows columns : ℕ} {matrix : List Row} (text : List ℕ) → Says text rows columns matrix → Ran text columns matrix
unfolding begin
says-run text s =
    let p = says-passes false s in
    let t = p.passes.some s.cut in
    record {
      ended = t.ended;
      starts = rw t.closes;
      headed = rw t.closes;
      whole = rw t.closes p.rows_are;
      columns_are = rw t.closes p.columns_are;
      equations_are = rw t.closes (p.equations_are ∙ zero-add _);
      inequalities_are = rw t.closes (p.inequalities_are ∙ zero-add _);
    }

pub says-accepts : (text : List ℕ) → WellFormed text → Accepts begin text
says-accepts text formed =
    let r = says-run text formed.says in
    record { ended = r.ended; alive = rw r.starts; headed = r.headed; whole = r.whole }

pub numbers-say : {rows columns : ℕ} {matrix : List Row} (text : List ℕ) (inequality : Bool) → Says text rows columns matrix
    → numbers_of inequality text ≡ packed inequality matrix
unfolding numbers_of begin
numbers-say text inequality s = ((says-passes inequality s).passes.some s.cut).packs

-- ---- a header out of range

beyond-closed : (m : Machine) → beyond (at_line true m) ≡ true → (place : ℕ) → closed (at_line true m) place ≡ Err OutOfRange
unfolding closed
beyond-closed m out place = rw out

module _ (rows columns : ℕ) (unfit : counts_fit rows columns ≡ false) where
  beyond-header : {m : Machine} {line : List ℕ} (p : HeaderPassed false m rows columns line) → beyond (at_line true p.after) ≡ true
  unfolding beyond
  beyond-header p = rw (p.rows_are, p.columns_are, unfit)

  headed-answers : (m : Machine) {text : List ℕ} → Headed rows columns text → Answers (at_line false m) text (Err OutOfRange)
  unfolding beyond
  headed-answers m (Headed.skip {bytes = bytes} skipped headed) =
      (skipped-line false (at_line false m) skipped).scans by_feed bytes (Err OutOfRange) (headed-answers m headed)
  headed-answers m (Headed.skip_return {bytes = bytes} skipped headed) =
      (skipped-line false (at_line false m) skipped).scans by_return bytes (Err OutOfRange) (headed-answers m headed)
  headed-answers m (Headed.last line) =
      let p = header-line false m line in
      p.passes.stops (Err OutOfRange) (beyond-closed p.after (beyond-header p))
  headed-answers m (Headed.feed bytes line) =
      let p = header-line false m line in
      p.passes.scans by_feed bytes (Err OutOfRange) λ place. rw (beyond-header p)
  headed-answers m (Headed.return_feed bytes line) =
      let p = header-line false m line in
      p.passes.scans by_return bytes (Err OutOfRange) λ place. rw (beyond-header p)

pub headed-refused : {rows columns : ℕ} (text : List ℕ) → Headed rows columns text → counts_fit rows columns ≡ false → scan begin 0 text ≡ Err OutOfRange
unfolding begin
headed-refused {rows} {columns} text headed unfit = headed-answers rows columns unfit begin headed 0

matrix-headed : {rows columns : ℕ} {matrix : List Row} {lines : List (List ℕ)} {text : List ℕ} → Matrix rows columns matrix lines → Lines lines text
    → Headed rows columns text
matrix-headed (Matrix.skip skipped others) (feed lines) = Headed.skip skipped (matrix-headed others lines)
matrix-headed (Matrix.skip skipped others) (return_feed lines) = Headed.skip_return skipped (matrix-headed others lines)
matrix-headed (Matrix.skip {line = line} skipped others) last = elim others [ ]
matrix-headed (Matrix.head line body) last = Headed.last line
matrix-headed (Matrix.head line body) (feed {bytes = bytes} lines) = Headed.feed bytes line
matrix-headed (Matrix.head line body) (return_feed {bytes = bytes} lines) = Headed.return_feed bytes line

-- ---- what is answered to a well-formed text

counted-says : (rows columns : ℕ) (matrix : List Row) (m : Machine) → m.columns ≡ columns → m.equations ≡ rows_of_kind false matrix
    → m.inequalities ≡ rows_of_kind true matrix → counts_fit rows columns ≡ true → counted m ≡ answered rows columns matrix
unfolding counted answered
counted-says rows columns matrix m columns_are equations_are inequalities_are fits = rw (fits, columns_are, equations_are, inequalities_are)

pub read-says : {rows columns : ℕ} {matrix : List Row} (text : List ℕ) → Says text rows columns matrix → scan begin 0 text ≡ answered rows columns matrix
unfolding begin answered
read-says {rows} {columns} {matrix} text s = go (counts_fit rows columns) refl
  where
    go : (fit : Bool) → counts_fit rows columns ≡ fit → scan begin 0 text ≡ answered rows columns matrix
    go true fits =
        let p = says-passes false s in
        (p.answers fits).some s.cut 0
        ∙ counted-says rows columns matrix p.after p.columns_are (p.equations_are ∙ zero-add _) (p.inequalities_are ∙ zero-add _) fits
    go false unfit = headed-refused text (matrix-headed s.matrix_of s.cut) unfit ∙ sym (rw unfit)
