-- The machine on a text that says a matrix: it counts the matrix's rows and gives their entries.
use mathlib.Core.Bool.{Bool, true, false, cond, not, ◌&&◌}
use mathlib.Core.Path.{◌≡◌, refl, ap, ◌∙◌}
use mathlib.Core.List.{List, [], ◌∷◌, ◌++◌}
use Prim.Native.Nat.{ℕ, suc, ◌+◌}
use native.Mathlib.Omega.{arith}
use borrow.Author.Tests.{leb-true, le-leb}
use lib.Dec.{eqb, leb, eqb-suc-zero}
use lib.IntN.{ℤ}
use Rattle.wellformed.specs.Grammar.{Row, RowLine, SkippedLine, Body, Matrix}
use Rattle.matrix.specs.Reader.{counts_fit, beyond, counted, closed}
use Rattle.matrix.specs.declared.Machine.{Machine}
use Rattle.wellformed.specs.Promised.{rows_of_kind, packed}
use Rattle.wellformed.proofs.Scanning.{both}
use Rattle.wellformed.proofs.LineKinds.{at_line, entries_of, RowPassed, row_line, header-line, skipped-line}
use Rattle.wellformed.proofs.TextLines.{Through, Answered, through-none, answered-none, through-line, answered-line}

-- ---- one row more

packed-next : (which inequality : Bool) (numbers : List ℤ) (matrix : List Row)
    → entries_of which inequality numbers ++ packed which matrix ≡ packed which (record { inequality = inequality; numbers = numbers } ∷ matrix)
unfolding packed
packed-next true true numbers matrix = refl
packed-next true false numbers matrix = refl
packed-next false true numbers matrix = refl
packed-next false false numbers matrix = refl

-- one more of a kind, or none
count_next : (ours : Bool) (had rest : ℕ) → had + cond ours 1 0 + rest ≡ had + cond ours (suc rest) rest
count_next true had rest = omega arith
count_next false had rest = omega arith

-- ---- the limits: what fits at the header fits at every later line

fits-fewer : (rows columns : ℕ) → counts_fit (suc rows) columns ≡ true → counts_fit rows columns ≡ true
fits-fewer rows columns fits =
    let (few, wide) = both (leb (suc rows) 96) (leb 3 columns && leb columns 34) fits in
    let low = leb-true (suc rows) 96 few in
    rw (le-leb rows 96 (omega arith)) wide

not_beyond : (m : Machine) (rows columns : ℕ) → m.rows ≡ rows → m.columns ≡ columns → counts_fit rows columns ≡ true → beyond (at_line true m) ≡ false
unfolding beyond
not_beyond m rows columns rows_are columns_are fits = rw (rows_are, columns_are, fits)

closed-counted : (m : Machine) → beyond (at_line true m) ≡ false → m.rows ≡ 0 → (place : ℕ) → closed (at_line true m) place ≡ counted m
unfolding closed
closed-counted m within over place = rw (within, over)

module _ (which : Bool) where
  -- the lines of a matrix with these counts are passed, or those that are left of them: before the header line, or behind it
  pub record Passed (body : Bool) (m : Machine) (lines : List (List ℕ)) (rows columns : ℕ) (matrix : List Row) : Type 0 where
    pub after : Machine
    pub passes : Through which (at_line body m) lines (at_line true after) (packed which matrix)
    pub rows_are : after.rows ≡ 0
    pub columns_are : after.columns ≡ columns
    pub equations_are : after.equations ≡ m.equations + rows_of_kind false matrix
    pub inequalities_are : after.inequalities ≡ m.inequalities + rows_of_kind true matrix
    pub answers : counts_fit rows columns ≡ true → Answered which (at_line body m) lines (counted after)

  passed-skip : (body : Bool) (m : Machine) {rows columns : ℕ} {matrix : List Row} {line : List ℕ} {lines : List (List ℕ)}
      → (counts_fit rows columns ≡ true → beyond (at_line body m) ≡ false) → SkippedLine line
      → Passed body m lines rows columns matrix → Passed body m (line ∷ lines) rows columns matrix
  passed-skip body m within skipped rest =
      let first = skipped-line which (at_line body m) skipped in
      record {
        after = rest.after;
        passes = through-line which first rest.passes;
        rows_are = rest.rows_are;
        columns_are = rest.columns_are;
        equations_are = rest.equations_are;
        inequalities_are = rest.inequalities_are;
        answers = λ fits. answered-line which first (within fits) (rest.answers fits);
      }

  passed_none : (m : Machine) (columns : ℕ) → m.rows ≡ 0 → m.columns ≡ columns → Passed true m [] 0 columns []
  unfolding packed rows_of_kind
  passed_none m columns rows_are columns_are = record {
    after = m;
    passes = through-none which (at_line true m);
    rows_are = rows_are;
    columns_are = columns_are;
    equations_are = omega arith;
    inequalities_are = omega arith;
    answers = λ fits. answered-none which (at_line true m) (counted m) (closed-counted m (not_beyond m 0 columns rows_are columns_are fits) rows_are);
  }

  passed-row : (m : Machine) {r : Row} {matrix : List Row} {line : List ℕ} {lines : List (List ℕ)} (rows columns : ℕ) (first : RowPassed which m r line)
      → first.after.rows ≡ rows → first.after.columns ≡ columns → Passed true first.after lines rows columns matrix
      → Passed true m (line ∷ lines) (suc rows) columns (r ∷ matrix)
  unfolding rows_of_kind
  passed-row m {r} {matrix} rows columns first rows_are columns_are rest = record {
    after = rest.after;
    passes = rw (packed-next which r.inequality r.numbers matrix) at (through-line which first.passes rest.passes);
    rows_are = rest.rows_are;
    columns_are = rest.columns_are;
    equations_are =
        rest.equations_are ∙ ap (λ n. n + rows_of_kind false matrix) first.equations_are ∙ count_next (not r.inequality) m.equations (rows_of_kind false matrix);
    inequalities_are =
        rest.inequalities_are ∙ ap (λ n. n + rows_of_kind true matrix) first.inequalities_are ∙ count_next r.inequality m.inequalities (rows_of_kind true matrix);
    answers = λ fits.
        let fewer = fits-fewer rows columns fits in
        answered-line which first.passes (not_beyond first.after rows columns rows_are columns_are fewer) (rest.answers fewer);
  }

  -- behind the header line
  body-lines : {columns : ℕ} (m : Machine) {rows : ℕ} {matrix : List Row} {lines : List (List ℕ)} → Body columns rows matrix lines
      → m.rows ≡ rows → m.columns ≡ columns → Passed true m lines rows columns matrix
  body-lines {columns} m Body.end rows_are columns_are = passed_none m columns rows_are columns_are
  body-lines {columns} m {rows} (Body.skip skipped body) rows_are columns_are =
      passed-skip true m (not_beyond m rows columns rows_are columns_are) skipped (body-lines m body rows_are columns_are)
  body-lines {columns} m (Body.next {rows = rows} {r = r} {line = line} is body) rows_are columns_are =
      let some : eqb m.rows 0 ≡ false = rw rows_are (eqb-suc-zero rows) in
      let is' : RowLine m.columns r line = rw columns_are is in
      let first = row_line which m some is' in
      let fewer = first.rows_are in
      let rows' : first.after.rows ≡ rows = omega arith in
      let columns' = first.columns_are ∙ columns_are in
      passed-row m rows columns first rows' columns' (body-lines first.after body rows' columns')

  -- from the beginning
  pub matrix-lines : (m : Machine) {rows columns : ℕ} {matrix : List Row} {lines : List (List ℕ)} → Matrix rows columns matrix lines
      → Passed false m lines rows columns matrix
  unfolding beyond
  matrix-lines m (Matrix.skip skipped others) = passed-skip false m (λ fits. refl) skipped (matrix-lines m others)
  matrix-lines m {rows} {columns} {matrix} (Matrix.head line body) =
      let first = header-line which m line in
      let rest = body-lines first.after body first.rows_are first.columns_are in
      record {
        after = rest.after;
        passes = through-line which first.passes rest.passes;
        rows_are = rest.rows_are;
        columns_are = rest.columns_are;
        equations_are = rest.equations_are ∙ ap (λ n. n + rows_of_kind false matrix) first.equations_are;
        inequalities_are = rest.inequalities_are ∙ ap (λ n. n + rows_of_kind true matrix) first.inequalities_are;
        answers = λ fits.
            answered-line which first.passes (not_beyond first.after rows columns first.rows_are first.columns_are fits) (rest.answers fits);
      }
