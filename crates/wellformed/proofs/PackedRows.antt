-- How long the packed rows of a matrix are, and what the two row tables of the reader then hold.
use mathlib.Core.Bool.{Bool, true, false, cond, not, ◌&&◌}
use mathlib.Core.Path.{◌≡◌, refl, sym, ap, ◌∙◌}
use mathlib.Core.List.{List, [], ◌∷◌, ◌++◌, map}
use Prim.Native.Nat.{ℕ, zero, suc, ◌+◌, ◌*◌, ◌-◌, ◌≤◌}
use native.Mathlib.Nat.{mul-le-mul}
use native.Mathlib.Omega.{arith}
use borrow.Author.Tests.{leb-true, le-leb, eq-eqb}
use lib.Dec.{leb}
use lib.ListN.{length, length-append, length-map}
use lib.IntN.{ℤ, neg_ℤ}
use Rattle.rows.specs.Row.{zeros}
use Rattle.rules.specs.declared.Refusal.TheVariants.{OutOfRange}
use Rattle.wellformed.specs.Grammar.{Row, RowLine, row, Body, Matrix, Says}
use Rattle.matrix.specs.Machine.{begin}
use Rattle.matrix.specs.Poured.{poured}
use Rattle.matrix.specs.Reader.{counts_fit, scan, filled, read}
use Rattle.wellformed.specs.Promised.{rows_of_kind, entered, packed, answered, RowsPacked}
use Rattle.wellformed.proofs.Scanning.{both}
use Rattle.wellformed.proofs.WellFormedRead.{read-says, numbers-say}
use Rattle.std.specs.Prelude.{Result, Err, Ok}
use Rattle.rules.specs.declared.Refusal.{Refusal}
use Rattle.rules.specs.declared.System.{System}
use Rattle.rules.specs.Reading.{system_of}

-- ---- lengths

entered-long : (r : Row) → length (entered r) ≡ length r.numbers
entered-long r = go r.inequality
  where
    go : (inequality : Bool) → length (cond inequality (map neg_ℤ r.numbers) r.numbers) ≡ length r.numbers
    go true = length-map r.numbers neg_ℤ
    go false = refl

pub row-long : {columns : ℕ} {r : Row} {line : List ℕ} → RowLine columns r line → length (entered r) ≡ columns - 1
row-long {r = r} (row {inequality = inequality} {numbers = numbers} blanks long are) =
    entered-long (record { inequality = inequality; numbers = numbers }) ∙ long

long-next : (which : Bool) (r : Row) (matrix : List Row) (width : ℕ) → length (entered r) ≡ width
    → length (packed which matrix) ≡ rows_of_kind which matrix * width → length (packed which (r ∷ matrix)) ≡ rows_of_kind which (r ∷ matrix) * width
unfolding packed rows_of_kind
long-next which r matrix width long rest = go (cond which r.inequality (not r.inequality))
  where
    go : (ours : Bool)
        → length (cond ours (entered r ++ packed which matrix) (packed which matrix)) ≡ cond ours (suc (rows_of_kind which matrix)) (rows_of_kind which matrix) * width
    go true = omega (arith, length-append (entered r) (packed which matrix))
    go false = rest

body-long : (which : Bool) {columns rows : ℕ} {matrix : List Row} {lines : List (List ℕ)} → Body columns rows matrix lines
    → length (packed which matrix) ≡ rows_of_kind which matrix * (columns - 1)
unfolding packed rows_of_kind
body-long which Body.end = omega arith
body-long which (Body.skip skipped body) = body-long which body
body-long which {columns = columns} (Body.next {r = r} {matrix = matrix} is body) =
    long-next which r matrix (columns - 1) (row-long is) (body-long which body)

matrix-long : (which : Bool) {rows columns : ℕ} {matrix : List Row} {lines : List (List ℕ)} → Matrix rows columns matrix lines
    → length (packed which matrix) ≡ rows_of_kind which matrix * (columns - 1)
matrix-long which (Matrix.skip skipped others) = matrix-long which others
matrix-long which (Matrix.head line body) = body-long which body

-- ---- the limits within which a system is answered

pub record Answering (columns : ℕ) (matrix : List Row) (n m k : ℕ) : Type 0 where
  pub equations_are : m ≡ rows_of_kind false matrix
  pub inequalities_are : k ≡ rows_of_kind true matrix
  pub width : suc n ≡ columns - 1
  pub narrow : suc n ≤ 33
  pub few_equations : m ≤ 32
  pub few_inequalities : k ≤ 64

one-system : {a b : System} → ◌≡◌ {A = Result System Refusal} (Ok a) (Ok b) → a ≡ b
one-system e = cc

pub answering : (rows columns : ℕ) (matrix : List Row) (n m k : ℕ) → answered rows columns matrix ≡ system_of n m k → Answering columns matrix n m k
unfolding answered
answering rows columns matrix n m k = go (counts_fit rows columns && (leb (rows_of_kind false matrix) 32 && leb (rows_of_kind true matrix) 64)) refl
  where
    go : (fit : Bool) → (counts_fit rows columns && (leb (rows_of_kind false matrix) 32 && leb (rows_of_kind true matrix) 64)) ≡ fit
        → cond fit (system_of (columns - 2) (rows_of_kind false matrix) (rows_of_kind true matrix)) (Err OutOfRange) ≡ system_of n m k
        → Answering columns matrix n m k
    go false unfit e = let z : ◌≡◌ {A = ℕ} 0 1 = cc in absurd (omega arith)
    go true fits e =
        let (counts, kinds) = both (counts_fit rows columns) _ fits in
        let (few, wide) = both (leb rows 96) _ counts in
        let (low, high) = both (leb 3 columns) (leb columns 34) wide in
        let (few_equations, few_inequalities) = both (leb (rows_of_kind false matrix) 32) _ kinds in
        let least = leb-true 3 columns low in
        let most = leb-true columns 34 high in
        let one = leb-true (rows_of_kind false matrix) 32 few_equations in
        let other = leb-true (rows_of_kind true matrix) 64 few_inequalities in
        let same = one-system e in
        let unknowns : columns - 2 ≡ n = ap (λ (s : System). s.n) same in
        let equations : rows_of_kind false matrix ≡ m = ap (λ (s : System). s.m) same in
        let inequalities : rows_of_kind true matrix ≡ k = ap (λ (s : System). s.k) same in
        record {
          equations_are = sym equations;
          inequalities_are = sym inequalities;
          width = omega arith;
          narrow = omega arith;
          few_equations = omega arith;
          few_inequalities = omega arith;
        }

-- ---- the tables: rows at the front, zeros behind

poured-zeros : (l : List ℤ) (size rest : ℕ) → size ≡ length l + rest → poured l (zeros size) ≡ l ++ zeros rest
unfolding poured zeros
poured-zeros [] size rest e =
    let same : size ≡ rest = omega arith in
    ap zeros same
poured-zeros (a ∷ l) zero rest e = absurd (omega arith)
poured-zeros (a ∷ l) (suc size) rest e = ap (λ t. a ∷ t) (poured-zeros l size rest (omega arith))

-- as many rows as there is room for, none wider
poured-rows : (l : List ℤ) (count width most widest : ℕ) → length l ≡ count * width → count ≤ most → width ≤ widest
    → poured l (zeros (most * widest)) ≡ l ++ zeros (most * widest - count * width)
poured-rows l count width most widest long few narrow =
    let room : count * width ≤ most * widest = mul-le-mul few narrow in
    poured-zeros l (most * widest) (most * widest - count * width) (omega arith)

-- a text and tables of the right lengths
read-filled : (text : List ℕ) (equations inequalities : List ℤ) → length equations ≡ 1056 → length inequalities ≡ 2112 → length text ≤ 65536
    → read text equations inequalities ≡ filled (scan begin 0 text) text
unfolding read
read-filled text equations inequalities long long' short =
    rw (eq-eqb (length equations) 1056 long, eq-eqb (length inequalities) 2112 long', le-leb (length text) 65536 short)

filled-reading : (reading : Result System Refusal) (text : List ℕ) → (filled reading text).reading ≡ reading
unfolding filled
filled-reading (Ok s) text = refl
filled-reading (Err refusal) text = refl

pub reading-filled : (text : List ℕ) (equations inequalities : List ℤ) → length equations ≡ 1056 → length inequalities ≡ 2112 → length text ≤ 65536
    → (read text equations inequalities).reading ≡ scan begin 0 text
reading-filled text equations inequalities long long' short =
    rw (read-filled text equations inequalities long long' short) (filled-reading (scan begin 0 text) text)

-- ---- what a system's two tables hold

pub packed-rows : {rows columns : ℕ} {matrix : List Row} (text : List ℕ) (n m k : ℕ) → Says text rows columns matrix
    → answered rows columns matrix ≡ system_of n m k → RowsPacked text matrix n m k
unfolding filled
packed-rows {rows} {columns} {matrix} text n m k s e =
    let a = answering rows columns matrix n m k e in
    let equations_long : length (packed false matrix) ≡ m * suc n = rw (a.equations_are, a.width) (matrix-long false s.matrix_of) in
    let inequalities_long : length (packed true matrix) ≡ k * suc n = rw (a.inequalities_are, a.width) (matrix-long true s.matrix_of) in
    record {
      equations_long = equations_long;
      inequalities_long = inequalities_long;
      tables = λ equations inequalities long long' short.
          rw (read-filled text equations inequalities long long' short, read-says text s, e, numbers-say text false s, numbers-say text true s)
          (record {
            reading = refl;
            equations = poured-rows (packed false matrix) m (suc n) 32 33 equations_long a.few_equations a.narrow;
            inequalities = poured-rows (packed true matrix) k (suc n) 64 33 inequalities_long a.few_inequalities a.narrow;
          });
    }
