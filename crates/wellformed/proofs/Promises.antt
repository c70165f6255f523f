-- What is promised of the reader, over all texts.
use mathlib.Core.Logic.{◌↔◌, ⊎_elim}
use mathlib.Core.Path.{◌≡◌, refl, sym, ap, ◌∙◌, subst}
use mathlib.Core.List.{List, [], ◌∷◌}
use Prim.Native.Nat.{ℕ, ◌≤◌}
use native.Mathlib.Omega.{arith}
use lib.ListN.{length}
use lib.IntN.{ℤ}
use Rattle.rows.specs.Row.{zeros}
use Rattle.rules.specs.Numbers.{of_reading}
use Rattle.rules.specs.declared.Refusal.TheVariants.{OutOfRange, Malformed}
use Rattle.wellformed.specs.Grammar.{Row, Says}
use Rattle.matrix.specs.Machine.{begin}
use Rattle.matrix.specs.Reader.{scan, Read, read}
use Rattle.wellformed.specs.Promised.{answered, RowsPacked, LongestShared, BeyondLimits, by_header, by_matrix, Taken, Due}
use Rattle.wellformed.proofs.Longest.{longest, read_only}
use Rattle.wellformed.proofs.OutsideLimits.{out_of_range}
use Rattle.wellformed.proofs.WellFormedRead.{says-accepts, read-says, headed-refused}
use Rattle.wellformed.proofs.PackedRows.{reading-filled, packed-rows}
use Rattle.wellformed.proofs.Scanning.{scanned}
use Rattle.wellformed.proofs.OnePlace.{Scans, a_system, refused, malformed, scans, one_place}
use Rattle.wellformed.proofs.ReadWays.{Way, wrong_lengths, too_long, as_system, as_refused, as_malformed, way, lengths-refused, length-refused}
use Rattle.std.specs.Prelude.{Result, Err}
use Rattle.rules.specs.declared.Refusal.{Refusal}
use Rattle.rules.specs.declared.System.{System}
use Rattle.rules.specs.Reading.{system_of}

-- row tables of the right lengths and a text that is not too long: the reader answers what the scan of the text does
pub read-scanned : (text : List ℕ) (equations inequalities : List ℤ) → length equations ≡ 1056 → length inequalities ≡ 2112 → length text ≤ 65536
    → (read text equations inequalities).reading ≡ scan begin 0 text
read-scanned text equations inequalities long long' short = reading-filled text equations inequalities long long' short

-- a well-formed text is read: its matrix decides what is answered
pub well-formed-read : {rows columns : ℕ} {matrix : List Row} (text : List ℕ) → Says text rows columns matrix
    → scan begin 0 text ≡ answered rows columns matrix
well-formed-read text s = read-says text s

-- its rows are then at the front of the two tables, the inequalities negated, and zeros behind
pub rows-packed : {rows columns : ℕ} {matrix : List Row} (text : List ℕ) (n m k : ℕ) → Says text rows columns matrix
    → answered rows columns matrix ≡ system_of n m k → RowsPacked text matrix n m k
rows-packed text n m k s e = packed-rows text n m k s e

-- and no other text is
pub system-said : (text : List ℕ) (n m k : ℕ) → scan begin 0 text ≡ system_of n m k
    → (rows : ℕ) × (columns : ℕ) × (matrix : List Row) × Says text rows columns matrix × (answered rows columns matrix ≡ system_of n m k)
system-said text n m k e =
    let formed = read_only text n m k e in
    (formed.rows, formed.columns, formed.matrix, formed.says, sym (read-says text formed.says) ∙ e)

-- exactly these texts
pub refusal-one : (text : List ℕ) → (scan begin 0 text ≡ Err OutOfRange) ↔ BeyondLimits text
refusal-one text = (due, given)
  where
    due : scan begin 0 text ≡ Err OutOfRange → BeyondLimits text
    due e =
        ⊎_elim (λ h. by_header h.2 h.3) (λ formed. by_matrix formed.says (sym (read-says text formed.says) ∙ e)) (out_of_range text e)

    given : BeyondLimits text → scan begin 0 text ≡ Err OutOfRange
    given (by_header headed unfit) = headed-refused text headed unfit
    given (by_matrix s e) = read-says text s ∙ e

-- "Refusal 6 gives the length of the longest beginning that some well-formed text shares.": exactly these texts
pub refusal-six : (text : List ℕ) (place : ℕ)
    → (scan begin 0 text ≡ Err (Malformed place)) ↔ ((BeyondLimits text → ⊥) × LongestShared text place)
refusal-six text place = (due, given)
  where
    due : scan begin 0 text ≡ Err (Malformed place) → (BeyondLimits text → ⊥) × LongestShared text place
    due e = (λ beyond. let other = (refusal-one text).1 beyond in let z : ◌≡◌ {A = ℕ} 0 1 = cc in omega arith, longest says-accepts text place e)

    given : (BeyondLimits text → ⊥) × LongestShared text place → scan begin 0 text ≡ Err (Malformed place)
    given h = go (scans (scanned begin 0 text)) refl
      where
        go : {reading : Result System Refusal} → Scans reading → scan begin 0 text ≡ reading → reading ≡ Err (Malformed place)
        go (a_system n m k) e = absurd (h.1.not_whole (read_only text n m k e))
        go refused e = absurd (h.0 ((refusal-one text).0 e))
        go (malformed p) e = ap (λ q. Err (Malformed q)) (one_place text p place (longest says-accepts text p e) h.1)

-- ---- what the reader answers, by the document's numbers: exactly what is due
pub exactly-read : (text : List ℕ) (equations inequalities : List ℤ) (numbers : List ℕ)
    → (of_reading (read text equations inequalities).reading ≡ numbers) ↔ Due text equations inequalities numbers
unfolding of_reading
exactly-read text equations inequalities numbers = (λ e. subst (Due text equations inequalities) e (due (way text equations inequalities)), given)
  where
    due : {r : Read} → Way text equations inequalities r → Due text equations inequalities (of_reading r.reading)
    due (wrong_lengths other) = Due.two other
    due (too_long right more) = Due.seven right more
    due (as_system {n = n} {m = m} {k = k} e i taken s) =
        let (rows, columns, matrix, says, answers) = system-said text n m k s in
        Due.system taken says answers
    due (as_refused taken s) = Due.one taken ((refusal-one text).0 s)
    due (as_malformed {place = place} taken s) =
        let (inside, shared) = (refusal-six text place).0 s in
        Due.six taken inside shared

    scanned-as : Taken text equations inequalities → {reading : Result System Refusal} → scan begin 0 text ≡ reading → (read text equations inequalities).reading ≡ reading
    scanned-as taken s = read-scanned text equations inequalities taken.0.0 taken.0.1 taken.1 ∙ s

    given : {numbers : List ℕ} → Due text equations inequalities numbers → of_reading (read text equations inequalities).reading ≡ numbers
    given (Due.system taken says answers) = ap of_reading (scanned-as taken (well-formed-read text says ∙ answers))
    given (Due.one taken beyond) = ap of_reading (scanned-as taken ((refusal-one text).1 beyond))
    given (Due.two other) = ap of_reading (lengths-refused text equations inequalities (way text equations inequalities) other)
    given (Due.six {place = place} taken inside shared) = ap of_reading (scanned-as taken ((refusal-six text place).1 (inside, shared)))
    given (Due.seven right more) = ap of_reading (length-refused text equations inequalities (way text equations inequalities) right more)

-- ---- "other lengths give refusal 2, tables untouched"
pub untouched-tables : (text : List ℕ) (equations inequalities : List ℤ) → of_reading (read text equations inequalities).reading ≡ 4 ∷ 2 ∷ []
    → ((read text equations inequalities).equations ≡ equations) × ((read text equations inequalities).inequalities ≡ inequalities)
unfolding of_reading
untouched-tables text equations inequalities = go (way text equations inequalities)
  where
    go : {r : Read} → Way text equations inequalities r → of_reading r.reading ≡ 4 ∷ 2 ∷ [] → (r.equations ≡ equations) × (r.inequalities ≡ inequalities)
    go (wrong_lengths other) e = (refl, refl)
    go (too_long right more) e = let z : ◌≡◌ {A = ℕ} 7 2 = cc in absurd (omega arith)
    go (as_system e' i taken s) e = let z : ◌≡◌ {A = ℕ} 0 4 = cc in absurd (omega arith)
    go (as_refused taken s) e = let z : ◌≡◌ {A = ℕ} 1 2 = cc in absurd (omega arith)
    go (as_malformed taken s) e = let z : ◌≡◌ {A = ℕ} 6 2 = cc in absurd (omega arith)

-- "After 1, 6 or 7 from the reader these row tables hold zeros."
pub zeroed-tables : (text : List ℕ) (equations inequalities : List ℤ) (numbers : List ℕ)
    → of_reading (read text equations inequalities).reading ≡ 4 ∷ numbers → (numbers ≡ 2 ∷ [] → ⊥)
    → ((read text equations inequalities).equations ≡ zeros 1056) × ((read text equations inequalities).inequalities ≡ zeros 2112)
unfolding of_reading
zeroed-tables text equations inequalities numbers = go (way text equations inequalities)
  where
    go : {r : Read} → Way text equations inequalities r → of_reading r.reading ≡ 4 ∷ numbers → (numbers ≡ 2 ∷ [] → ⊥)
        → (r.equations ≡ zeros 1056) × (r.inequalities ≡ zeros 2112)
    go (wrong_lengths other) e unlike = let same : numbers ≡ 2 ∷ [] = cc in absurd (unlike same)
    go (too_long right more) e unlike = (refl, refl)
    go (as_system e' i taken s) e unlike = let z : ◌≡◌ {A = ℕ} 0 4 = cc in absurd (omega arith)
    go (as_refused taken s) e unlike = (refl, refl)
    go (as_malformed taken s) e unlike = (refl, refl)
