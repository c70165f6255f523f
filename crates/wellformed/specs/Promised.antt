-- The words in which the reader's promises are put.
use Rattle.std.specs.Prelude.{Bool, true, false, cond, not, ◌&&◌, ◌≡◌, List, [], ◌∷◌, ◌++◌, map, ℕ, suc, ◌*◌, ◌-◌, ◌<◌, ◌≤◌, leb, length, take, ℤ, neg_ℤ, Result, Err}
use Rattle.rules.specs.declared.Refusal.TheVariants.{OutOfRange}
use Rattle.matrix.specs.Bytes.{line_feed, carriage_return}
use Rattle.wellformed.specs.Grammar.{Row, HeaderLine, SkippedLine, Says, WellFormed}
use Rattle.rows.specs.Row.{zeros}
use Rattle.matrix.specs.Reader.{counts_fit, Read, read}
use Rattle.rules.specs.declared.Refusal.{Refusal}
use Rattle.rules.specs.declared.System.{System}
use Rattle.rules.specs.Reading.{system_of}

-- ---- the system that a matrix is

-- how many of its rows are of this kind
unfoldable pub rows_of_kind : Bool → List Row → ℕ
rows_of_kind inequality [] = 0
rows_of_kind inequality (r ∷ matrix) = cond (cond inequality r.inequality (not r.inequality)) (suc (rows_of_kind inequality matrix)) (rows_of_kind inequality matrix)

-- "An inequality row is negated on entry."
abbrev pub entered : Row → List ℤ
entered r = cond r.inequality (map neg_ℤ r.numbers) r.numbers

-- the rows of this kind, packed
unfoldable pub packed : Bool → List Row → List ℤ
packed inequality [] = []
packed inequality (r ∷ matrix) = cond (cond inequality r.inequality (not r.inequality)) (entered r ++ packed inequality matrix) (packed inequality matrix)

-- ---- what the reader answers to a well-formed text

unfoldable pub answered : ℕ → ℕ → List Row → Result System Refusal
unfolding rows_of_kind
answered rows columns matrix =
    cond (counts_fit rows columns && (leb (rows_of_kind false matrix) 32 && leb (rows_of_kind true matrix) 64))
    (system_of (columns - 2) (rows_of_kind false matrix) (rows_of_kind true matrix))
    (Err OutOfRange)

-- ---- "rows at the front, zeros behind": what the two tables of a system hold

pub record TablesHold (reads : Read) (matrix : List Row) (n m k : ℕ) : Type 0 where
  pub reading : reads.reading ≡ system_of n m k
  pub equations : reads.equations ≡ packed false matrix ++ zeros (1056 - m * suc n)
  pub inequalities : reads.inequalities ≡ packed true matrix ++ zeros (2112 - k * suc n)

pub record RowsPacked (text : List ℕ) (matrix : List Row) (n m k : ℕ) : Type 0 where
  pub equations_long : length (packed false matrix) ≡ m * suc n
  pub inequalities_long : length (packed true matrix) ≡ k * suc n
  pub tables : (equations inequalities : List ℤ) → length equations ≡ 1056 → length inequalities ≡ 2112 → length text ≤ 65536
      → TablesHold (read text equations inequalities) matrix n m k

-- ---- "Refusal 6 gives the length of the longest beginning that some well-formed text shares."

-- some well-formed text begins like this
pub record Shared (beginning : List ℕ) : Type 0 where
  pub rest : List ℕ
  pub well_formed : WellFormed (beginning ++ rest)

pub record LongestShared (text : List ℕ) (place : ℕ) : Type 0 where
  pub within : place ≤ length text
  pub shared : Shared (take place text)
  pub no_longer : place < length text → Shared (take (suc place) text) → ⊥
  pub not_whole : WellFormed text → ⊥

-- ---- the header line has ended, whatever follows: skipped lines and a header line with these counts

pub data Headed (rows columns : ℕ) : List ℕ → Type 0 where
  skip : {line bytes : List ℕ} → SkippedLine line → Headed rows columns bytes → Headed rows columns (line ++ (line_feed ∷ bytes))
  skip_return : {line bytes : List ℕ} → SkippedLine line → Headed rows columns bytes → Headed rows columns (line ++ (carriage_return ∷ (line_feed ∷ bytes)))
  last : {line : List ℕ} → HeaderLine rows columns line → Headed rows columns line
  feed : {line : List ℕ} (bytes : List ℕ) → HeaderLine rows columns line → Headed rows columns (line ++ (line_feed ∷ bytes))
  return_feed : {line : List ℕ} (bytes : List ℕ) → HeaderLine rows columns line → Headed rows columns (line ++ (carriage_return ∷ (line_feed ∷ bytes)))

-- "Header rows above 96 or columns outside 3..34 give refusal 1 once the header line ends;
-- more than 32 equations or 64 inequalities give it after the text."
pub data BeyondLimits (text : List ℕ) : Type 0 where
  by_header : {rows columns : ℕ} → Headed rows columns text → counts_fit rows columns ≡ false → BeyondLimits text
  by_matrix : {rows columns : ℕ} {matrix : List Row} → Says text rows columns matrix → answered rows columns matrix ≡ Err OutOfRange → BeyondLimits text

-- ---- what the reader answers, by the document's number and values of it (`of_reading` of rules/specs/Numbers.antt)
module _ (text : List ℕ) (equations inequalities : List ℤ) where
  -- "row tables of 1,056 and 2,112 numbers"
  abbrev pub RightLengths : Type 0
  RightLengths = (length equations ≡ 1056) × (length inequalities ≡ 2112)

  abbrev pub Taken : Type 0
  Taken = RightLengths × (length text ≤ 65536)

  -- the answer that is due: `exactly-read` in proofs/Promises.antt shows that it is given, and no other
  pub data Due : List ℕ → Type 0 where
    -- the text says a matrix within the limits
    system : {rows columns n m k : ℕ} {matrix : List Row}
        → Taken → Says text rows columns matrix → answered rows columns matrix ≡ system_of n m k → Due (0 ∷ n ∷ m ∷ k ∷ [])
    one : Taken → BeyondLimits text → Due (4 ∷ 1 ∷ [])
    -- "other lengths give refusal 2"
    two : (RightLengths → ⊥) → Due (4 ∷ 2 ∷ [])
    -- neither well formed nor beyond the limits
    six : {place : ℕ} → Taken → (BeyondLimits text → ⊥) → LongestShared text place → Due (4 ∷ 6 ∷ place ∷ [])
    -- "text over 65,536 bytes"
    seven : RightLengths → 65536 < length text → Due (4 ∷ 7 ∷ [])
