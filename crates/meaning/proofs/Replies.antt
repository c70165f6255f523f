-- The two kinds of reply: to a text that says a matrix, what the solver answers to its rows is printed, and to any other text a refusal.
use mathlib.Core.Bool.{Bool, true, false}
use mathlib.Core.Logic.{◌⊎◌, inl, inr}
use mathlib.Core.Path.{◌≡◌, refl, sym, ap, ap₂, ◌∙◌}
use mathlib.Core.List.{List, map, ◌++◌}
use Prim.Native.Nat.{ℕ, suc, ◌*◌, ◌-◌, ◌≤◌}
use native.Mathlib.Omega.{arith}
use borrow.Author.Tests.{leb-true, eq-eqb}
use lib.Dec.{leb}
use lib.ListN.{length, take, length-replicate}
use lib.Seq.{take_at}
use lib.IntN.{ℤ, pos}
use Rattle.rows.specs.Row.{zeros}
use Rattle.rows.specs.Table.{rows_of}
use Rattle.rules.specs.declared.Refusal.{Refusal}
use Rattle.rules.specs.declared.Refusal.TheVariants.{LongText}
use Rattle.wellformed.specs.Grammar.{Row, Says}
use Rattle.matrix.specs.Reader.{Read, read}
use Rattle.matrix.specs.Printed.{error}
use Rattle.matrix.specs.Program.{answered, replied, program}
use Rattle.wellformed.specs.Promised.{entered, packed, answered as read_as}
use Rattle.wellformed.proofs.PackedRows.{answering}
use Rattle.wellformed.proofs.Promises.{read-scanned, rows-packed, system-said}
use Rattle.meaning.specs.Texts.{of_kind}
use Rattle.meaning.proofs.Entered.{kind-counted, rows-entered}
use Rattle.std.specs.Prelude.{Result, Err, Ok}
use Rattle.rules.specs.declared.System.{System}
use Rattle.rules.specs.Reading.{system_of}

-- the text says a matrix, its rows are given to the solver, and the reply is what the solver then answers
pub record Answers (text : List ℕ) : Type 0 where
  pub rows : ℕ
  pub columns : ℕ
  pub matrix : List Row
  pub says : Says text rows columns matrix
  pub n : ℕ
  pub m : ℕ
  pub k : ℕ
  pub unknowns : columns - 2 ≡ n
  pub count_equations : length (of_kind false matrix) ≡ m
  pub count_inequalities : length (of_kind true matrix) ≡ k
  pub equations : rows_of (suc n) m (packed false matrix) ≡ map entered (of_kind false matrix)
  pub inequalities : rows_of (suc n) k (packed true matrix) ≡ map entered (of_kind true matrix)
  pub reply : program text ≡ answered n m k (packed false matrix) (packed true matrix)

-- ---- the tables that the program gives to the reader

abbrev tables : List ℕ → Read
tables text = read text (zeros 1056) (zeros 2112)

program-replied : (text : List ℕ) → program text ≡ replied (tables text).reading (tables text).equations (tables text).inequalities
unfolding program
program-replied text = refl

zeros-long : (count : ℕ) → length (zeros count) ≡ count
unfolding zeros
zeros-long count = length-replicate count (pos 0)

long-unread : (text : List ℕ) (equations inequalities : List ℤ) → length equations ≡ 1056 → length inequalities ≡ 2112
    → leb (length text) 65536 ≡ false → (read text equations inequalities).reading ≡ Err LongText
unfolding read
long-unread text equations inequalities long long' e = rw (eq-eqb (length equations) 1056 long, eq-eqb (length inequalities) 2112 long', e)

-- ---- a reading, and the reply to it

refusal-replied : (text : List ℕ) (refusal : Refusal) → (tables text).reading ≡ Err refusal → program text ≡ error refusal
unfolding replied
refusal-replied text refusal e =
    program-replied text ∙ ap (λ (reading : Result System Refusal). replied reading (tables text).equations (tables text).inequalities) e

system-replied : (text : List ℕ) (n m k : ℕ) (equations inequalities behind behind' : List ℤ) → (tables text).reading ≡ system_of n m k
    → (tables text).equations ≡ equations ++ behind → (tables text).inequalities ≡ inequalities ++ behind'
    → length equations ≡ m * suc n → length inequalities ≡ k * suc n → program text ≡ answered n m k equations inequalities
unfolding replied
system-replied text n m k equations inequalities behind behind' e first second long long' =
    program-replied text
    ∙ ap (λ (reading : Result System Refusal). replied reading (tables text).equations (tables text).inequalities) e
    ∙ ap₂ (λ l l'. answered n m k (take (m * suc n) l) (take (k * suc n) l')) first second
    ∙ ap₂ (answered n m k) (take_at equations behind (m * suc n) long) (take_at inequalities behind' (k * suc n) long')

-- the text says a matrix within the limits
said-answers : (text : List ℕ) (rows columns : ℕ) (matrix : List Row) (n m k : ℕ) → length text ≤ 65536 → Says text rows columns matrix
    → read_as rows columns matrix ≡ system_of n m k → Answers text
said-answers text rows columns matrix n m k short says is =
    let a = answering rows columns matrix n m k is in
    let p = rows-packed text n m k says is in
    let t = p.tables (zeros 1056) (zeros 2112) (zeros-long 1056) (zeros-long 2112) short in
    record {
      rows = rows;
      columns = columns;
      matrix = matrix;
      says = says;
      n = n;
      m = m;
      k = k;
      unknowns = omega (arith, a.width);
      count_equations = kind-counted false matrix ∙ sym a.equations_are;
      count_inequalities = kind-counted true matrix ∙ sym a.inequalities_are;
      equations = rw (a.width, a.equations_are) (rows-entered false says.matrix_of);
      inequalities = rw (a.width, a.inequalities_are) (rows-entered true says.matrix_of);
      reply = system-replied text n m k (packed false matrix) (packed true matrix) (zeros (1056 - m * suc n)) (zeros (2112 - k * suc n))
          t.reading t.equations t.inequalities p.equations_long p.inequalities_long;
    }

system-answers : (text : List ℕ) (n m k : ℕ) → length text ≤ 65536 → (tables text).reading ≡ system_of n m k → Answers text
system-answers text n m k short e =
    let scanned = sym (read-scanned text (zeros 1056) (zeros 2112) (zeros-long 1056) (zeros-long 2112) short) ∙ e in
    let (rows, columns, matrix, says, is) = system-said text n m k scanned in
    said-answers text rows columns matrix n m k short says is

-- every text has the one or the other
pub answers-or-refusal : (text : List ℕ) → Answers text ⊎ ((refusal : Refusal) × (program text ≡ error refusal))
answers-or-refusal text = go (tables text).reading refl (leb (length text) 65536) refl
  where
    go : (reading : Result System Refusal) → (tables text).reading ≡ reading → (short : Bool) → leb (length text) 65536 ≡ short
        → Answers text ⊎ ((refusal : Refusal) × (program text ≡ error refusal))
    go (Err refusal) e short fits = inr (refusal, refusal-replied text refusal e)
    go (Ok s) e true fits = inl (system-answers text s.n s.m s.k (leb-true (length text) 65536 fits) e)
    go (Ok s) e false fits =
        inr (LongText, refusal-replied text LongText (long-unread text (zeros 1056) (zeros 2112) (zeros-long 1056) (zeros-long 2112) fits))
