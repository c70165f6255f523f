-- The rows of a matrix and the rows that a solver is given are the same: those of one kind, in order, an inequality negated. What a row of
-- the matrix says of whole numbers is what the row given says of them.
use mathlib.Core.Bool.{Bool, true, false, cond, not, false≢true}
use mathlib.Core.Path.{◌≡◌, refl, sym, ap, ◌∙◌, subst}
use mathlib.Core.List.{List, [], ◌∷◌, ◌++◌, map}
use Prim.Native.Nat.{ℕ, zero, suc, ◌-◌, ◌<◌}
use native.Mathlib.Omega.{arith}
use lib.ListN.{length, get_or, take, drop, length-map, get_or-map}
use lib.Seq.{split_at, length-take-le}
use lib.IntN.{ℤ, pos, neg_ℤ, ◌+ℤ◌, ◌*ℤ◌}
use lib.Signed.{◌≤ℤ◌}
use Rattle.whole.proofs.Order.{orders, pz-neg, nz-neg}
use Rattle.whole.proofs.Reify.{reify, ring}
use Rattle.rows.specs.Row.{dot}
use Rattle.rows.specs.Table.{rows_of, flat, Wide}
use Rattle.rows.proofs.TableLaws.{rows_of-flat}
use Rattle.promises.specs.Meaning.{point, Holds, Meets, Satisfies}
use Rattle.wellformed.specs.Grammar.{Row, Body, Matrix}
use Rattle.wellformed.specs.Promised.{rows_of_kind, entered, packed}
use Rattle.wellformed.proofs.PackedRows.{row-long}
use Rattle.meaning.specs.Texts.{Keeps, KeepsAll, Name, of_kind, Named, KeepsNamed}

-- ---- one row

-- what a row that is given asks of whole numbers: an inequality that the sum is at most 0, an equation that it is 0
abbrev pub Asks : Bool → List ℤ → List ℤ → Type 0
Asks inequality x row = elim inequality [ true ↦ Meets x row | false ↦ Holds x row ]

dot-negated : (row x : List ℤ) → dot (map neg_ℤ row) x ≡ neg_ℤ (dot row x)
unfolding dot
dot-negated [] x = refl
dot-negated (a ∷ row) [] = refl
dot-negated (a ∷ row) (b ∷ x) =
    ap (λ z. neg_ℤ a *ℤ b +ℤ z) (dot-negated row x) ∙ ring (a ∷ b ∷ dot row x ∷ []) (search reify) (search reify) refl

negated-most : (z : ℤ) → pos 0 ≤ℤ z → neg_ℤ z ≤ℤ pos 0
negated-most z h = omega (arith, orders, pz-neg z, nz-neg z)

-- whole numbers that keep a row do what it asks once it is entered
kept-asked : (x : List ℤ) (r : Row) → Keeps x r → Asks r.inequality x (entered r)
kept-asked x r = go r.inequality r.numbers
  where
    go : (inequality : Bool) (numbers : List ℤ) → Keeps x (record { inequality = inequality; numbers = numbers })
        → Asks inequality x (entered (record { inequality = inequality; numbers = numbers }))
    go true numbers h = rw (dot-negated numbers (point x)) (negated-most (dot numbers (point x)) h)
    go false numbers h = h

-- ---- the rows of one kind

-- whether a row is of this kind
abbrev ours : Bool → Row → Bool
ours which r = cond which r.inequality (not r.inequality)

same_kind : (which inequality : Bool) → cond which inequality (not inequality) ≡ true → inequality ≡ which
same_kind true inequality e = e
same_kind false true e = absurd (false≢true e)
same_kind false false e = refl

-- each of them is of that kind
kind_at : (which : Bool) (matrix : List Row) (j : ℕ) (d : Row) → j < length (of_kind which matrix) → (get_or (of_kind which matrix) j d).inequality ≡ which
unfolding of_kind
kind_at which [] j d h = let bad : ⊥ = omega arith in absurd bad
kind_at which (r ∷ matrix) j d h = go (ours which r) refl j (kind_at which matrix) h
  where
    go : (is : Bool) → ours which r ≡ is → (j : ℕ)
        → ((j : ℕ) (d : Row) → j < length (of_kind which matrix) → (get_or (of_kind which matrix) j d).inequality ≡ which)
        → j < length (cond is (r ∷ of_kind which matrix) (of_kind which matrix))
        → (get_or (cond is (r ∷ of_kind which matrix) (of_kind which matrix)) j d).inequality ≡ which
    go true e zero later h = same_kind which r.inequality e
    go true e (suc j) later h = later j d (omega arith)
    go false e j later h = later j d h

-- as many as are counted
pub kind-counted : (which : Bool) (matrix : List Row) → length (of_kind which matrix) ≡ rows_of_kind which matrix
unfolding of_kind rows_of_kind
kind-counted which [] = refl
kind-counted which (r ∷ matrix) = go (ours which r) (kind-counted which matrix)
  where
    go : (is : Bool) → length (of_kind which matrix) ≡ rows_of_kind which matrix
        → length (cond is (r ∷ of_kind which matrix) (of_kind which matrix)) ≡ cond is (suc (rows_of_kind which matrix)) (rows_of_kind which matrix)
    go true e = ap suc e
    go false e = e

-- row j of them, from 0, has the name with number j + 1
row_named : (matrix : List Row) (which : Bool) (j : ℕ) (d : Row) → j < length (of_kind which matrix)
    → Named matrix (record { inequality = which; number = suc j }) (get_or (of_kind which matrix) j d)
row_named matrix which j d h =
    let rows = of_kind which matrix in
    record {
      before = take j rows;
      after = drop (suc j) rows;
      there = split_at rows j d h;
      numbered = ap suc (sym (length-take-le j rows (omega arith)));
    }

-- whole numbers that keep the row of a name do what the row entered for it asks
pub named-asked : (x : List ℤ) (matrix : List Row) (which : Bool) (j : ℕ) → j < length (of_kind which matrix)
    → ((row : Row) → Named matrix (record { inequality = which; number = suc j }) row → Keeps x row)
    → Asks which x (get_or (map entered (of_kind which matrix)) j [])
named-asked x matrix which j h keeps =
    let rows = of_kind which matrix in
    let none : Row = record { inequality = false; numbers = [] } in
    let row = get_or rows j none in
    let asked = kept-asked x row (keeps row (row_named matrix which j none h)) in
    rw (get_or-map entered rows j none) (subst (λ kind. Asks kind x (entered row)) (kind_at which matrix j none h) asked)

-- ---- the tables

packed-flat : (which : Bool) (matrix : List Row) → packed which matrix ≡ flat (map entered (of_kind which matrix))
unfolding packed flat of_kind
packed-flat which [] = refl
packed-flat which (r ∷ matrix) = go (ours which r) (packed-flat which matrix)
  where
    go : (is : Bool) → packed which matrix ≡ flat (map entered (of_kind which matrix))
        → cond is (entered r ++ packed which matrix) (packed which matrix) ≡ flat (map entered (cond is (r ∷ of_kind which matrix) (of_kind which matrix)))
    go true e = ap (λ l. entered r ++ l) e
    go false e = e

wide-next : (which : Bool) (r : Row) (matrix : List Row) (width : ℕ) → length (entered r) ≡ width
    → Wide width (map entered (of_kind which matrix)) → Wide width (map entered (of_kind which (r ∷ matrix)))
unfolding of_kind
wide-next which r matrix width long rest = go (ours which r)
  where
    go : (is : Bool) → Wide width (map entered (cond is (r ∷ of_kind which matrix) (of_kind which matrix)))
    go true = (long, rest)
    go false = rest

body-wide : (which : Bool) {columns rows : ℕ} {matrix : List Row} {lines : List (List ℕ)} → Body columns rows matrix lines
    → Wide (columns - 1) (map entered (of_kind which matrix))
unfolding of_kind
body-wide which Body.end = tt
body-wide which (Body.skip skipped body) = body-wide which body
body-wide which {columns = columns} (Body.next {r = r} {matrix = matrix} is body) =
    wide-next which r matrix (columns - 1) (row-long is) (body-wide which body)

matrix-wide : (which : Bool) {rows columns : ℕ} {matrix : List Row} {lines : List (List ℕ)} → Matrix rows columns matrix lines
    → Wide (columns - 1) (map entered (of_kind which matrix))
matrix-wide which (Matrix.skip skipped others) = matrix-wide which others
matrix-wide which (Matrix.head line body) = body-wide which body

-- the rows of a table are those of its kind, entered
pub rows-entered : (which : Bool) {rows columns : ℕ} {matrix : List Row} {lines : List (List ℕ)} → Matrix rows columns matrix lines
    → rows_of (columns - 1) (rows_of_kind which matrix) (packed which matrix) ≡ map entered (of_kind which matrix)
rows-entered which {columns = columns} {matrix = matrix} is =
    let rows = map entered (of_kind which matrix) in
    let count : length rows ≡ rows_of_kind which matrix = length-map (of_kind which matrix) entered ∙ kind-counted which matrix in
    rw (← count, packed-flat which matrix) (rows_of-flat (columns - 1) rows (matrix-wide which is))

-- ---- all rows

-- where all are kept, those of one kind are
kind-kept : (x : List ℤ) (which : Bool) (matrix : List Row) → KeepsAll x matrix → KeepsAll x (of_kind which matrix)
unfolding of_kind
kind-kept x which [] keeps = tt
kind-kept x which (r ∷ matrix) keeps = go (ours which r) (kind-kept x which matrix keeps.1)
  where
    go : (is : Bool) → KeepsAll x (of_kind which matrix) → KeepsAll x (cond is (r ∷ of_kind which matrix) (of_kind which matrix))
    go true later = (keeps.0, later)
    go false later = later

kept-between : (x : List ℤ) (before : List Row) (r : Row) (after : List Row) → KeepsAll x (before ++ (r ∷ after)) → Keeps x r
kept-between x [] r after keeps = keeps.0
kept-between x (a ∷ before) r after keeps = kept-between x before r after keeps.1

-- and the row of any name
name-kept : (x : List ℤ) (matrix : List Row) (name : Name) → KeepsAll x matrix → (row : Row) → Named matrix name row → Keeps x row
name-kept x matrix name keeps row named =
    kept-between x named.before row named.after (subst (KeepsAll x) named.there (kind-kept x name.inequality matrix keeps))

pub names-kept : (x : List ℤ) (matrix : List Row) (names : List Name) → KeepsAll x matrix → KeepsNamed x matrix names
names-kept x matrix [] keeps = tt
names-kept x matrix (name ∷ names) keeps = (name-kept x matrix name keeps, names-kept x matrix names keeps)

-- where the equations entered hold and there is no inequality, all rows are kept
pub all-kept : (x : List ℤ) (matrix : List Row) → rows_of_kind true matrix ≡ 0 → Satisfies x (map entered (of_kind false matrix)) → KeepsAll x matrix
unfolding of_kind rows_of_kind
all-kept x [] none holds = tt
all-kept x (r ∷ matrix) none holds = go r.inequality r.numbers (all-kept x matrix) none holds
  where
    go : (inequality : Bool) (numbers : List ℤ)
        → (rows_of_kind true matrix ≡ 0 → Satisfies x (map entered (of_kind false matrix)) → KeepsAll x matrix)
        → rows_of_kind true (record { inequality = inequality; numbers = numbers } ∷ matrix) ≡ 0
        → Satisfies x (map entered (of_kind false (record { inequality = inequality; numbers = numbers } ∷ matrix)))
        → KeepsAll x (record { inequality = inequality; numbers = numbers } ∷ matrix)
    go true numbers later none holds = let bad : ⊥ = omega arith in absurd bad
    go false numbers later none holds = (holds.0, later none holds.1)
