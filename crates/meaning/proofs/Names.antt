-- The names in a reply: which equations are named, what the line of names is byte by byte, and what it is to keep the rows named.
use mathlib.Core.Bool.{Bool, true, false, cond, not, ◌||◌, or_comm, false≢true}
use mathlib.Core.Path.{◌≡◌, refl, sym, ap, ap₂, ◌∙◌, subst}
use mathlib.Core.List.{List, [], ◌∷◌, ◌++◌, map, append-nil, append_assoc}
use Prim.Native.Nat.{ℕ, zero, suc, ◌+◌, ◌/◌, ◌%◌, ◌^◌, ◌<◌}
use native.Mathlib.Nat.{div-one, pow-succ', div-div-eq-div-mul}
use native.Mathlib.Omega.{arith}
use borrow.Author.Tests.{eq-eqb, ne_eqb}
use lib.Dec.{eqb}
use lib.ListN.{get_or, take, get_or-map}
use lib.Seq.{get_or-take}
use lib.IntN.{ℤ, pos, nat_abs}
use Rattle.whole.proofs.Integers.{nat_abs-zero}
use Rattle.rows.specs.Row.{at}
use Rattle.promises.specs.Meaning.{InSet}
use Rattle.matrix.specs.Bytes.{space}
use Rattle.wellformed.specs.Grammar.{Row}
use Rattle.matrix.specs.Printed.{
  decimal,
  spaced_by,
  equation_letter,
  inequality_letter,
  multiplied,
  used_names,
  open_bracket,
  closing,
  names_of_multipliers,
  names_of_row,
  names_of_rows,
}
use Rattle.meaning.specs.Texts.{Keeps, Name, Named, KeepsNamed, name_bytes, names_line}

abbrev pub equation : ℕ → Name
equation j = record { inequality = false; number = j }

abbrev pub inequality : ℕ → Name
inequality i = record { inequality = true; number = i }

-- ---- the equations that are named: a mark for each, the first being number j

abbrev pub marked : ℕ → List Bool → List Name
marked j [] = []
marked j (mark ∷ marks) = cond mark (equation j ∷ marked (suc j) marks) (marked (suc j) marks)

-- those with a multiplier that is not 0
abbrev counts : ℤ → Bool
counts z = not (eqb (nat_abs z) 0)

abbrev pub multiplied_marks : List ℤ → List Bool
multiplied_marks multipliers = map counts multipliers

-- those in either set
abbrev pub used_marks : ℕ → ℕ → ℕ → List Bool
used_marks zero one other = []
used_marks (suc count) one other = (eqb (one % 2) 1 || eqb (other % 2) 1) ∷ used_marks count (one / 2) (other / 2)

-- ---- the bytes of their names

-- what stands behind the opening bracket
abbrev in_line : List Name → List ℕ
in_line [] = closing
in_line (name ∷ names) = name_bytes name ++ (spaced_by name_bytes names ++ closing)

line_of : (names : List Name) → names_line names ≡ open_bracket ∷ in_line names
unfolding names_line
line_of [] = refl
line_of (name ∷ names) = refl

multiplied-later : (j : ℕ) (multipliers : List ℤ) → multiplied space j multipliers ≡ spaced_by name_bytes (marked j (multiplied_marks multipliers))
unfolding multiplied spaced_by name_bytes
multiplied-later j [] = refl
multiplied-later j (z ∷ multipliers) = go (eqb (nat_abs z) 0) (multiplied-later (suc j) multipliers)
  where
    names : List Name
    names = marked (suc j) (multiplied_marks multipliers)

    bytes : List ℕ
    bytes = multiplied space (suc j) multipliers

    go : (none : Bool) → bytes ≡ spaced_by name_bytes names
        → cond none bytes (space ∷ (equation_letter ∷ (decimal j ++ bytes)))
        ≡ spaced_by name_bytes (cond (not none) (equation j ∷ names) names)
    go true e = e
    go false e = ap (λ l. space ∷ (equation_letter ∷ (decimal j ++ l))) e

-- the first has the bracket before it, so there has to be one
multiplied-first : (j : ℕ) (multipliers : List ℤ) → (marked j (multiplied_marks multipliers) ≡ [] → ⊥)
    → multiplied open_bracket j multipliers ++ closing ≡ open_bracket ∷ in_line (marked j (multiplied_marks multipliers))
unfolding multiplied name_bytes
multiplied-first j [] some = absurd (some refl)
multiplied-first j (z ∷ multipliers) some = go (eqb (nat_abs z) 0) (multiplied-first (suc j) multipliers) some
  where
    names : List Name
    names = marked (suc j) (multiplied_marks multipliers)

    bytes : ℕ → List ℕ
    bytes before = multiplied before (suc j) multipliers

    go : (none : Bool) → ((names ≡ [] → ⊥) → bytes open_bracket ++ closing ≡ open_bracket ∷ in_line names)
        → (cond (not none) (equation j ∷ names) names ≡ [] → ⊥)
        → cond none (bytes open_bracket) (open_bracket ∷ (equation_letter ∷ (decimal j ++ bytes space))) ++ closing
        ≡ open_bracket ∷ in_line (cond (not none) (equation j ∷ names) names)
    go true later some = later some
    go false later some =
        ap (λ l. open_bracket ∷ (equation_letter ∷ l))
        (append_assoc (decimal j) (bytes space) closing
        ∙ ap (λ l. decimal j ++ (l ++ closing)) (multiplied-later (suc j) multipliers))

pub multipliers-line : (multipliers : List ℤ) → (marked 1 (multiplied_marks multipliers) ≡ [] → ⊥)
    → names_of_multipliers multipliers ≡ names_line (marked 1 (multiplied_marks multipliers))
unfolding names_of_multipliers
multipliers-line multipliers some = multiplied-first 1 multipliers some ∙ sym (line_of (marked 1 (multiplied_marks multipliers)))

-- some names, each behind a space: a space, and then those names in line
spaced-in-line : (names : List Name) (name : Name) (more : List Name)
    → spaced_by name_bytes (names ++ (name ∷ more)) ++ closing ≡ space ∷ in_line (names ++ (name ∷ more))
unfolding spaced_by
spaced-in-line [] name more = ap (λ l. space ∷ l) (append_assoc (name_bytes name) (spaced_by name_bytes more) closing)
spaced-in-line (first ∷ names) name more =
    ap (λ l. space ∷ l) (append_assoc (name_bytes first) (spaced_by name_bytes (names ++ (name ∷ more))) closing)

-- the used equations, a space behind each, and then other names
used-first : (j count one other : ℕ) (name : Name) (more : List Name)
    → used_names j count one other ++ in_line (name ∷ more) ≡ in_line (marked j (used_marks count one other) ++ (name ∷ more))
unfolding used_names name_bytes
used-first j zero one other name more = refl
used-first j (suc count) one other name more =
    go (eqb (one % 2) 1 || eqb (other % 2) 1) (used-first (suc j) count (one / 2) (other / 2) name more)
  where
    bytes : List ℕ
    bytes = used_names (suc j) count (one / 2) (other / 2)

    names : List Name
    names = marked (suc j) (used_marks count (one / 2) (other / 2))

    go : (used : Bool) → bytes ++ in_line (name ∷ more) ≡ in_line (names ++ (name ∷ more))
        → cond used (equation_letter ∷ (decimal j ++ (space ∷ bytes))) bytes ++ in_line (name ∷ more)
        ≡ in_line (cond used (equation j ∷ names) names ++ (name ∷ more))
    go true e =
        ap (λ l. equation_letter ∷ l)
        (append_assoc (decimal j) (space ∷ bytes) (in_line (name ∷ more))
        ∙ ap (λ l. decimal j ++ l) (ap (λ l. space ∷ l) e ∙ sym (spaced-in-line names name more)))
    go false e = e

pub row_line : (m i used : ℕ) → names_of_row m i used ≡ names_line (marked 1 (used_marks m used 0) ++ (inequality i ∷ []))
unfolding names_of_row name_bytes spaced_by
row_line m i used =
    ap (λ l. open_bracket ∷ l) (used-first 1 m used 0 (inequality i) [])
    ∙ sym (line_of (marked 1 (used_marks m used 0) ++ (inequality i ∷ [])))

pub rows-line : (m i j one other : ℕ)
    → names_of_rows m i j one other ≡ names_line (marked 1 (used_marks m one other) ++ (inequality i ∷ inequality j ∷ []))
unfolding names_of_rows name_bytes spaced_by
rows-line m i j one other =
    ap (λ l. open_bracket ∷ (used_names 1 m one other ++ (inequality_letter ∷ (decimal i ++ (space ∷ (inequality_letter ∷ (l ++ closing)))))))
    (sym (append-nil (decimal j)))
    ∙ ap (λ l. open_bracket ∷ l) (used-first 1 m one other (inequality i) (inequality j ∷ []))
    ∙ sym (line_of (marked 1 (used_marks m one other) ++ (inequality i ∷ inequality j ∷ [])))

-- ---- which marks are set

pub multiplier-marked : (m : ℕ) (conflict : List ℤ) (j : ℕ) → j < m → (at conflict j ≡ pos 0 → ⊥)
    → get_or (multiplied_marks (take m conflict)) j false ≡ true
multiplier-marked m conflict j h some =
    get_or-map counts (take m conflict) j (pos 0)
    ∙ ap counts (get_or-take m conflict j (pos 0) h)
    ∙ ap not (ne_eqb (nat_abs (at conflict j)) 0 (λ e. some (nat_abs-zero (at conflict j) e)))

used-swapped : (count one other : ℕ) → used_marks count one other ≡ used_marks count other one
used-swapped zero one other = refl
used-swapped (suc count) one other =
    ap₂ (λ mark marks. mark ∷ marks) (or_comm (eqb (one % 2) 1) (eqb (other % 2) 1)) (used-swapped count (one / 2) (other / 2))

-- a set without its first bit
half-set : (set j : ℕ) → set / 2 ^ suc j ≡ (set / 2) / 2 ^ j
half-set set j = ap (λ z. set / z) (pow-succ' 2 j) ∙ sym (div-div-eq-div-mul set 2 (2 ^ j))

pub one-marked : (count one other j : ℕ) → j < count → InSet one j → get_or (used_marks count one other) j false ≡ true
one-marked zero one other j h inside = let bad : ⊥ = omega arith in absurd bad
one-marked (suc count) one other zero h inside =
    ap (λ mark. mark || eqb (other % 2) 1) (eq-eqb (one % 2) 1 (ap (λ z. z % 2) (sym (div-one one)) ∙ inside))
one-marked (suc count) one other (suc j) h inside =
    one-marked count (one / 2) (other / 2) j (omega arith) (ap (λ z. z % 2) (sym (half-set one j)) ∙ inside)

pub other-marked : (count one other j : ℕ) → j < count → InSet other j → get_or (used_marks count one other) j false ≡ true
other-marked count one other j h inside =
    ap (λ marks. get_or marks j false) (used-swapped count one other) ∙ one-marked count other one j h inside

-- ---- to keep the rows that are named

pub kept-both : (x : List ℤ) (matrix : List Row) (names more : List Name) → KeepsNamed x matrix (names ++ more)
    → KeepsNamed x matrix names × KeepsNamed x matrix more
kept-both x matrix [] more keeps = (tt, keeps)
kept-both x matrix (name ∷ names) more keeps = let (some, others) = kept-both x matrix names more keeps.1 in ((keeps.0, some), others)

-- an equation that is marked is kept
pub marked-kept : (x : List ℤ) (matrix : List Row) (i : ℕ) (marks : List Bool) → KeepsNamed x matrix (marked i marks)
    → (j number : ℕ) → number ≡ i + j → get_or marks j false ≡ true → (row : Row) → Named matrix (equation number) row → Keeps x row
marked-kept x matrix i [] keeps j number is e row named = absurd (false≢true e)
marked-kept x matrix i (true ∷ marks) keeps zero number is e row named =
    let first : number ≡ i = omega arith in keeps.0 row (subst (λ z. Named matrix (equation z) row) first named)
marked-kept x matrix i (false ∷ marks) keeps zero number is e row named = absurd (false≢true e)
marked-kept x matrix i (true ∷ marks) keeps (suc j) number is e row named = marked-kept x matrix (suc i) marks keeps.1 j number (omega arith) e row named
marked-kept x matrix i (false ∷ marks) keeps (suc j) number is e row named = marked-kept x matrix (suc i) marks keeps j number (omega arith) e row named
