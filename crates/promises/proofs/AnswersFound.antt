-- The rows that a conflict names, by their numbers from 1: they are rows of the table, and they pass the test.
use mathlib.Core.Path.{◌≡◌, refl, ap, ap₂, ◌∙◌}
use mathlib.Core.Bool.{Bool, true, false}
use mathlib.Core.List.{List, [], ◌∷◌, map}
use Prim.Native.Nat.{ℕ, zero, suc, ◌+◌, ◌-◌, ◌<◌}
use native.Mathlib.Omega.{arith}
use borrow.Author.Tests.{eqb-true, eqb-false}
use lib.Dec.{eqb, eqb-suc-zero}
use lib.ListN.{length, get_or}
use lib.IntN.{ℤ}
use Rattle.rules.specs.Inequalities.{first_row, first_pair, against}
use Rattle.promises.specs.Meaning.{row_number, Counts, Meets, MeetsAll}
use Rattle.promises.proofs.Chosen.{chosen}

-- ---- a row of a table, from 0

-- that was made row by row
pub map_at : {A B : Type 0} (f : A → B) (l : List A) (p : ℕ) (a : A) (b : B) → p < length l → get_or (map f l) p b ≡ f (get_or l p a)
map_at f [] p a b h = let z : ⊥ = omega arith in absurd z
map_at f (x ∷ l) zero a b h = refl
map_at f (x ∷ l) (suc p) a b h = map_at f l p a b (omega arith)

-- that is met
pub meets_at : (x : List ℤ) (inequalities : List (List ℤ)) → MeetsAll x inequalities → (p : ℕ) → p < length inequalities
    → Meets x (get_or inequalities p [])
meets_at x [] s p h = let z : ⊥ = omega arith in absurd z
meets_at x (inequality ∷ inequalities) s zero h = s.0
meets_at x (inequality ∷ inequalities) s (suc p) h = meets_at x inequalities s.1 p (omega arith)

-- ---- the first row that passes a test

record Found (test : List ℤ → Bool) (rows : List (List ℤ)) (i : ℕ) : Type 0 where
  place : ℕ
  is : i ≡ suc place
  inside : place < length rows
  passes : test (get_or rows place []) ≡ true

find : (test : List ℤ → Bool) (rows : List (List ℤ)) → (first_row test rows ≡ 0 → ⊥) → Found test rows (first_row test rows)
unfolding first_row
find test [] some = absurd (some refl)
find test (row ∷ rows) some = go (test row) refl (eqb (first_row test rows) 0) refl (find test rows) some
  where
    later : ℕ
    later = first_row test rows

    go : (b : Bool) → test row ≡ b → (b' : Bool) → eqb later 0 ≡ b' → ((later ≡ 0 → ⊥) → Found test rows later)
        → (◌≡◌ {A = ℕ} (elim b [ true ↦ 1 | false ↦ elim b' [ true ↦ 0 | false ↦ suc later ] ]) 0 → ⊥)
        → Found test (row ∷ rows) (elim b [ true ↦ 1 | false ↦ elim b' [ true ↦ 0 | false ↦ suc later ] ])
    go true e b' f again some = record { place = 0; is = refl; inside = omega arith; passes = e }
    go false e true f again some = absurd (some refl)
    go false e false f again some =
        let r = again (eqb-false later 0 f) in
        record { place = suc r.place; is = ap suc r.is; inside = omega (arith, r.inside); passes = r.passes }

-- its number
pub first-row : (test : List ℤ → Bool) (rows : List (List ℤ)) → (first_row test rows ≡ 0 → ⊥)
    → Counts (first_row test rows) (length rows) × (test (row_number (first_row test rows) rows) ≡ true)
first-row test rows some =
    let r = find test rows some in
    let at : first_row test rows - 1 ≡ r.place = omega (arith, r.is) in
    (omega (arith, r.is, r.inside), ap (λ p. test (get_or rows p [])) at ∙ r.passes)

-- a row before it fails the test, and where none passes, every row
pub earlier-fails : (test : List ℤ → Bool) (rows : List (List ℤ)) (p : ℕ) → p < length rows
    → (0 < first_row test rows → suc p < first_row test rows) → test (get_or rows p []) ≡ false
unfolding first_row
earlier-fails test [] p inside before = let bad : ⊥ = omega arith in absurd bad
earlier-fails test (row ∷ rows) p inside before = go (test row) refl (eqb later 0) refl (earlier-fails test rows) p inside before
  where
    later : ℕ
    later = first_row test rows

    go : (b : Bool) → test row ≡ b → (b' : Bool) → eqb later 0 ≡ b'
        → ((p : ℕ) → p < length rows → (0 < later → suc p < later) → test (get_or rows p []) ≡ false) → (p : ℕ) → p < length (row ∷ rows)
        → (let first = elim b as (λ z. ℕ) [ true ↦ 1 | false ↦ elim b' as (λ z. ℕ) [ true ↦ 0 | false ↦ suc later ] ] in 0 < first → suc p < first)
        → test (get_or (row ∷ rows) p []) ≡ false
    go true e b' f again p inside before = let bad : ⊥ = omega (arith, before (omega arith)) in absurd bad
    go false e b' f again zero inside before = e
    go false e true f again (suc p) inside before = again p (omega arith) (λ some. omega (arith, eqb-true later 0 f))
    go false e false f again (suc p) inside before = again p (omega arith) (λ some. omega (arith, before (omega arith)))

-- a row that passes while those before it fail is the first
pub first-is : (test : List ℤ → Bool) (rows : List (List ℤ)) (p : ℕ) → p < length rows → test (get_or rows p []) ≡ true
    → ((q : ℕ) → q < p → test (get_or rows q []) ≡ false) → first_row test rows ≡ suc p
unfolding first_row
first-is test [] p inside e f = let bad : ⊥ = omega arith in absurd bad
first-is test (row ∷ rows) zero inside e f = chosen 1 _ e
first-is test (row ∷ rows) (suc p) inside e f =
    let again = first-is test rows p (omega arith) e (λ q h. f (suc q) (omega arith)) in
    chosen 1 _ (f 0 (omega arith)) ∙ chosen 0 _ (ap (λ z. eqb z 0) again ∙ eqb-suc-zero p) ∙ ap suc again

-- ---- the first pair of opposites

record FoundPair (n i : ℕ) (rows : List (List ℤ)) (pair : ℕ × ℕ) : Type 0 where
  first : ℕ
  second : ℕ
  is-first : pair.0 ≡ i + first
  is-second : pair.1 ≡ i + second
  ordered : first < second
  inside : second < length rows
  passes : against n (get_or rows first []) (get_or rows second []) ≡ true

find-pair : (n i : ℕ) (rows : List (List ℤ)) → ((first_pair n i rows).0 ≡ 0 → ⊥) → FoundPair n i rows (first_pair n i rows)
unfolding first_pair
find-pair n i [] some = absurd (some refl)
find-pair n i (row ∷ rows) some = go (eqb after 0) refl (find-pair n (suc i) rows) some
  where
    after : ℕ
    after = first_row (against n row) rows

    go : (b : Bool) → eqb after 0 ≡ b → (((first_pair n (suc i) rows).0 ≡ 0 → ⊥) → FoundPair n (suc i) rows (first_pair n (suc i) rows))
        → ((elim b as (λ x. ℕ × ℕ) [ true ↦ first_pair n (suc i) rows | false ↦ (i, i + after) ]).0 ≡ 0 → ⊥)
        → FoundPair n i (row ∷ rows) (elim b [ true ↦ first_pair n (suc i) rows | false ↦ (i, i + after) ])
    go true e again some =
        let r = again some in
        record {
          first = suc r.first;
          second = suc r.second;
          is-first = omega (arith, r.is-first);
          is-second = omega (arith, r.is-second);
          ordered = omega (arith, r.ordered);
          inside = omega (arith, r.inside);
          passes = r.passes;
        }
    go false e again some =
        let r = find (against n row) rows (eqb-false after 0 e) in
        record {
          first = 0;
          second = suc r.place;
          is-first = omega arith;
          is-second = ap (λ z. i + z) r.is;
          ordered = omega arith;
          inside = omega (arith, r.inside);
          passes = r.passes;
        }

-- their numbers
pub first-pair : (n : ℕ) (rows : List (List ℤ)) → ((first_pair n 1 rows).0 ≡ 0 → ⊥)
    → let pair = first_pair n 1 rows in
    (Counts pair.0 (length rows) × Counts pair.1 (length rows))
    × (pair.0 < pair.1)
    × (against n (row_number pair.0 rows) (row_number pair.1 rows) ≡ true)
first-pair n rows some =
    let r = find-pair n 1 rows some in
    let i : (first_pair n 1 rows).0 - 1 ≡ r.first = omega (arith, r.is-first) in
    let j : (first_pair n 1 rows).1 - 1 ≡ r.second = omega (arith, r.is-second) in (
      omega (arith, r.is-first, r.is-second, r.ordered, r.inside),
      omega (arith, r.is-first, r.is-second, r.ordered),
      ap₂ (λ p q. against n (get_or rows p []) (get_or rows q [])) i j ∙ r.passes,
    )
