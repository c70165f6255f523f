-- What the fields of refusals 3, 4 and 5 say, and that they alone say it.
use mathlib.Core.Path.{◌≡◌, refl, sym, ap, ap₂, ◌∙◌, subst₂}
use mathlib.Core.Bool.{Bool, true, false, not, ◌&&◌, cond, true≢false}
use mathlib.Core.List.{List, [], ◌∷◌, map}
use Prim.Native.Nat.{ℕ, zero, suc, ◌+◌, ◌*◌, ◌-◌, ◌/◌, ◌%◌, ◌≤◌, ◌<◌}
use native.Mathlib.Nat.{mod-lt, div-add-mod', div-lt_iff_lt-mul, mul-add-div_right, mul-add-mod_self_right, div-eq_of_lt, mod-eq_of_lt, add-zero, zero-lt-suc}
use native.Mathlib.Omega.{arith}
use borrow.Author.Tests.{leb-false, not-true, not-false}
use lib.ListN.{length, get_or, take, length-map}
use lib.IntN.{ℤ, nat_abs}
use Rattle.whole.specs.Limit.{W, within}
use Rattle.rows.specs.Row.{at, all_within, bounded, first_beyond}
use Rattle.rows.specs.Table.{Wide}
use Rattle.rows.proofs.Bounded.{and_left, and_right, and_both, bounded_at}
use Rattle.rules.specs.declared.Table.{Table}
use Rattle.rules.specs.declared.Refusal.TheVariants.{BadEntry}
use Rattle.rules.specs.Elimination.{State, Ended, too_large, finished, elimination, run}
use Rattle.rules.specs.Inequalities.{sums, first_row}
use Rattle.rules.specs.Outcomes.{bad_entry}
use Rattle.promises.specs.Meaning.{row_number, Counts}
use Rattle.promises.specs.Listed.{no_limit, Group, listed_run, limited, FirstLarge, here, later}
use Rattle.promises.specs.Refusals.{FirstBad, LowestLarge}
use Rattle.promises.proofs.Chosen.{chosen}
use Rattle.promises.proofs.AnswersFound.{map_at, first-row, earlier-fails, first-is}
use Rattle.promises.proofs.TooLarge.{too_large_lem}
use Rattle.promises.proofs.Unlimited.{unlimited-ends}

-- ---- refusal 3: the first number beyond the limit

record Beyond (row : List ℤ) (p : ℕ) : Type 0 where
  inside : p < length row
  bad : within (at row p) ≡ false
  before : all_within (take p row) ≡ true

beyond : (row : List ℤ) → all_within row ≡ false → Beyond row (first_beyond row)
unfolding bounded first_beyond
beyond [] e = absurd (true≢false e)
beyond (a ∷ row) e = go (within a) refl (beyond row) e
  where
    go : (b : Bool) → within a ≡ b → (all_within row ≡ false → Beyond row (first_beyond row)) → b && all_within row ≡ false
        → Beyond (a ∷ row) (cond b (suc (first_beyond row)) 0)
    go true f again e =
        let r = again e in
        record { inside = omega (arith, r.inside); bad = r.bad; before = and_both f r.before }
    go false f again e = record { inside = omega arith; bad = f; before = refl }

-- it is the only number of which that is so
beyond-is : (row : List ℤ) (p : ℕ) → within (at row p) ≡ false → all_within (take p row) ≡ true → first_beyond row ≡ p
unfolding bounded first_beyond
beyond-is [] p e f = absurd (true≢false e)
beyond-is (a ∷ row) zero e f = ap (λ b. cond b (suc (first_beyond row)) 0) e
beyond-is (a ∷ row) (suc p) e f =
    ap (λ b. cond b (suc (first_beyond row)) 0) (and_left (within a) (all_within (take p row)) f)
    ∙ ap suc (beyond-is row p e (and_right (within a) (all_within (take p row)) f))

-- where it is, by rows
pub first-bad : (n count : ℕ) (numbers : List ℤ) → length numbers ≡ count * suc n → all_within numbers ≡ false
    → let p = first_beyond numbers in FirstBad (suc n) count numbers (suc (p / suc n)) (suc (p % suc n))
first-bad n count numbers l e = record {
  row_counts = (omega arith, (div-lt_iff_lt-mul (zero-lt-suc n)).1 (omega (arith, found.inside)));
  column_counts = (omega arith, mod-lt p (zero-lt-suc n));
  bad = ap (λ i. within (at numbers i)) place ∙ found.bad;
  before = ap (λ i. all_within (take i numbers)) place ∙ found.before;
}
  where
    p : ℕ
    p = first_beyond numbers

    found : Beyond numbers p
    found = beyond numbers e

    place : (suc (p / suc n) - 1) * suc n + (suc (p % suc n) - 1) ≡ p
    place =
        let quotient : suc (p / suc n) - 1 ≡ p / suc n = omega arith in
        let remainder : suc (p % suc n) - 1 ≡ p % suc n = omega arith in
        ap₂ (λ r c. r * suc n + c) quotient remainder ∙ div-add-mod' p (suc n)

module _ {width count row column : ℕ} {numbers : List ℤ} (first : FirstBad width count numbers row column) where
  abbrev p : ℕ
  p = (row - 1) * width + (column - 1)

  -- the table is then not within the limit
  pub bad-table : all_within numbers ≡ false
  bad-table = go (all_within numbers) refl
    where
      go : (b : Bool) → all_within numbers ≡ b → b ≡ false
      go true e = let bad : ⊥ = omega (arith, bounded_at W numbers p e, leb-false (nat_abs (at numbers p)) W first.bad) in absurd bad
      go false e = refl

  -- and its row and column are those of the refusal
  pub bad-entry : (table : Table) → bad_entry width table numbers ≡ BadEntry table row column
  unfolding bad_entry
  bad-entry table =
      ap (λ i. BadEntry table (suc (i / width)) (suc (i % width))) (beyond-is numbers p first.bad first.before)
      ∙ ap₂ (BadEntry table) (omega (arith, quotient, first.row_counts)) (omega (arith, remainder, first.column_counts))
    where
      inside : column - 1 < width
      inside = omega (arith, first.column_counts)

      quotient : p / width ≡ row - 1
      quotient = mul-add-div_right (omega arith) (row - 1) (column - 1) ∙ ap (λ z. (row - 1) + z) (div-eq_of_lt inside) ∙ add-zero (row - 1)

      remainder : p % width ≡ column - 1
      remainder = mul-add-mod_self_right (row - 1) width (column - 1) ∙ mod-eq_of_lt inside

-- ---- refusal 4: the first group with a number beyond the limit

-- where the run without the limit does not end so by itself
large-first : (groups : List (ℕ × Group)) (ended : Ended) (row steps : ℕ) → (ended ≡ too_large row steps → ⊥) → limited groups ended ≡ too_large row steps
    → FirstLarge row steps groups
unfolding limited
large-first [] ended row steps never e = absurd (never e)
large-first (group ∷ groups) ended row steps never e = go (all_within group.1.numbers) refl (large-first groups ended row steps never) e
  where
    go : (b : Bool) → all_within group.1.numbers ≡ b → (limited groups ended ≡ too_large row steps → FirstLarge row steps groups)
        → ◌≡◌ {A = Ended} (elim b [ true ↦ limited groups ended | false ↦ too_large group.0 group.1.steps ]) (too_large row steps)
        → FirstLarge row steps (group ∷ groups)
    go true f again e = later f (again e)
    go false f again e =
        let first : group.0 ≡ row = cc in
        let second : group.1.steps ≡ steps = cc in
        subst₂ (λ r s. FirstLarge r s (group ∷ groups)) first second (here f)

first-large : {row steps : ℕ} {groups : List (ℕ × Group)} → FirstLarge row steps groups → (ended : Ended) → limited groups ended ≡ too_large row steps
unfolding limited
first-large (here f) ended = chosen _ _ f
first-large (later f more) ended = chosen _ _ f ∙ first-large more ended

pub listed-large : (n m : ℕ) (equations : List (List ℤ)) → length equations ≡ m → Wide (suc n) equations → (row steps : ℕ)
    → elimination n m equations ≡ too_large row steps → FirstLarge row steps (listed_run n m equations)
listed-large n m equations l w row steps e =
    large-first (listed_run n m equations) (run no_limit n m equations) row steps (unlimited-ends n m equations l w row steps)
    (sym (too_large_lem n m equations) ∙ e)

pub large-listed : (n m : ℕ) (equations : List (List ℤ)) {row steps : ℕ} → FirstLarge row steps (listed_run n m equations)
    → elimination n m equations ≡ too_large row steps
large-listed n m equations first = too_large_lem n m equations ∙ first-large first (run no_limit n m equations)

-- ---- refusal 5: the lowest inequality with a sum beyond the limit

abbrev pub is_large : List ℤ → Bool
is_large row = not (all_within row)

module _ (n k : ℕ) (inequalities : List (List ℤ)) (l : length inequalities ≡ k) (s : State) where
  -- the sums of all inequalities, and the number of the first with one beyond the limit
  abbrev all : List (List ℤ)
  all = map (sums n s.substitution) inequalities

  abbrev lowest : ℕ
  lowest = first_row is_large all

  long : length all ≡ k
  long = length-map inequalities (sums n s.substitution) ∙ l

  of : (i : ℕ) → Counts i k → all_within (row_number i all) ≡ all_within (sums n s.substitution (row_number i inequalities))
  of i c = ap all_within (map_at (sums n s.substitution) inequalities (i - 1) [] [] (omega arith))

  -- those before it have none, and where it is 0 none has
  pub sums-within : (i : ℕ) → Counts i k → (0 < lowest → i < lowest) → all_within (sums n s.substitution (row_number i inequalities)) ≡ true
  sums-within i c before =
      sym (of i c)
      ∙ not-false (all_within (row_number i all)) (earlier-fails is_large all (i - 1) (omega (arith, long)) (λ some. omega (arith, before some)))

  pub lowest-large : (m : ℕ) (equations : List (List ℤ)) → elimination n m equations ≡ finished s → (lowest ≡ 0 → ⊥)
      → LowestLarge n m k equations inequalities lowest
  lowest-large m equations done some = record {
    state = s;
    ran = done;
    counts = counts;
    large = sym (of lowest counts) ∙ not-true (all_within (row_number lowest all)) (first-row is_large all some).1;
    lowest = λ h least below. sums-within h (omega (arith, counts)) (λ z. below);
  }
    where
      counts : Counts lowest k
      counts = omega (arith, long, (first-row is_large all some).0)

  -- it is the only number of which that is so
  lowest-is : (i : ℕ) → Counts i k → all_within (sums n s.substitution (row_number i inequalities)) ≡ false
      → ((h : ℕ) → 1 ≤ h → h < i → all_within (sums n s.substitution (row_number h inequalities)) ≡ true) → lowest ≡ i
  lowest-is i c large before =
      first-is is_large all (i - 1) (omega (arith, long)) (ap not (of i c ∙ large))
      (λ q h. let place : q ≡ suc q - 1 = omega arith in
      ap (λ p. is_large (get_or all p [])) place ∙ ap not (of (suc q) (omega arith) ∙ before (suc q) (omega arith) (omega arith)))
      ∙ omega arith

pub large-lowest : {n m k i : ℕ} {equations inequalities : List (List ℤ)} → length inequalities ≡ k
    → (first : LowestLarge n m k equations inequalities i) → first_row is_large (map (sums n first.state.substitution) inequalities) ≡ i
large-lowest {n} {k} {i} {inequalities} l first =
    lowest-is n k inequalities l first.state i first.counts first.large first.lowest
