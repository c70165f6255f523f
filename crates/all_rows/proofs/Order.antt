-- The rows in order, on tables: the rows that are ahead are the tails of the tables. What holds before each row, and what its answer means.
use mathlib.Core.Path.{◌≡◌, refl, sym, ap, ap₂, ◌∙◌}
use mathlib.Core.Bool.{true}
use mathlib.Core.List.{List, [], ◌∷◌, ◌++◌}
use Prim.Native.Nat.{ℕ, zero, suc, ◌+◌, ◌-◌, ◌*◌, ◌≤◌, ◌<◌}
use native.Mathlib.Nat.{suc-mul, zero-mul, sub-zero}
use native.Mathlib.Omega.{arith}
use lib.ListN.{length, take, drop, length-drop, take-append-drop}
use lib.Seq.{drop-drop}
use lib.IntN.{ℤ}
use Rattle.whole.specs.Limit.{W}
use Rattle.rows.specs.Row.{all_within}
use Rattle.rows.proofs.Lists.{row-end}
use Rattle.rows.proofs.TableLaws.{flat-rows_of}
use Rattle.rows.proofs.Bounded.{and_both, bounded-nil, bounded-append, bounded-take, bounded-drop}
use Rattle.rules.specs.Elimination.{State, Carried, work, in_order, Worked, passed, unmet, large, Ended, conflicting, too_large, finished}
use Rattle.rules.proofs.Within.{Within, AllWithin, StateWithin, Passes, work-within}
use Rattle.steps.specs.Shown.{carried_of, later_of, Divisors}
use Rattle.closing.proofs.ShutTables.{rest_back, divisors-behind}
use Rattle.stepping.specs.Worked.{state_of, in_hand, Working3, Results4}
use Rattle.one_row.proofs.Starts.{hand-within}
use Rattle.all_rows.proofs.OrderRows.{passed-steps, unmet-small}

-- ---- the tables and the rows that are carried, within the limit
module _ (w m : ℕ) where
  carried-within : (rows multipliers : List ℤ) (divisors : List ℕ) → all_within rows ≡ true → all_within multipliers ≡ true → Divisors divisors
      → AllWithin (carried_of w m rows multipliers divisors)
  unfolding carried_of
  carried-within rows multipliers [] a b d = tt
  carried-within rows multipliers (d ∷ divisors) a b g = (
    record { row = bounded-take W w rows a; multipliers = bounded-take W m multipliers b; least = g.0.0; most = g.0.1 },
    carried-within (drop w rows) (drop m multipliers) divisors (bounded-drop W w rows a) (bounded-drop W m multipliers b) g.1,
  )

  -- a list with no number
  none_within : (l : List ℤ) → length l ≡ 0 → all_within l ≡ true
  none_within [] e = bounded-nil W
  none_within (z ∷ l) e = absurd (omega arith)

  split-within : (k : ℕ) (l : List ℤ) → all_within (take k l) ≡ true → all_within (drop k l) ≡ true → all_within l ≡ true
  split-within k l a b = ap all_within (sym (take-append-drop k l)) ∙ bounded-append W (take k l) (drop k l) ∙ and_both a b

  pub tables-within : (rows multipliers : List ℤ) (divisors : List ℕ) → length rows ≡ length divisors * w → length multipliers ≡ length divisors * m
      → AllWithin (carried_of w m rows multipliers divisors) → (all_within rows ≡ true) × (all_within multipliers ≡ true) × Divisors divisors
  unfolding carried_of
  tables-within rows multipliers [] a b g = (none_within rows (a ∙ zero-mul w), none_within multipliers (b ∙ zero-mul m), tt)
  tables-within rows multipliers (d ∷ divisors) a b g =
      let rest = tables-within (drop w rows) (drop m multipliers) divisors
      (length-drop w rows ∙ omega (arith, suc-mul (length divisors) w)) (length-drop m multipliers ∙ omega (arith, suc-mul (length divisors) m)) g.1 in (
        split-within w rows g.0.row rest.0,
        split-within m multipliers g.0.multipliers rest.1,
        ((g.0.least, g.0.most), rest.2),
      )

-- the first row of the tables, and those behind it
first-carried : (n m : ℕ) (rows multipliers : List ℤ) (divisors : List ℕ) → 1 ≤ length divisors
    → carried_of (suc n) m rows multipliers divisors ≡ in_hand n m rows multipliers divisors ∷ later_of n m rows multipliers divisors
unfolding carried_of
first-carried n m rows multipliers [] h = absurd (omega arith)
first-carried n m rows multipliers (d ∷ divisors) h = refl

-- row j of the tables, and those behind it
abbrev pub hand_at : ℕ → ℕ → List ℤ → List ℤ → List ℕ → ℕ → Carried
hand_at n m rows multipliers divisors j = in_hand n m (drop (j * suc n) rows) (drop (j * m) multipliers) (drop j divisors)

abbrev pub later_at : ℕ → ℕ → List ℤ → List ℤ → List ℕ → ℕ → List Carried
later_at n m rows multipliers divisors j = later_of n m (drop (j * suc n) rows) (drop (j * m) multipliers) (drop j divisors)

-- ---- what the answer of a row means for the run
abbrev pub after_row : ℕ → ℕ → ℕ → Worked → Ended
after_row n left j (passed later s) = in_order all_within n left (suc j) later s
after_row n left j (unmet multipliers d steps) = conflicting j multipliers d steps
after_row n left j (large steps) = too_large j steps

one-row : (n left j : ℕ) (e : Carried) (later : List Carried) (s : State) → in_order all_within n (suc left) j (e ∷ later) s ≡ after_row n left j (work all_within n e later s)
unfolding in_order
one-row n left j e later s = go (work all_within n e later s)
  where
    go : (x : Worked)
        → elim x as (λ y. Ended) [
          | passed later' s' ↦ in_order all_within n left (suc j) later' s'
          | unmet multipliers d steps ↦ conflicting j multipliers d steps
          | large steps ↦ too_large j steps
        ] ≡ after_row n left j x
    go (passed later' s') = refl
    go (unmet multipliers d steps) = refl
    go (large steps) = refl

no_row : (n left j : ℕ) (rows : List Carried) (s : State) → left ≤ 0 → finished s ≡ in_order all_within n left j rows s
unfolding in_order
no_row n zero j rows s h = refl
no_row n (suc left) j rows s h = absurd (omega arith)

-- ---- what holds before row j
pub record Ahead (goal : Ended) (n m : ℕ) (rows multipliers : List ℤ) (divisors : List ℕ) (substitution : List ℤ) (marks : List ℕ) (back reasons : List ℤ) (steps j : ℕ) : Type 0 where
  pub inside : j ≤ m
  pub rows_long : length rows ≡ m * suc n
  pub multipliers_long : length multipliers ≡ m * m
  pub many : length divisors ≡ m
  pub working : Working3 n m (drop (j * suc n) rows) (drop (j * m) multipliers) (drop j divisors)
  pub results : Results4 n m substitution marks back reasons
  pub few : steps ≤ 64 * j
  pub same : in_order all_within n (m - j) (suc j) (carried_of (suc n) m (drop (j * suc n) rows) (drop (j * m) multipliers) (drop j divisors)) (state_of n m substitution marks back reasons steps) ≡ goal

pub ahead-start : (n m : ℕ) (rows multipliers : List ℤ) (divisors : List ℕ) (substitution : List ℤ) (marks : List ℕ) (back reasons : List ℤ)
    → Working3 n m rows multipliers divisors → Results4 n m substitution marks back reasons → length divisors ≡ m
    → Ahead (in_order all_within n m 1 (carried_of (suc n) m rows multipliers divisors) (state_of n m substitution marks back reasons 0)) n m rows multipliers divisors substitution marks back reasons 0 0
ahead-start n m rows multipliers divisors substitution marks back reasons w r many = record {
  inside = omega arith;
  rows_long = w.rows_long ∙ ap (λ (k : ℕ). k * suc n) many;
  multipliers_long = w.multipliers_long ∙ ap (λ (k : ℕ). k * m) many;
  many = many;
  working = rw (zero-mul (suc n), zero-mul m) w;
  results = r;
  few = omega arith;
  same = rw (zero-mul (suc n), zero-mul m, sub-zero m) refl;
}

-- a tail that was lent and has come back, from its second row on
pub next-tail : {A : Type 0} (a w : ℕ) (l rest : List A) → a ≤ length l → drop (a + w) (take a l ++ (rest ++ drop (length l - a) (drop a l))) ≡ drop w rest
next-tail {A} a w l rest h = sym (drop-drop w a (take a l ++ (rest ++ drop (length l - a) (drop a l)))) ∙ ap (drop w) (rest_back a l rest h)

module _ {goal : Ended} {n m : ℕ} {rows multipliers : List ℤ} {divisors : List ℕ} {substitution : List ℤ} {marks : List ℕ} {back reasons : List ℤ} {steps j : ℕ}
    (g : Ahead goal n m rows multipliers divisors substitution marks back reasons steps j) where
  -- the run is over
  pub ahead-end : m ≤ j → finished (state_of n m substitution marks back reasons steps) ≡ goal
  ahead-end h =
      no_row n (m - j) (suc j) (carried_of (suc n) m (drop (j * suc n) rows) (drop (j * m) multipliers) (drop j divisors)) (state_of n m substitution marks back reasons steps) (omega arith)
      ∙ g.same

  module _ (more : j < m) where
    -- row j lies within the tables
    pub row_inside : j * suc n + suc n ≤ length rows
    row_inside = omega (arith, g.rows_long, row-end m (suc n) j more)

    pub multipliers-inside : j * m + m ≤ length multipliers
    multipliers-inside = omega (arith, g.multipliers_long, row-end m m j more)

    pub there : 1 ≤ length (drop j divisors)
    there = simp length-drop (omega (arith, g.many))

    hand : Carried
    hand = hand_at n m rows multipliers divisors j

    later : List Carried
    later = later_at n m rows multipliers divisors j

    state : State
    state = state_of n m substitution marks back reasons steps

    hand-good : Within hand
    unfolding hand
    hand-good = hand-within n m (drop (j * suc n) rows) (drop (j * m) multipliers) (drop j divisors) g.working there

    pub answered : (x : Worked) → x ≡ work all_within n (hand_at n m rows multipliers divisors j) (later_at n m rows multipliers divisors j) (state_of n m substitution marks back reasons steps) → after_row n (m - (j + 1)) (suc j) x ≡ goal
    unfolding hand later state
    answered x e =
        let left : suc (m - (j + 1)) ≡ m - j = omega arith in
        ap (after_row n (m - (j + 1)) (suc j)) e
        ∙ sym (one-row n (m - (j + 1)) (suc j) hand later state)
        ∙ ap₂ (λ (k : ℕ) (l : List Carried). in_order all_within n k (suc j) l state) left
        (sym (first-carried n m (drop (j * suc n) rows) (drop (j * m) multipliers) (drop j divisors) there))
        ∙ g.same

    pub conflict-small : (ms : List ℤ) (d done : ℕ) → unmet ms d done ≡ work all_within n (hand_at n m rows multipliers divisors j) (later_at n m rows multipliers divisors j) (state_of n m substitution marks back reasons steps) → d ≤ W * W
    unfolding hand later state
    conflict-small ms d done e = unmet-small n hand later state hand-good ms d done (sym e)

    -- where the row passes, all that it leaves is within the limit, after at most 64 steps
    later-good : AllWithin later
    unfolding later
    later-good =
        let w = g.working in
        carried-within (suc n) m (drop (suc n) (drop (j * suc n) rows)) (drop m (drop (j * m) multipliers)) (drop 1 (drop j divisors))
        (bounded-drop W (suc n) (drop (j * suc n) rows) w.rows_within) (bounded-drop W m (drop (j * m) multipliers) w.multipliers_within) (divisors-behind (drop j divisors) w.divisors_good)

    state-good : StateWithin state
    unfolding state
    state-good = let r = g.results in record {
      substitution = ap all_within (flat-rows_of (suc n) n substitution r.substitution_long) ∙ r.substitution_within;
      way_back = ap all_within (flat-rows_of (suc n) n back r.way_back_long) ∙ r.way_back_within;
    }

    pub leaves : (later' : List Carried) (s' : State) → passed later' s' ≡ work all_within n (hand_at n m rows multipliers divisors j) (later_at n m rows multipliers divisors j) (state_of n m substitution marks back reasons steps) → Passes later' s'
    unfolding hand later state
    leaves later' s' e = work-within n hand later state hand-good later-good state-good later' s' (sym e)

    pub steps-few : (later' : List Carried) (s' : State) → passed later' s' ≡ work all_within n (hand_at n m rows multipliers divisors j) (later_at n m rows multipliers divisors j) (state_of n m substitution marks back reasons steps) → s'.steps ≤ 64 * (j + 1)
    unfolding hand later state
    steps-few later' s' e = omega (arith, passed-steps n hand later state hand-good later' s' (sym e), g.few)
