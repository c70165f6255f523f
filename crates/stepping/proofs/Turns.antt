-- What the answers of `turn` and `close` mean for the work on a row: each step of the definitions, as the tables show it.
use mathlib.Core.Path.{◌≡◌, refl, sym, ap, ap₂, ◌∙◌}
use mathlib.Core.Bool.{Bool, true, false}
use mathlib.Core.List.{List, [], ◌∷◌, ◌++◌, map, append_assoc}
use Prim.Native.Nat.{ℕ, suc, ◌≤◌}
use native.Mathlib.Omega.{arith}
use lib.Dec.{eqb}
use lib.ListN.{length, take, drop}
use lib.IntN.{ℤ, nat_abs}
use Rattle.rows.specs.Row.{all_within}
use Rattle.rows.specs.Table.{rows_of, flat}
use Rattle.rules.specs.Elimination.{State, Carried, Step, step_of, put_in, put_into, way_back_row, stepped, one_more, closed, reason_of, corrected, listed_c, closing, stepping, Worked, passed, large}
use Rattle.steps.specs.Shown.{made, beyond, tried, carry, carried_of, later_of}
use Rattle.turning.specs.Turned.{listed_turn}
use Rattle.closing.specs.Shut.{listed_shut}
use Rattle.steps.proofs.Attempts.{tried-fits, tried-made as tried-same-made}
use Rattle.stepping.specs.Worked.{in_hand}

-- ---- an attempt that was refused, and one that was not
module _ {A : Type 0} where
  pub tried-beyond : (b : Bool) (x : A) → beyond ≡ tried b x → b ≡ false
  tried-beyond b x e = sym (tried-fits false b x x e)

  pub tried-true : (a : A) (b : Bool) (x : A) → made a ≡ tried b x → b ≡ true
  tried-true a b x e = sym (tried-fits true b a x e)

  pub tried-made : (a : A) (b : Bool) (x : A) → made a ≡ tried b x → a ≡ x
  tried-made a b x e = tried-same-made true b a x refl e

-- ---- the steps of the definitions
abbrev pub choose : Bool → Worked → Worked → Worked
choose b x y = elim b [ true ↦ x | false ↦ y ]

pub chosen-true : (b : Bool) (x y : Worked) → b ≡ true → choose b x y ≡ x
chosen-true b x y h = ap (λ c. choose c x y) h

pub chosen-false : (b : Bool) (x y : Worked) → b ≡ false → choose b x y ≡ y
chosen-false b x y h = ap (λ c. choose c x y) h

module _ (n most : ℕ) (e : Carried) (later : List Carried) (s : State) where
  t : Step
  t = step_of n e.row

  closes : Worked
  unfolding t
  closes = closing all_within n t (put_into t e) (map (put_into t) later) (stepped n t s)

  again : Worked
  unfolding t
  again = stepping all_within n most (put_into t e) (map (put_into t) later) (one_more (stepped n t s))

  pub stepping-large : all_within (listed_c n (step_of n e.row) e later s) ≡ false → stepping all_within n (suc most) e later s ≡ large s.steps
  unfolding stepping t closes again
  stepping-large h = chosen-false (all_within (listed_c n t e later s)) (choose (eqb (nat_abs t.lead) 1) closes again) (large s.steps) h

  module _ (h : all_within (listed_c n (step_of n e.row) e later s) ≡ true) where
    pub stepping-closes : eqb (nat_abs (step_of n e.row).lead) 1 ≡ true
        → stepping all_within n (suc most) e later s
        ≡ closing all_within n (step_of n e.row) (put_into (step_of n e.row) e) (map (put_into (step_of n e.row)) later) (stepped n (step_of n e.row) s)
    unfolding stepping t closes again
    stepping-closes c =
        chosen-true (all_within (listed_c n t e later s)) (choose (eqb (nat_abs t.lead) 1) closes again) (large s.steps) h
        ∙ chosen-true (eqb (nat_abs t.lead) 1) closes again c

    pub stepping-more : eqb (nat_abs (step_of n e.row).lead) 1 ≡ false
        → stepping all_within n (suc most) e later s
        ≡ stepping all_within n most (put_into (step_of n e.row) e) (map (put_into (step_of n e.row)) later) (one_more (stepped n (step_of n e.row) s))
    unfolding stepping t closes again
    stepping-more c =
        chosen-true (all_within (listed_c n t e later s)) (choose (eqb (nat_abs t.lead) 1) closes again) (large s.steps) h
        ∙ chosen-false (eqb (nat_abs t.lead) 1) closes again c

module _ (n : ℕ) (t : Step) (e : Carried) (later : List Carried) (s : State) where
  shut_passed : Worked
  shut_passed = passed (map (corrected t.column e.divisor (reason_of t e)) later) (one_more (closed t.column e.divisor (reason_of t e) s))

  pub closing-large : all_within (listed_shut t.column e.divisor (reason_of t e) later) ≡ false → closing all_within n t e later s ≡ large s.steps
  unfolding closing shut_passed
  closing-large h = chosen-false (all_within (listed_shut t.column e.divisor (reason_of t e) later)) shut_passed (large s.steps) h

  pub closing-passes : all_within (listed_shut t.column e.divisor (reason_of t e) later) ≡ true
      → closing all_within n t e later s
      ≡ passed (map (corrected t.column e.divisor (reason_of t e)) later) (one_more (closed t.column e.divisor (reason_of t e) s))
  unfolding closing shut_passed
  closing-passes h = chosen-true (all_within (listed_shut t.column e.divisor (reason_of t e) later)) shut_passed (large s.steps) h

-- ---- the rows of the tables and the rows that are carried

module _ (w m : ℕ) where
  -- a step changes the rows and nothing else that is carried
  pub carried-turned : (t : Step) (rows rows' multipliers : List ℤ) (divisors : List ℕ)
      → rows_of w (length divisors) rows' ≡ map (put_in t) (rows_of w (length divisors) rows)
      → carried_of w m rows' multipliers divisors ≡ map (put_into t) (carried_of w m rows multipliers divisors)
  unfolding carried_of rows_of put_into
  carried-turned t rows rows' multipliers [] h = refl
  carried-turned t rows rows' multipliers (d ∷ divisors) h =
      let first : take w rows' ≡ put_in t (take w rows) = cc in
      let others : rows_of w (length divisors) (drop w rows') ≡ map (put_in t) (rows_of w (length divisors) (drop w rows)) = cc in
      ap₂ (λ row rest. carry row (take m multipliers) d ∷ rest) first (carried-turned t (drop w rows) (drop w rows') (drop m multipliers) divisors others)

  -- the numbers of the carried rows after a step
  pub flat-carried : (t : Step) (rows multipliers : List ℤ) (divisors : List ℕ)
      → flat (map (λ h. (put_into t h).row) (carried_of w m rows multipliers divisors)) ≡ flat (map (put_in t) (rows_of w (length divisors) rows))
  unfolding carried_of rows_of put_into flat
  flat-carried t rows multipliers [] = refl
  flat-carried t rows multipliers (d ∷ divisors) = ap (λ rest. put_in t (take w rows) ++ rest) (flat-carried t (drop w rows) (drop m multipliers) divisors)

all-carried : (n m : ℕ) (t : Step) (rows multipliers : List ℤ) (d : ℕ) (divisors : List ℕ)
    → (put_into t (in_hand n m rows multipliers (d ∷ divisors))).row ++ flat (map (λ h. (put_into t h).row) (later_of n m rows multipliers (d ∷ divisors)))
    ≡ flat (map (put_in t) (rows_of (suc n) (suc (length divisors)) rows))
unfolding carried_of rows_of put_into flat
all-carried n m t rows multipliers d divisors = ap (λ rest. put_in t (take (suc n) rows) ++ rest) (flat-carried (suc n) m t (drop (suc n) rows) (drop m multipliers) divisors)

-- what (c) lists, by rows and by tables
pub listed-turned : (n m : ℕ) (t : Step) (rows multipliers : List ℤ) (divisors : List ℕ) (s : State) → 1 ≤ length divisors
    → listed_c n t (in_hand n m rows multipliers divisors) (later_of n m rows multipliers divisors) s
    ≡ listed_turn n t (rows_of (suc n) (length divisors) rows) s.substitution s.way_back
unfolding listed_c
listed-turned n m t rows multipliers [] s h = absurd (omega arith)
listed-turned n m t rows multipliers (d ∷ divisors) s h =
    let rest = flat (map (put_in t) s.substitution) ++ way_back_row n t s.way_back in
    let later = flat (map (λ h. (put_into t h).row) (later_of n m rows multipliers (d ∷ divisors))) in
    sym (append_assoc (put_into t (in_hand n m rows multipliers (d ∷ divisors))).row later rest)
    ∙ ap (λ l. l ++ rest) (all-carried n m t rows multipliers d divisors)

-- ---- the row in hand and the rows behind it, after a step
module _ (n m : ℕ) (t : Step) (rows rows' multipliers : List ℤ) where
  pub hand-turned : (divisors : List ℕ) → 1 ≤ length divisors
      → rows_of (suc n) (length divisors) rows' ≡ map (put_in t) (rows_of (suc n) (length divisors) rows)
      → in_hand n m rows' multipliers divisors ≡ put_into t (in_hand n m rows multipliers divisors)
  unfolding rows_of put_into
  hand-turned [] h e = absurd (omega arith)
  hand-turned (d ∷ divisors) h e = let first : take (suc n) rows' ≡ put_in t (take (suc n) rows) = cc in ap (λ row. carry row (take m multipliers) d) first

  pub later-turned : (divisors : List ℕ) → 1 ≤ length divisors
      → rows_of (suc n) (length divisors) rows' ≡ map (put_in t) (rows_of (suc n) (length divisors) rows)
      → later_of n m rows' multipliers divisors ≡ map (put_into t) (later_of n m rows multipliers divisors)
  unfolding rows_of
  later-turned [] h e = absurd (omega arith)
  later-turned (d ∷ divisors) h e =
      let others : rows_of (suc n) (length divisors) (drop (suc n) rows') ≡ map (put_in t) (rows_of (suc n) (length divisors) (drop (suc n) rows)) = cc in
      carried-turned (suc n) m t (drop (suc n) rows) (drop (suc n) rows') (drop m multipliers) divisors others
