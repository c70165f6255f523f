-- "The steps spent on one row are at most twice the bit length of that number, less one": the bound never cuts the work on a row short,
-- and the steps that the work counts stay within it.
use mathlib.Core.Path.{◌≡◌, refl, subst}
use mathlib.Core.Bool.{Bool, true, false}
use mathlib.Core.List.{List, map}
use Prim.Native.Nat.{ℕ, zero, suc, ◌+◌, ◌≤◌, ◌<◌}
use native.Mathlib.Nat.{le_refl, suc-add}
use native.Mathlib.Omega.{arith}
use borrow.Author.Tests.{eqb-false}
use lib.Dec.{eqb}
use lib.ListN.{length, take}
use lib.IntN.{ℤ, nat_abs}
use Rattle.rows.specs.Row.{at, gcd_of, smallest}
use Rattle.rules.specs.Elimination.{State, Carried, Step, Worked, passed, unmet, large}
use Rattle.rules.specs.Elimination.{step_of, put_in, put_into, stepped, reason_of, closed, one_more, closing, step_bound, stepping}
use Rattle.promises.specs.Listed.{no_limit}
use Rattle.promises.proofs.BoundLeads.{ClosedWithin, bound-closes}

-- ---- one step
abbrev is_one : ℕ → Carried → Bool
is_one n e = eqb (nat_abs (step_of n e.row).lead) 1

-- it goes on to close the column or to the next step, or ends since a listed number is too large
module _ (fits : List ℤ → Bool) (n : ℕ) (e : Carried) (later : List Carried) (s : State) where
  abbrev onward : ℕ → Worked
  onward most = let t = step_of n e.row in stepping fits n most (put_into t e) (map (put_into t) later) (one_more (stepped n t s))

  abbrev either : Bool → Bool → ℕ → Worked
  either fit one most =
      let t = step_of n e.row in
      elim fit [
        | true ↦ elim one [ true ↦ closing fits n t (put_into t e) (map (put_into t) later) (stepped n t s) | false ↦ onward most ]
        | false ↦ large s.steps
      ]

-- ---- what the work on a row may end in
abbrev Passed : Worked → Type 0
Passed worked = (later' : List Carried) × (s' : State) × (worked ≡ passed later' s')

-- the steps counted: some and at most so many where the row is passed, and fewer where a number is too large
abbrev Spent : ℕ → ℕ → Worked → Type 0
Spent from most (passed later s) = (from < s.steps) × (s.steps ≤ from + most)
Spent from most (unmet multipliers d steps) = Unit {0}
Spent from most (large steps) = steps < from + most

one_more_lem : (from most : ℕ) (worked : Worked) → Spent (suc from) most worked → Spent from (suc most) worked
one_more_lem from most (passed later s) h = omega arith
one_more_lem from most (unmet multipliers d steps) h = tt
one_more_lem from most (large steps) h = omega arith

-- ---- a row that is closed within so many steps
module _ (fits : List ℤ → Bool) (n : ℕ) where
  -- more are never used
  stable : (most more : ℕ) (e : Carried) (later : List Carried) (s : State) → ClosedWithin n most e.row
      → stepping fits n (most + more) e later s ≡ stepping fits n most e later s
  unfolding stepping put_into
  stable zero more e later s c = absurd c
  stable (suc most) more e later s c =
      let t = step_of n e.row in
      rw (suc-add most more) (go (fits _) (is_one n e) refl (stable most more (put_into t e) (map (put_into t) later) (one_more (stepped n t s))))
    where
      go : (fit one : Bool) → is_one n e ≡ one
          → (ClosedWithin n most (put_in (step_of n e.row) e.row) → onward fits n e later s (most + more) ≡ onward fits n e later s most)
          → either fits n e later s fit one (most + more) ≡ either fits n e later s fit one most
      go true true z ih = refl
      go true false z ih = ih (c (eqb-false _ 1 z))
      go false one z ih = refl

  -- the steps counted are within them
  spent-closing : (most : ℕ) (t : Step) (e : Carried) (later : List Carried) (s : State) → Spent s.steps (suc most) (closing fits n t e later s)
  unfolding closing closed one_more
  spent-closing most t e later s = go (fits _) _
    where
      go : (fit : Bool) (later' : List Carried) → Spent s.steps (suc most) (elim fit [
        | true ↦ passed later' (one_more (closed t.column e.divisor (reason_of t e) s))
        | false ↦ large s.steps
      ])
      go true later' = omega arith
      go false later' = omega arith

  spent : (most : ℕ) (e : Carried) (later : List Carried) (s : State) → ClosedWithin n most e.row
      → Spent s.steps most (stepping fits n most e later s)
  unfolding stepping put_into stepped one_more
  spent zero e later s c = absurd c
  spent (suc most) e later s c =
      let t = step_of n e.row in
      go (fits _) (is_one n e) refl (spent most (put_into t e) (map (put_into t) later) (one_more (stepped n t s)))
    where
      go : (fit one : Bool) → is_one n e ≡ one
          → (ClosedWithin n most (put_in (step_of n e.row) e.row) → Spent (suc s.steps) most (onward fits n e later s most))
          → Spent s.steps (suc most) (either fits n e later s fit one most)
      go true true z ih =
          let t = step_of n e.row in
          spent-closing most t (put_into t e) (map (put_into t) later) (stepped n t s)
      go true false z ih = one_more_lem s.steps most (onward fits n e later s most) (ih (c (eqb-false _ 1 z)))
      go false one z ih = omega arith

-- without a limit it is passed
passes : (n most : ℕ) (e : Carried) (later : List Carried) (s : State) → ClosedWithin n most e.row → Passed (stepping no_limit n most e later s)
unfolding stepping closing put_into
passes n zero e later s c = absurd c
passes n (suc most) e later s c =
    let t = step_of n e.row in
    go (is_one n e) refl (passes n most (put_into t e) (map (put_into t) later) (one_more (stepped n t s)))
  where
    go : (one : Bool) → is_one n e ≡ one
        → (ClosedWithin n most (put_in (step_of n e.row) e.row) → Passed (onward no_limit n e later s most))
        → Passed (either no_limit n e later s true one most)
    go true z ih = (_, _, refl)
    go false z ih = ih (c (eqb-false _ 1 z))

-- ---- the bound of the smallest coefficient is such a number of steps
within : (n : ℕ) (e : Carried) → length e.row ≡ suc n → gcd_of (take n e.row) ≡ 1
    → ClosedWithin n (step_bound (nat_abs (at e.row (smallest (take n e.row))))) e.row
unfolding step_of
within n e l g = bound-closes n _ e.row (record { wide = l; whole = g }) (le_refl _)

module _ (fits : List ℤ → Bool) (n : ℕ) (e : Carried) (later : List Carried) (s : State) (l : length e.row ≡ suc n)
    (g : gcd_of (take n e.row) ≡ 1) where
  -- with more steps allowed the answer is the same
  pub enough : (more : ℕ) → let least = nat_abs (at e.row (smallest (take n e.row))) in
      stepping fits n (step_bound least + more) e later s ≡ stepping fits n (step_bound least) e later s
  enough more = stable fits n _ more e later s (within n e l g)

  -- a row that is passed took a step, and no more than the bound
  pub steps-spent : (later' : List Carried) (s' : State) → let least = nat_abs (at e.row (smallest (take n e.row))) in
      stepping fits n (step_bound least) e later s ≡ passed later' s' → (s.steps < s'.steps) × (s'.steps ≤ s.steps + step_bound least)
  steps-spent later' s' p = subst (Spent s.steps _) p (spent fits n _ e later s (within n e l g))

  -- before a number that is too large it took fewer
  pub steps-before-large : (steps : ℕ) → let least = nat_abs (at e.row (smallest (take n e.row))) in
      stepping fits n (step_bound least) e later s ≡ large steps → steps < s.steps + step_bound least
  steps-before-large steps p = subst (Spent s.steps _) p (spent fits n _ e later s (within n e l g))

-- without a limit a row always ends in a closed column, never for want of steps
pub never-spent : (n : ℕ) (e : Carried) (later : List Carried) (s : State) → length e.row ≡ suc n → gcd_of (take n e.row) ≡ 1
    → let least = nat_abs (at e.row (smallest (take n e.row))) in
    (later' : List Carried) × (s' : State) × (stepping no_limit n (step_bound least) e later s ≡ passed later' s')
never-spent n e later s l g = passes n _ e later s (within n e l g)
