-- What the loop over the steps of a row keeps: the tables are good, and what is ahead of them is what was ahead at first.
use mathlib.Core.Path.{◌≡◌, refl, sym, ◌∙◌}
use mathlib.Core.Bool.{true, false}
use mathlib.Core.List.{List}
use Prim.Native.Nat.{ℕ, zero, suc, ◌+◌, ◌-◌, ◌≤◌, ◌<◌}
use native.Mathlib.Omega.{arith}
use lib.Dec.{eqb}
use lib.ListN.{length, take}
use lib.Seq.{take-take}
use lib.IntN.{ℤ, nat_abs}
use Rattle.whole.specs.Limit.{W}
use Rattle.rows.specs.Row.{gcd_of, smallest, all_within}
use Rattle.rows.proofs.Bounded.{bounded_at, bounded-take}
use Rattle.rules.specs.declared.StateTables.{StateTables}
use Rattle.rules.specs.Elimination.{State, Carried, step_of, stepping, Worked, large}
use Rattle.rules.proofs.RowInHand.{column-below}
use Rattle.steps.specs.declared.WorkTables.{WorkTables}
use Rattle.steps.specs.Shown.{later_of}
use Rattle.stepping.specs.Worked.{state_of, in_hand, Working3, Results4, hand_now, later_now, state_now}
use Rattle.stepping.proofs.Made.{Steps}
use Rattle.stepping.proofs.Shuts.{ahead, goes_on}

-- what the steps of the row in hand come to
abbrev pub comes_to : ℕ → ℕ → ℕ → ℕ → List ℤ → List ℤ → List ℕ → List ℤ → List ℕ → List ℤ → List ℤ → Worked
comes_to n m left count rows multipliers divisors substitution marks back reasons =
    stepping all_within n left (in_hand n m rows multipliers divisors) (later_of n m rows multipliers divisors) (state_of n m substitution marks back reasons count)

pub record Going (goal : Worked) (n m bound : ℕ) (rows multipliers : List ℤ) (divisors : List ℕ) (substitution : List ℤ) (marks : List ℕ) (back reasons : List ℤ) (left count : ℕ) : Type 0 where
  pub working : Working3 n m rows multipliers divisors
  pub results : Results4 n m substitution marks back reasons
  pub some : 1 ≤ length divisors
  pub alive : 0 < gcd_of (take n rows)
  pub budget : count + left ≡ bound
  pub same : comes_to n m left count rows multipliers divisors substitution marks back reasons ≡ goal

-- the same of the tables as the caller lends them
abbrev pub comes_to_now : ℕ → ℕ → ℕ → ℕ → WorkTables → StateTables → Worked
comes_to_now n m left count work state = stepping all_within n left (hand_now n m work) (later_now n m work) (state_now n m state count)

abbrev pub GoingNow : Worked → ℕ → ℕ → ℕ → WorkTables → StateTables → ℕ → ℕ → Type 0
GoingNow goal n m bound work state left count =
    Going goal n m bound work.rows.now work.multipliers.now work.divisors.now state.substitution.now state.marks.now state.way_back.now state.reasons.now left count

-- with no step left, the row is too large
none_left : (n left : ℕ) (e : Carried) (later : List Carried) (s : State) → left ≤ 0 → large s.steps ≡ stepping all_within n left e later s
unfolding stepping
none_left n zero e later s h = refl
none_left n (suc left) e later s h = absurd (omega arith)

pub gone : {goal : Worked} {n m bound : ℕ} {rows multipliers : List ℤ} {divisors : List ℕ} {substitution : List ℤ} {marks : List ℕ} {back reasons : List ℤ} {left count : ℕ}
    → Going goal n m bound rows multipliers divisors substitution marks back reasons left count → left ≤ 0 → large count ≡ goal
gone {n = n} {m = m} {rows = rows} {multipliers = multipliers} {divisors = divisors} {substitution = substitution} {marks = marks} {back = back} {reasons = reasons} {left = left} {count = count} g h =
    none_left n left (in_hand n m rows multipliers divisors) (later_of n m rows multipliers divisors) (state_of n m substitution marks back reasons count) h ∙ g.same

-- the coefficient of a step is one of the row's numbers
lead-within : (n : ℕ) (row : List ℤ) → all_within row ≡ true → nat_abs (step_of n row).lead ≤ W
unfolding step_of
lead-within n row h = bounded_at W row (smallest (take n row)) h

module _ {goal : Worked} {n m bound : ℕ} {rows multipliers : List ℤ} {divisors : List ℕ} {substitution : List ℤ} {marks : List ℕ} {back reasons : List ℤ} {left count : ℕ}
    (g : Going goal n m bound rows multipliers divisors substitution marks back reasons left count) (more : 0 < left) where
  -- the steps that are left, one at a time
  left_is : left ≡ suc (left - 1)
  left_is = omega arith

  pub ahead-is : ahead n m (left - 1) count rows multipliers divisors substitution marks back reasons ≡ goal
  ahead-is = rw left_is at g.same

  pub going_on : (column : ℕ) (lead : ℤ) (rows' substitution' back' : List ℤ)
      → Steps n m rows multipliers divisors substitution marks back reasons column lead rows' substitution' back'
      → eqb (nat_abs lead) 1 ≡ false
      → Going goal n m bound rows' multipliers divisors substitution' marks back' reasons (left - 1) (count + 1)
  going_on column lead rows' substitution' back' made other = record {
    working = made.working;
    results = made.results;
    some = g.some;
    alive = made.alive;
    budget = omega (arith, g.budget);
    same = sym (goes_on n m (left - 1) count rows multipliers divisors substitution marks back reasons column lead rows' substitution' back' made other) ∙ ahead-is;
  }

-- the column of a step is a column of the table, and the coefficient there is a number of it
module _ {n m : ℕ} {rows multipliers : List ℤ} {divisors : List ℕ} {substitution : List ℤ} {marks : List ℕ} {back reasons : List ℤ} {column : ℕ} {lead : ℤ} {rows' substitution' back' : List ℤ}
    (made : Steps n m rows multipliers divisors substitution marks back reasons column lead rows' substitution' back') where
  pub column-small : 0 < gcd_of (take n rows) → column < n
  column-small h = rw made.column_is (column-below n (take (suc n) rows) (rw (take-take n (suc n) rows (omega arith)) h))

  pub lead-small : all_within rows ≡ true → nat_abs lead ≤ W
  lead-small h = rw made.lead_is (lead-within n (take (suc n) rows) (bounded-take W (suc n) rows h))
