-- The cases of the work on a row, before its steps.
use mathlib.Core.Path.{◌≡◌, ap, ◌∙◌}
use mathlib.Core.Bool.{Bool, true, false}
use mathlib.Core.List.{List, [], ◌++◌}
use Prim.Native.Nat.{ℕ, suc, ◌*◌, ◌<◌}
use native.Mathlib.Omega.{arith}
use borrow.Author.Tests.{eq-eqb, ne_eqb, lt-leb}
use lib.Dec.{eqb}
use lib.ListN.{take}
use lib.Seq.{take-take}
use lib.IntN.{ℤ}
use Rattle.whole.specs.Limit.{W}
use Rattle.rows.specs.Row.{gcd_of, all_within}
use Rattle.rows.proofs.Bounded.{bounded-nil}
use Rattle.steps.specs.Shown.{carry}
use Rattle.rules.specs.Elimination.{Carried, State, gcd_of_coefficients, lowest_terms, by_gcd, reduced, numbers_of, listed_a, from_b, work, Worked, passed, unmet, large}
use Rattle.stepping.specs.Worked.{steps_from}
use Rattle.stepping.proofs.Turns.{choose, chosen-true, chosen-false}

module _ (n : ℕ) (e : Carried) (later : List Carried) (s : State) where
  reduced_from : Worked
  reduced_from = from_b all_within n (reduced (gcd_of e.row) e) later s

  -- "If g = 0 the row is done."
  pub work-done : gcd_of e.row ≡ 0 → work all_within n e later s ≡ passed later s
  unfolding work reduced_from
  work-done z = chosen-true (eqb (gcd_of e.row) 0) (passed later s) (choose (all_within (listed_a (gcd_of e.row) e)) reduced_from (large s.steps)) (eq-eqb (gcd_of e.row) 0 z)

  module _ (some : gcd_of e.row ≡ 0 → ⊥) where
    past : work all_within n e later s ≡ choose (all_within (listed_a (gcd_of e.row) e)) reduced_from (large s.steps)
    unfolding work reduced_from
    past = chosen-false (eqb (gcd_of e.row) 0) (passed later s) (choose (all_within (listed_a (gcd_of e.row) e)) reduced_from (large s.steps)) (ne_eqb (gcd_of e.row) 0 some)

    pub work-large : all_within (listed_a (gcd_of e.row) e) ≡ false → work all_within n e later s ≡ large s.steps
    work-large h = past ∙ chosen-false (all_within (listed_a (gcd_of e.row) e)) reduced_from (large s.steps) h

    pub work-reduced : all_within (listed_a (gcd_of e.row) e) ≡ true → work all_within n e later s ≡ from_b all_within n (reduced (gcd_of e.row) e) later s
    unfolding reduced_from
    work-reduced h = past ∙ chosen-true (all_within (listed_a (gcd_of e.row) e)) reduced_from (large s.steps) h

  -- "If g is not 1: equation conflict"
  pub work-unmet : (gcd_of_coefficients n e ≡ 1 → ⊥) → from_b all_within n e later s ≡ unmet e.multipliers (e.divisor * gcd_of_coefficients n e) s.steps
  unfolding from_b
  work-unmet h =
      chosen-false (eqb (gcd_of_coefficients n e) 1) (steps_from n e later s) (unmet e.multipliers (e.divisor * gcd_of_coefficients n e) s.steps) (ne_eqb (gcd_of_coefficients n e) 1 h)

  pub work-steps : gcd_of_coefficients n e ≡ 1 → from_b all_within n e later s ≡ steps_from n e later s
  unfolding from_b
  work-steps h =
      chosen-true (eqb (gcd_of_coefficients n e) 1) (steps_from n e later s) (unmet e.multipliers (e.divisor * gcd_of_coefficients n e) s.steps) (eq-eqb (gcd_of_coefficients n e) 1 h)

-- where the row's gcd is 1, (a) does nothing and lists nothing
pub one-reduced : (g : ℕ) (e : Carried) → g < 2 → reduced g e ≡ e
unfolding reduced
one-reduced g e h = ap (λ (b : Bool). elim b as (λ x. Carried) [ true ↦ lowest_terms (by_gcd g e) | false ↦ e ]) (lt-leb 2 g h)

pub one-listed : (g : ℕ) (e : Carried) → g < 2 → all_within (listed_a g e) ≡ true
unfolding listed_a
one-listed g e h = ap (λ (b : Bool). all_within (elim b as (λ x. List ℤ) [ true ↦ numbers_of (by_gcd g e) ++ numbers_of (lowest_terms (by_gcd g e)) | false ↦ [] ])) (lt-leb 2 g h) ∙ bounded-nil W

-- ---- what the code reads of a row
module _ (n : ℕ) (rows : List ℤ) where
  -- the coefficients of the first row stand first in the table
  first-coefficients : take n (take (suc n) rows) ≡ take n rows
  first-coefficients = take-take n (suc n) rows (omega arith)

  pub coefficients-gcd : (multipliers : List ℤ) (d : ℕ) → gcd_of_coefficients n (carry (take (suc n) rows) multipliers d) ≡ gcd_of (take n rows)
  unfolding gcd_of_coefficients
  coefficients-gcd multipliers d = ap gcd_of first-coefficients
