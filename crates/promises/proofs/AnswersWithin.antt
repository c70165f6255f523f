-- The numbers of a conflict, in the run of document 01: its multipliers lie in -W..W, and D, which is not listed, is at most W·W, so that
-- the checker takes both.
use mathlib.Core.Path.{◌≡◌, refl}
use mathlib.Core.Bool.{Bool, true, false}
use mathlib.Core.List.{List, [], ◌∷◌, map}
use Prim.Native.Nat.{ℕ, zero, suc, ◌*◌, ◌≤◌}
use native.Mathlib.Nat.{mul-le-mul}
use native.Mathlib.Omega.{arith}
use borrow.Author.Tests.{eqb-false}
use lib.Dec.{eqb}
use lib.ListN.{take}
use lib.IntN.{ℤ, nat_abs}
use Rattle.whole.specs.Limit.{W}
use Rattle.rows.specs.Row.{at, gcd_of, smallest, all_within}
use Rattle.rows.specs.Table.{rows_of}
use Rattle.rows.proofs.Bounded.{bounded-take, bounded-rows_of, bounded-gcd}
use Rattle.rules.specs.Elimination.{State, Carried, Step, Worked, passed, unmet, large, Ended, finished, conflicting, too_large}
use Rattle.rules.specs.Elimination.{step_of, put_into, stepped, one_more, reduced, gcd_of_coefficients, listed_a}
use Rattle.rules.specs.Elimination.{closing, stepping, step_bound, work, in_order, run, start, carried}
use Rattle.rules.proofs.Within.{Within, AllWithin, StateWithin, Passes, reduced-within, work-within}
use Rattle.rules.proofs.RunWithin.{start-within, carried-within}

-- small enough for the checker, since W·W is below 2^56
abbrev Small : List ℤ → ℕ → Type 0
Small multipliers d = (all_within multipliers ≡ true) × (d ≤ W * W)

-- the D of a row within the limit is at most W·W, as a gcd of numbers within it is within it
within-small : (n : ℕ) (e : Carried) → Within e → Small e.multipliers (e.divisor * gcd_of_coefficients n e)
unfolding gcd_of_coefficients
within-small n e w = (w.multipliers, mul-le-mul w.most (bounded-gcd W (take n e.row) (bounded-take W n e.row w.row)))

-- ---- the work on one row, whose steps end in no conflict, and the whole run
abbrev SmallWorked : Worked → Type 0
SmallWorked (passed later s) = Unit {0}
SmallWorked (unmet multipliers d steps) = Small multipliers d
SmallWorked (large steps) = Unit {0}

abbrev pub SmallEnded : Ended → Type 0
SmallEnded (finished s) = Unit {0}
SmallEnded (conflicting j multipliers d steps) = Small multipliers d
SmallEnded (too_large j steps) = Unit {0}

module _ (n : ℕ) where
  closing-small : (t : Step) (e : Carried) (later : List Carried) (s : State) → SmallWorked (closing all_within n t e later s)
  unfolding closing
  closing-small t e later s = go (all_within _) _ _
    where
      go : (b : Bool) (later' : List Carried) (s' : State) → SmallWorked (elim b [ true ↦ passed later' s' | false ↦ large s.steps ])
      go true later' s' = tt
      go false later' s' = tt

  stepping-small : (most : ℕ) (e : Carried) (later : List Carried) (s : State) → SmallWorked (stepping all_within n most e later s)
  unfolding stepping
  stepping-small zero e later s = tt
  stepping-small (suc most) e later s =
      go (all_within _) (eqb (nat_abs t.lead) 1) (stepping-small most (put_into t e) (map (put_into t) later) (one_more (stepped n t s)))
    where
      t : Step
      t = step_of n e.row

      go : (b b' : Bool) → SmallWorked (stepping all_within n most (put_into t e) (map (put_into t) later) (one_more (stepped n t s)))
          → SmallWorked (elim b [
            | true ↦ elim b' [
              | true ↦ closing all_within n t (put_into t e) (map (put_into t) later) (stepped n t s)
              | false ↦ stepping all_within n most (put_into t e) (map (put_into t) later) (one_more (stepped n t s))
            ]
            | false ↦ large s.steps
          ])
      go true true again = closing-small t (put_into t e) (map (put_into t) later) (stepped n t s)
      go true false again = again
      go false b' again = tt

  work-small : (e : Carried) (later : List Carried) (s : State) → Within e → SmallWorked (work all_within n e later s)
  unfolding work
  work-small e later s w = go (eqb g 0) refl (all_within (listed_a g e)) refl (eqb (gcd_of_coefficients n e') 1)
    where
      g : ℕ
      g = gcd_of e.row

      e' : Carried
      e' = reduced g e

      most : ℕ
      most = step_bound (nat_abs (at e'.row (smallest (take n e'.row))))

      go : (none : Bool) → eqb g 0 ≡ none → (fit : Bool) → all_within (listed_a g e) ≡ fit → (one : Bool) → SmallWorked (elim none [
        | true ↦ passed later s
        | false ↦ elim fit [
          | true ↦ elim one [
            | true ↦ stepping all_within n most e' later s
            | false ↦ unmet e'.multipliers (e'.divisor * gcd_of_coefficients n e') s.steps
          ]
          | false ↦ large s.steps
        ]
      ])
      go true z fit h one = tt
      go false z true h true = stepping-small most e' later s
      go false z true h false = within-small n e' (reduced-within g e (let p = eqb-false g 0 z in omega arith) w h)
      go false z false h one = tt

  -- ---- the rows in order
  in_order-small : (left j : ℕ) (rows : List Carried) (s : State) → AllWithin rows → StateWithin s → SmallEnded (in_order all_within n left j rows s)
  unfolding in_order
  in_order-small zero j rows s w v = tt
  in_order-small (suc left) j [] s w v = tt
  in_order-small (suc left) j (e ∷ later) s w v =
      go (in_order-small left (suc j)) (work all_within n e later s) (work-small e later s w.0) (work-within n e later s w.0 w.1 v)
    where
      go : ((rows : List Carried) (s : State) → AllWithin rows → StateWithin s → SmallEnded (in_order all_within n left (suc j) rows s))
          → (r : Worked) → SmallWorked r → ((later' : List Carried) (s' : State) → r ≡ passed later' s' → Passes later' s')
          → SmallEnded (elim r [
            | passed later' s' ↦ in_order all_within n left (suc j) later' s'
            | unmet multipliers d steps ↦ conflicting j multipliers d steps
            | large steps ↦ too_large j steps
          ])
      go again (passed later' s') h f = let w' = f later' s' refl in again later' s' w'.rows w'.state
      go again (unmet multipliers d steps) h f = h
      go again (large steps) h f = tt

pub run_small : (n m : ℕ) (equations : List ℤ) → all_within equations ≡ true → SmallEnded (run all_within n m (rows_of (suc n) m equations))
unfolding run
run_small n m equations h =
    in_order-small n m 1 (carried m 0 (rows_of (suc n) m equations)) (start n m)
    (carried-within m 0 (rows_of (suc n) m equations) (bounded-rows_of W (suc n) m equations h)) (start-within n m)
