-- A run that finishes within the limit leaves its state within the limit.
use mathlib.Core.Path.{◌≡◌, refl, ◌∙◌, subst}
use mathlib.Core.Bool.{true}
use mathlib.Core.List.{List, [], ◌∷◌, map}
use Prim.Native.Nat.{ℕ, zero, suc}
use native.Mathlib.Omega.{arith}
use lib.IntN.{ℤ}
use Rattle.whole.specs.Limit.{W}
use Rattle.rows.specs.Row.{unit_row, all_within}
use Rattle.rows.specs.Table.{flat}
use Rattle.rows.proofs.Bounded.{and_both, bounded-append, bounded-nil, bounded-unit}
use Rattle.rules.specs.Elimination.{State, Carried, counted, identity, start, carried, work, Worked, passed, unmet, large, Ended, finished, conflicting, too_large, in_order, run, elimination}
use Rattle.rules.proofs.Within.{AllWithin, StateWithin, left-part, right-part, work-within}

-- what the run leaves where it finishes
Left : Ended → Type 0
Left (finished s) = StateWithin s
Left (conflicting row multipliers d steps) = Unit {0}
Left (too_large row steps) = Unit {0}

order-within : (n left j : ℕ) (rows : List Carried) (s : State) → AllWithin rows → StateWithin s → Left (in_order all_within n left j rows s)
unfolding in_order Left
order-within n zero j rows s w v = v
order-within n (suc left) j [] s w v = v
order-within n (suc left) j (e ∷ later) s w v = go (work all_within n e later s) refl (order-within n left (suc j))
  where
    go : (worked : Worked) → work all_within n e later s ≡ worked
        → ((rows : List Carried) (s : State) → AllWithin rows → StateWithin s → Left (in_order all_within n left (suc j) rows s))
        → Left (elim worked [
          | passed later' s' ↦ in_order all_within n left (suc j) later' s'
          | unmet multipliers d steps ↦ conflicting j multipliers d steps
          | large steps ↦ too_large j steps
        ])
    go (passed later' s') p again = let q = work-within n e later s w.0 w.1 v later' s' p in again later' s' q.rows q.state
    go (unmet multipliers d steps) p again = tt
    go (large steps) p again = tt

-- ---- the start
pub units-within : (width i count : ℕ) → all_within (flat (map (unit_row width) (counted i count))) ≡ true
unfolding counted flat
units-within width i zero = bounded-nil W
units-within width i (suc count) = bounded-append W (unit_row width i) (flat (map (unit_row width) (counted (suc i) count))) ∙ and_both (bounded-unit W width i (omega arith)) (units-within width (suc i) count)

pub start-within : (n m : ℕ) → StateWithin (start n m)
unfolding start identity
start-within n m = record { substitution = units-within (suc n) 0 n; way_back = units-within (suc n) 0 n }

pub carried-within : (m j : ℕ) (rows : List (List ℤ)) → all_within (flat rows) ≡ true → AllWithin (carried m j rows)
unfolding carried flat
carried-within m j [] w = tt
carried-within m j (row ∷ rows) w =
    (record { row = left-part row (flat rows) w; multipliers = bounded-unit W m j (omega arith); least = omega arith; most = omega arith }, carried-within m (suc j) rows (right-part row (flat rows) w))

pub run-within : (n m : ℕ) (equations : List (List ℤ)) → all_within (flat equations) ≡ true → (s : State) → elimination n m equations ≡ finished s → StateWithin s
unfolding elimination run Left
run-within n m equations w s e = subst Left e (order-within n m 1 (carried m 0 equations) (start n m) (carried-within m 0 equations w) (start-within n m))
