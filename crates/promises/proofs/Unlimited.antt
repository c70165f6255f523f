-- The run without a limit never ends too large: the bound on the steps of a row never cuts the work on it short.
use mathlib.Core.Path.{◌≡◌, refl, sym, subst}
use mathlib.Core.Bool.{Bool, true, false}
use mathlib.Core.List.{List, [], ◌∷◌}
use Prim.Native.Nat.{ℕ, zero, suc, ◌*◌, ◌<◌}
use native.Mathlib.Omega.{arith}
use borrow.Author.Tests.{eqb-true, eqb-false}
use lib.Dec.{eqb}
use lib.ListN.{length, take}
use lib.IntN.{ℤ, nat_abs}
use Rattle.rows.specs.Row.{at, gcd_of, smallest}
use Rattle.rows.specs.Table.{Wide}
use Rattle.rules.specs.Elimination.{State, Carried, Worked, passed, unmet, large, Ended, finished, conflicting, too_large}
use Rattle.rules.specs.Elimination.{reduced, gcd_of_coefficients, stepping, step_bound, from_b, work, in_order, run, start, carried}
use Rattle.promises.specs.Listed.{no_limit}
use Rattle.promises.proofs.Invariant.{in_hand}
use Rattle.promises.proofs.Reduced.{carries-reduced}
use Rattle.promises.proofs.Runs.{Held, Good, work-good, held_start}
use Rattle.promises.proofs.Bound.{never-spent}

-- ---- what does not end too large
abbrev Fits : Worked → Type 0
Fits (passed later s) = Unit {0}
Fits (unmet multipliers d steps) = Unit {0}
Fits (large steps) = ⊥

abbrev AllFit : Ended → Type 0
AllFit (finished s) = Unit {0}
AllFit (conflicting j multipliers d steps) = Unit {0}
AllFit (too_large j steps) = ⊥

passed-fits : {worked : Worked} → (later : List Carried) × (s : State) × (worked ≡ passed later s) → Fits worked
passed-fits h = subst Fits (sym h.2) tt

module _ (n m : ℕ) (equations : List (List ℤ)) (w : Wide (suc n) equations) where
  -- the work on one row
  work-fits : (e : Carried) (later : List Carried) (s : State) → Held n m equations s (e ∷ later) → Fits (work no_limit n e later s)
  unfolding work from_b gcd_of_coefficients
  work-fits e later s held = go (eqb (gcd_of e.row) 0) refl (eqb (gcd_of_coefficients n e') 1) refl
    where
      e' : Carried
      e' = reduced (gcd_of e.row) e

      most : ℕ
      most = step_bound (nat_abs (at e'.row (smallest (take n e'.row))))

      go : (none : Bool) → eqb (gcd_of e.row) 0 ≡ none → (one : Bool) → eqb (gcd_of_coefficients n e') 1 ≡ one → Fits (elim none [
        | true ↦ passed later s
        | false ↦ elim one [
          | true ↦ stepping no_limit n most e' later s
          | false ↦ unmet e'.multipliers (e'.divisor * gcd_of_coefficients n e') s.steps
        ]
      ])
      go true z one f = tt
      go false z true f =
          let some : 0 < gcd_of e.row = let other = eqb-false (gcd_of e.row) 0 z in omega arith in
          let (equation, c) = in_hand held.1 in
          let wide = (carries-reduced n m equations s.substitution s.marks equation e some c).wide in
          passed-fits (never-spent n e' later s wide (eqb-true (gcd_of_coefficients n e') 1 f))
      go false z false f = tt

  -- the rows in order
  in_order-fits : (left j : ℕ) (rows : List Carried) (s : State) → Held n m equations s rows → AllFit (in_order no_limit n left j rows s)
  unfolding in_order
  in_order-fits zero j rows s held = tt
  in_order-fits (suc left) j [] s held = tt
  in_order-fits (suc left) j (e ∷ later) s held =
      go (in_order-fits left (suc j)) (work no_limit n e later s) (work-good no_limit n m equations w e later s held) (work-fits e later s held)
    where
      go : ((rows : List Carried) (s : State) → Held n m equations s rows → AllFit (in_order no_limit n left (suc j) rows s))
          → (r : Worked) → Good n m equations (length later) r → Fits r → AllFit (elim r [
            | passed later' s' ↦ in_order no_limit n left (suc j) later' s'
            | unmet multipliers d steps ↦ conflicting j multipliers d steps
            | large steps ↦ too_large j steps
          ])
      go again (passed later' s') g h = again later' s' g.0
      go again (unmet multipliers d steps) g h = tt
      go again (large steps) g h = h

pub unlimited-ends : (n m : ℕ) (equations : List (List ℤ)) → length equations ≡ m → Wide (suc n) equations → (row steps : ℕ)
    → run no_limit n m equations ≡ too_large row steps → ⊥
unfolding run
unlimited-ends n m equations l w row steps e =
    subst AllFit e (in_order-fits n m equations w m 1 (carried m 0 equations) (start n m) (held_start n m equations w l))
