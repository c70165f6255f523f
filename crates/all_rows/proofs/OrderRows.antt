-- What the work on one row answers, by numbers: where it passes, it has made at most 64 steps, and the D of a conflict is at most W·W.
use mathlib.Core.Path.{◌≡◌, refl, subst}
use mathlib.Core.Bool.{Bool, true, false}
use mathlib.Core.List.{List, map}
use Prim.Native.Nat.{ℕ, zero, suc, ◌+◌, ◌*◌, ◌≤◌}
use native.Mathlib.Nat.{mul-le-mul}
use native.Mathlib.Omega.{arith}
use borrow.Author.Tests.{eqb-false}
use lib.Dec.{eqb}
use lib.ListN.{take}
use lib.IntN.{ℤ, nat_abs}
use Rattle.whole.specs.Limit.{W}
use Rattle.rows.specs.Row.{at, gcd_of, smallest, all_within}
use Rattle.rows.specs.Table.{flat}
use Rattle.rows.proofs.Bounded.{bounded_at, bounded-take, bounded-gcd}
use Rattle.rules.specs.Elimination.{State, Carried, Step, reduced, gcd_of_coefficients, step_of, put_into, stepped, one_more, closed, reason_of, corrected, listed_a, listed_c, listed_d, step_bound, closing, stepping, from_b, work, Worked, passed, unmet, large}
use Rattle.rules.proofs.Within.{Within, reduced-within}
use Rattle.stepping.proofs.LeastBits.{bound-small}

abbrev Bounds : ℕ → Worked → Type 0
Bounds steps (passed later s) = s.steps ≤ steps
Bounds steps (unmet multipliers d done) = d ≤ W * W
Bounds steps (large done) = Unit {0}

higher : (a b : ℕ) (x : Worked) → a ≤ b → Bounds a x → Bounds b x
higher a b (passed later s) h p = omega arith
higher a b (unmet multipliers d done) h p = p
higher a b (large done) h p = tt

closing-bounds : (n : ℕ) (t : Step) (e : Carried) (later : List Carried) (s : State) → Bounds (suc s.steps) (closing all_within n t e later s)
unfolding closing one_more closed
closing-bounds n t e later s = go (all_within (flat (map (listed_d t.column e.divisor (reason_of t e)) later)))
  where
    go : (fit : Bool) → Bounds (suc s.steps) (elim fit [ true ↦ passed (map (corrected t.column e.divisor (reason_of t e)) later) (one_more (closed t.column e.divisor (reason_of t e) s)) | false ↦ large s.steps ])
    go true = omega arith
    go false = tt

stepping-bounds : (n most : ℕ) (e : Carried) (later : List Carried) (s : State) → Bounds (s.steps + most) (stepping all_within n most e later s)
unfolding stepping stepped one_more
stepping-bounds n zero e later s = tt
stepping-bounds n (suc most) e later s = go (all_within (listed_c n t e later s)) (eqb (nat_abs t.lead) 1) (stepping-bounds n most e' later' (one_more s'))
  where
    t : Step
    t = step_of n e.row

    e' : Carried
    e' = put_into t e

    later' : List Carried
    later' = map (put_into t) later

    s' : State
    s' = stepped n t s

    go : (fit closes : Bool) → Bounds (suc s.steps + most) (stepping all_within n most e' later' (one_more s'))
        → Bounds (s.steps + suc most) (elim fit [ true ↦ elim closes [ true ↦ closing all_within n t e' later' s' | false ↦ stepping all_within n most e' later' (one_more s') ] | false ↦ large s.steps ])
    go true true again = higher (suc s.steps) (s.steps + suc most) (closing all_within n t e' later' s') (omega arith) (closing-bounds n t e' later' s')
    go true false again = higher (suc s.steps + most) (s.steps + suc most) (stepping all_within n most e' later' (one_more s')) (omega arith) again
    go false closes again = tt

from-bounds : (n : ℕ) (e : Carried) (later : List Carried) (s : State) → Within e → Bounds (s.steps + 64) (from_b all_within n e later s)
unfolding from_b gcd_of_coefficients
from-bounds n e later s w = go (eqb (gcd_of (take n e.row)) 1)
  where
    most : ℕ
    most = step_bound (nat_abs (at e.row (smallest (take n e.row))))

    small : most ≤ 64
    small = bound-small (nat_abs (at e.row (smallest (take n e.row)))) (bounded_at W e.row (smallest (take n e.row)) w.row)

    go : (one : Bool) → Bounds (s.steps + 64) (elim one [ true ↦ stepping all_within n most e later s | false ↦ unmet e.multipliers (e.divisor * gcd_of (take n e.row)) s.steps ])
    go true = higher (s.steps + most) (s.steps + 64) (stepping all_within n most e later s) (omega (arith, small)) (stepping-bounds n most e later s)
    go false = mul-le-mul w.most (bounded-gcd W (take n e.row) (bounded-take W n e.row w.row))

work-bounds : (n : ℕ) (e : Carried) (later : List Carried) (s : State) → Within e → Bounds (s.steps + 64) (work all_within n e later s)
unfolding work
work-bounds n e later s w = go (eqb (gcd_of e.row) 0) (all_within (listed_a (gcd_of e.row) e)) refl refl
  where
    go : (none fit : Bool) → eqb (gcd_of e.row) 0 ≡ none → all_within (listed_a (gcd_of e.row) e) ≡ fit
        → Bounds (s.steps + 64) (elim none [ true ↦ passed later s | false ↦ elim fit [ true ↦ from_b all_within n (reduced (gcd_of e.row) e) later s | false ↦ large s.steps ] ])
    go true fit z h = omega arith
    go false true z h = from-bounds n (reduced (gcd_of e.row) e) later s (reduced-within (gcd_of e.row) e (let p = eqb-false (gcd_of e.row) 0 z in omega arith) w h)
    go false false z h = tt

module _ (n : ℕ) (e : Carried) (later : List Carried) (s : State) (w : Within e) where
  pub passed-steps : (later' : List Carried) (s' : State) → work all_within n e later s ≡ passed later' s' → s'.steps ≤ s.steps + 64
  passed-steps later' s' p = subst (Bounds (s.steps + 64)) p (work-bounds n e later s w)

  pub unmet-small : (multipliers : List ℤ) (d done : ℕ) → work all_within n e later s ≡ unmet multipliers d done → d ≤ W * W
  unmet-small multipliers d done p = subst (Bounds (s.steps + 64)) p (work-bounds n e later s w)
