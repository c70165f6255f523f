-- `steps::lowest_terms` meets its contract: a divisor 1 shares nothing, and to divide by 1 is to leave the multipliers as they are.
use Rattle.std.proofs.Common.{rules, ◌≡◌, ◌≤◌, ◌<◌, pos, ℕ, List, ℤ}
use mathlib.Core.Path.{sym, ap, ◌∙◌}
use native.Mathlib.Nat.{div-one}
use native.Mathlib.Omega.{arith}
use Rattle.whole.specs.Gcd.{gcd}
use Rattle.rows.specs.Row.{gcd_of, divided}
use Rattle.rules.specs.Elimination.{shared}
use Rattle.steps.proofs.CorrectedRow.{shared-nonzero, shared-le, shared-one, divided-one}
use Rattle.steps.proofs.lowest_terms.Goals.{then-g-ne1, else-g-ne1}
use Rattle.steps.proofs.lowest_terms.Goals as goal

-- the code's g is what the multipliers and d have in common
found : (l : List ℤ) (d : ℕ) {r g : ℕ} → r ≡ gcd_of l → g ≡ gcd r d → g ≡ shared l d
unfolding shared
found l d e f = rw (f, e)

-- it lies between 1 and d
between : (l : List ℤ) (d : ℕ) {g : ℕ} → g ≡ shared l d → 1 ≤ d → (0 < g) × (g ≤ d)
between l d e h = rw e (shared-nonzero l d h, shared-le l d h)

-- a divisor 1 shares nothing
pub returns-then-d-eq1 : goal.returns-then-d-eq1
returns-then-d-eq1 c =
    let l = c.args.multipliers.now in
    rw (ap (shared l) c.if-d-eq1.true ∙ shared-one l, c.if-d-eq1.true) (sym (div-one 1), sym (divided-one l))

pub signed-requires : goal.signed-requires
signed-requires c = let h = between _ _ (found _ _ c.gcd_of.ensures c.gcd-g.ensures) c.requires.1.0 in omega (arith, c.requires.1.1)

pub divide-requires : goal.divide-requires
divide-requires c =
    let h = between _ _ (found _ _ c.gcd_of.ensures c.gcd-g.ensures) c.requires.1.0 in
    (c.requires.0, search (rules, h))

pub over-requires : goal.over-requires
over-requires c = (between _ _ (found _ _ c.gcd_of.ensures c.gcd-g.ensures) c.requires.1.0).0

pub returns : goal.returns
returns c =
    let l = c.args.multipliers.now in
    rw (← found _ _ c.gcd_of.ensures c.gcd-g.ensures) (
      c.over.ensures,
      elim c.if-g-ne1.branch [
        | then-g-ne1 x ↦ x.multipliers-is ∙ x.divide.ensures ∙ ap (λ (z : ℤ). divided z l) (search rules)
        | else-g-ne1 x ↦ x.multipliers-is ∙ sym (divided-one l) ∙ ap (λ (g : ℕ). divided (pos g) l) (sym x.if-g-ne1.false)
      ],
    )
