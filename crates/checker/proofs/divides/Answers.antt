-- `checker::divides` meets its contract: the remainder of the absolute value is 0, and where d is 0 that remainder is the value itself.
use mathlib.Core.Path.{◌≡◌, sym, ap, ◌∙◌}
use Prim.Native.Nat.{ℕ, ◌%◌}
use native.Mathlib.Nat.{mod-zero}
use lib.Dec.{eqb}
use lib.IntN.{nat_abs}
use mir.Facts.{to_z-of_z}
use Rattle.checker.proofs.divides.Goals.{After-magnitude-size}
use Rattle.checker.proofs.divides.Goals as goal

size : (c : After-magnitude-size) → c.magnitude-size.result ≡ nat_abs c.args.z
size c = c.magnitude-size.ensures ∙ ap nat_abs (to_z-of_z c.ranges.z)

pub returns-then-d-eq0 : goal.returns-then-d-eq0
returns-then-d-eq0 c =
    let z = c.args.z in
    ap (λ (x : ℕ). eqb x 0) (size c.before ∙ sym (mod-zero (nat_abs z)) ∙ ap (λ (d : ℕ). nat_abs z % d) (sym c.if-d-eq0.true))

pub returns : goal.returns
returns c = ap (λ (x : ℕ). eqb (x % c.args.d) 0) (size c.before)
