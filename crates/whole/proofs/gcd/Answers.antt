-- `whole::gcd` meets its contract: each round keeps the greatest common divisor, and the second number falls until it is 1 or 0.
use mathlib.Core.Path.{sym, ap, ◌∙◌}
use Prim.Native.Nat.{◌<◌}
use native.Mathlib.Nat.{mod-lt}
use native.Mathlib.Omega.{arith}
use Rattle.whole.specs.Gcd.{gcd}
use Rattle.whole.proofs.GcdLaws.{gcd-zero-r, gcd-one-r, gcd-step}
use Rattle.whole.proofs.gcd.Goals as goal

pub loop-y-smaller : goal.loop-y-smaller
loop-y-smaller c = let h : 0 < c.before.loop-y.y = omega arith in mod-lt c.before.loop-y.x h

pub loop-y-preserved : goal.loop-y-preserved
loop-y-preserved c = gcd-step c.before.loop-y.x c.before.loop-y.y (omega arith) ∙ c.before.loop-y.invariant

pub returns-then-y-eq1 : goal.returns-then-y-eq1
returns-then-y-eq1 c =
    let l = c.before.before.loop-y in
    sym (gcd-one-r l.x) ∙ ap (gcd l.x) (sym c.if-y-eq1.true) ∙ l.invariant

pub returns : goal.returns
returns c =
    let l = c.before.before.loop-y in
    sym (gcd-zero-r l.x) ∙ ap (gcd l.x) (omega arith) ∙ l.invariant
