-- `whole::gcd` meets its contract: each round keeps the greatest common divisor, and the second number falls until it is 1 or 0.
use mathlib.Core.Path.{◌≡◌}
use Rattle.whole.specs.Gcd.{gcd}
use Rattle.whole.proofs.gcd.Given as goal

abbrev pub invariant-loop-y : goal.invariant-loop-y
invariant-loop-y l = gcd l.x l.y ≡ gcd l.a l.b

abbrev pub decreases-loop-y : goal.decreases-loop-y
decreases-loop-y l = l.y
