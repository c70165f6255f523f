-- `numbers::put_values` meets its contract: each turn stores one value more.
use mathlib.Core.Path.{◌≡◌}
use mathlib.Core.List.{◌∷◌}
use lib.ListN.{take}
use Rattle.numbers.specs.Numbers.{five}
use Rattle.numbers.proofs.put_values.Given as goal

abbrev pub invariant-loop-i : goal.invariant-loop-i
invariant-loop-i l = l.into ≡ five (l.kind ∷ take l.i l.values)
