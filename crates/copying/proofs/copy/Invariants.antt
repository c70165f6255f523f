-- `copying::copy` meets its contract: the front is that of the other table, one value more at each turn.
use Rattle.std.proofs.Common.{◌≡◌, length, take}
use Rattle.copying.proofs.copy.Given as goal

abbrev pub invariant-loop-i : goal.invariant-loop-i
invariant-loop-i g l = (length l.into ≡ length l.from) × (take l.i l.into ≡ take l.i l.from)
