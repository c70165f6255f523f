-- `used::rests_on` meets its contract: as long as no column decides, the columns ahead do.
use Rattle.std.proofs.Common.{◌≡◌, suc, drop}
use Rattle.used.specs.Carrying.{among}
use Rattle.used.proofs.rests_on.Given as goal

abbrev pub invariant-loop-p : goal.invariant-loop-p
invariant-loop-p l = among (suc l.m) l.j l.reasons (drop l.p-index l.columns) ≡ among (suc l.m) l.j l.reasons l.columns
