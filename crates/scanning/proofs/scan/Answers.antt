-- `scanning::scan` meets its contract. What is left to scan from the machine in hand is what was to be scanned at the start.
use native.Mathlib.Omega.{arith}
use Rattle.machine.proofs.Kept.{step-sound}
use Rattle.scanning.proofs.Scanned.{scanned}
use Rattle.scanning.proofs.scan.Goals as goal

pub loop-place-preserved : goal.loop-place-preserved
loop-place-preserved c = (grind (arith, scanned), rw c.step-m.ensures (step-sound _ _ _ c.loop-place.invariant.1))
