-- `scanning::scan` meets its contract. What is left to scan from the machine in hand is what was to be scanned at the start.
use mathlib.Core.Path.{◌≡◌}
use lib.ListN.{drop}
use Rattle.matrix.specs.Machine.{begin}
use Rattle.matrix.specs.Reader.{scan}
use Rattle.machine.specs.Sound.{Sound}
use Rattle.scanning.proofs.scan.Given as goal

abbrev pub invariant-loop-place : goal.invariant-loop-place
invariant-loop-place l = (scan l.m l.place (drop l.place l.text) ≡ scan begin 0 l.text) × Sound l.m l.place
