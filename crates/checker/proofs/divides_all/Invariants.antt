-- `checker::divides_all` meets its contract: as long as each number was divided, what follows decides for the whole row.
use mathlib.Core.Path.{◌≡◌}
use lib.ListN.{drop}
use Rattle.rules.specs.Checker.{divides_all}
use Rattle.checker.proofs.divides_all.Given as goal

abbrev pub invariant-loop-z : goal.invariant-loop-z
invariant-loop-z l = divides_all l.d (drop l.z-index l.row) ≡ divides_all l.d l.row
