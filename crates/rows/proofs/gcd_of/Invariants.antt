-- `rows::gcd_of` meets its contract: the divisor found so far and that of the columns ahead have the row's as theirs.
use mathlib.Core.Path.{◌≡◌}
use lib.ListN.{drop}
use Rattle.whole.specs.Gcd.{gcd}
use Rattle.rows.specs.Row.{gcd_of}
use Rattle.rows.proofs.gcd_of.Given as goal

abbrev pub invariant-loop-z : goal.invariant-loop-z
invariant-loop-z l = gcd l.g (gcd_of (drop l.z-index l.row)) ≡ gcd_of l.row
