-- `used::used_by` meets its contract: the equations from j on are a set of m - j bits, so that one bit more always fits.
use Rattle.std.proofs.Common.{◌≡◌, Bool, List, ℕ, suc, ◌-◌, ℤ}
use Rattle.rows.specs.Table.{rows_of}
use Rattle.rules.specs.Inequalities.{rests_on}
use Rattle.used.proofs.Reasons.{set_from}
use Rattle.used.proofs.used_by.Given as goal

-- whether the row rests on an equation
abbrev pub answer : ℕ → ℕ → List ℕ → List ℤ → List ℤ → ℕ → Bool
answer n m marks reasons sums = rests_on marks (rows_of (suc m) n reasons) sums

abbrev pub invariant-loop-j : goal.invariant-loop-j
invariant-loop-j l = l.set ≡ set_from (answer l.n l.m l.fn.marks l.fn.reasons l.fn.sums) l.j (l.m - l.j)
