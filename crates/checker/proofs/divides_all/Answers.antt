-- `checker::divides_all` meets its contract: as long as each number was divided, what follows decides for the whole row.
use mathlib.Core.Path.{◌≡◌, sym, ◌∙◌}
use native.Mathlib.Omega.{arith}
use Rattle.std.proofs.Common.{rules}
use mathlib.Core.Bool.{false}
use Rattle.whole.specs.Gcd.{divides}
use Rattle.rows.specs.Row.{at}
use Rattle.rows.proofs.Bounded.{bounded_at}
use Rattle.checker.proofs.Judged.{all_none, all_here, all-later}
use Rattle.checker.proofs.divides_all.Goals as goal

pub divides-requires : goal.divides-requires
divides-requires c = let h = bounded_at 9223372036854775807 c.args.row.now c.loop-z.z-index c.requires in search (rules, h)

pub returns-then-not-divides : goal.returns-then-not-divides
returns-then-not-divides c =
    let left : divides c.args.d (at c.args.row.now c.loop-z.z-index) ≡ false = search rules in
    sym (all_here c.args.d c.args.row.now c.loop-z.z-index (omega arith) left) ∙ c.loop-z.invariant

pub loop-z-preserved : goal.loop-z-preserved
loop-z-preserved c = let h = all-later c.args.d c.args.row.now c.loop-z.z-index in search (rules, h)

pub returns : goal.returns
returns c = sym (all_none c.args.d c.args.row.now c.loop-z.z-index (omega arith)) ∙ c.loop-z.invariant
