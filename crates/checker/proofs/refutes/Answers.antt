-- `checker::refutes` meets its contract: the equations are gathered in a row of 0s, and what D divides of that row decides.
use mathlib.Core.Path.{◌≡◌, sym, ap, ap₂, ◌∙◌}
use mathlib.Core.Bool.{true}
use Prim.Native.Nat.{suc, ◌*◌}
use native.Mathlib.Omega.{arith}
use Rattle.std.proofs.Common.{rules}
use lib.ListN.{take}
use Rattle.whole.specs.Gcd.{divides}
use Rattle.rows.specs.Row.{at, all_within, bounded}
use Rattle.rows.specs.Table.{rows_of}
use Rattle.rows.proofs.Bounded.{bounded_at, bounded-take}
use Rattle.rules.specs.Checker.{divides_all, combined}
use Rattle.checker.proofs.Combined.{empty, width, gotten, within-zeros, combined-fits}
use Rattle.checker.proofs.Judged.{constant-divided, constant-left}
use Rattle.checker.proofs.refutes.Goals.{After-gather, After-divides}
use Rattle.checker.proofs.refutes.Goals as goal

pub gather-requires : goal.gather-requires
gather-requires c =
    let a = c.args in
    let few = c.requires.m.0 in
    let many = c.requires.m.2 in (
      c.requires.m.3 ∙ sym (ap₂ ◌*◌ many (width a.n a.m a.multipliers.now a.equations.now few many)),
      omega (arith, c.requires.m),
      ap all_within (empty a.n a.m a.multipliers.now a.equations.now few many) ∙ within-zeros (suc a.n),
      c.requires.within.0,
      c.requires.within.1,
    )

-- the row is the combined row, and all of it fits
row : (c : After-gather) → c.gather.new.row ≡ combined c.args.n c.args.multipliers.now (rows_of (suc c.args.n) c.args.m c.args.equations.now)
row c = let a = c.args in gotten a.n a.m a.multipliers.now a.equations.now c.requires.m.0 c.requires.m.2 c.gather.new.row c.gather.ensures

fits : (c : After-gather) → bounded 9223372036854775807 c.gather.new.row ≡ true
fits c =
    let a = c.args in
    ap (bounded 9223372036854775807) (row c)
    ∙ combined-fits a.n a.m a.multipliers.now a.equations.now c.requires.m.2 c.requires.m.1 c.requires.within.0 c.requires.within.1

pub divides-requires : goal.divides-requires
divides-requires c = let h = bounded_at 9223372036854775807 c.gather.new.row c.args.n (fits c.before.before) in search (rules, h)

pub divides_all-requires : goal.divides_all-requires
divides_all-requires c = bounded-take 9223372036854775807 c.args.n c.gather.new.row (fits c.before.before.before.before)

-- what D divides of the constant
constant : (c : After-divides) → divides c.args.d (at (combined c.args.n c.args.multipliers.now (rows_of (suc c.args.n) c.args.m c.args.equations.now)) c.args.n) ≡ c.divides.result
constant c = ap (λ r. divides c.args.d (at r c.args.n)) (sym (row c.before.before.before)) ∙ (let h = c.divides.ensures in search (rules, h))

pub returns-then-not-divides : goal.returns-then-not-divides
returns-then-not-divides c =
    let a = c.args in
    let o = c.before.before.before in
    c.divides_all.ensures
    ∙ ap (λ r. divides_all a.d (take a.n r)) (row o.before.before.before)
    ∙ constant-left a.n a.multipliers.now a.d (rows_of (suc a.n) a.m a.equations.now) (constant o ∙ c.if-not-divides.true)

pub returns-else-not-divides : goal.returns-else-not-divides
returns-else-not-divides c =
    let a = c.args in
    rw c.if-not-divides.false (constant-divided a.n a.multipliers.now a.d (rows_of (suc a.n) a.m a.equations.now) (constant c.before.before ∙ c.if-not-divides.false))
