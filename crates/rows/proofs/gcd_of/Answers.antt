-- `rows::gcd_of` meets its contract: the divisor found so far and that of the columns ahead have the row's as theirs.
use mathlib.Core.Path.{sym, ap, ◌∙◌}
use Prim.Native.Nat.{◌+◌}
use native.Mathlib.Omega.{arith}
use lib.IntN.{nat_abs}
use lib.ListN.{drop}
use Rattle.whole.specs.Limit.{W}
use Rattle.whole.specs.Gcd.{gcd}
use Rattle.whole.proofs.GcdLaws.{gcd-comm, gcd-assoc, gcd-zero-l, gcd-zero-r}
use Rattle.rows.specs.Row.{at, gcd_of}
use Rattle.rows.proofs.Bounded.{bounded_at, bounded-back}
use Rattle.rows.proofs.Loops.{gcd_of-none, gcd_of-more}
use Rattle.rows.proofs.gcd_of.Goals as goal

pub loop-z-init : goal.loop-z-init
loop-z-init c = gcd-zero-l (gcd_of c.args.row.now)

pub magnitude-requires : goal.magnitude-requires
magnitude-requires c =
    let row = c.args.row.now in
    let i = c.loop-z.z-index in
    rw (bounded-back W row i c.requires (omega arith)) (omega (arith, bounded_at W row i c.requires))

pub loop-z-preserved : goal.loop-z-preserved
loop-z-preserved c =
    let row = c.args.row.now in
    let i = c.loop-z.z-index in
    let g = c.loop-z.g in
    rw (c.gcd-g.ensures, c.magnitude.ensures, bounded-back W row i c.requires (omega arith))
    (ap (λ x. gcd x (gcd_of (drop (i + 1) row))) (gcd-comm (nat_abs (at row i)) g)
    ∙ gcd-assoc g (nat_abs (at row i)) (gcd_of (drop (i + 1) row))
    ∙ ap (gcd g) (sym (gcd_of-more row i (omega arith)))
    ∙ c.loop-z.invariant)

pub returns : goal.returns
returns c =
    let none = gcd_of-none c.args.row.now c.loop-z.z-index (omega arith) in
    sym (gcd-zero-r c.loop-z.g) ∙ ap (gcd c.loop-z.g) (sym none) ∙ c.loop-z.invariant
