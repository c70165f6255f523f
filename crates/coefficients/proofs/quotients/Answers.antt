-- `coefficients::quotients` meets its contract: a sweep that writes the quotient of each number of one row into another.
use Rattle.std.proofs.Common.{◌≡◌, ◌+◌, drop, ℤ, ap, ◌∙◌, arith, to_z-of_z, w64, to_z, of_z}
use Rattle.whole.specs.Limit.{W}
use Rattle.whole.specs.Quotient.{quotient}
use Rattle.whole.proofs.Bounds.{bits-le}
use Rattle.whole.proofs.Taken.{back}
use Rattle.rows.specs.Row.{at, quotients}
use Rattle.rows.proofs.Sweep.{swept_step, swept-end}
use Rattle.rows.proofs.Bounded.{bounded_at, bounded-back}
use Rattle.rows.proofs.Loops.{quotients-none, quotients-more}
use Rattle.coefficients.proofs.quotients.Goals as goal

pub quotient-requires : goal.quotient-requires
quotient-requires c =
    let row = c.args.row.now in
    let i = c.loop-i.i in
    let plain = to_z-of_z c.ranges.a in
    (omega (arith, bits-le w64 (at row i), bounded_at W row i c.requires.1), rw plain c.requires.2, rw plain c.requires.3)

pub loop-i-preserved : goal.loop-i-preserved
loop-i-preserved c =
    let row = c.args.row.now in
    let i = c.loop-i.i in
    let a = to_z w64 (of_z w64 c.args.a) in
    let read = bounded-back W row i c.requires.1 (omega arith) in
    let put : to_z w64 (of_z w64 c.quotient.result) ≡ quotient (at row i) a =
    back c.quotient.result c.quotient.type_inv ∙ c.quotient.ensures ∙ ap (λ (z : ℤ). quotient z a) read in
    rw put (swept_step (quotient (at row i) a) (quotients a (drop (i + 1) row)) (omega arith) (quotients-more a row i (omega arith)) c.loop-i.invariant)

pub returns : goal.returns
returns c =
    let none = quotients-none (to_z w64 (of_z w64 c.args.a)) c.args.row.now c.loop-i.i (omega arith) in
    rw (to_z-of_z c.ranges.a) at (swept-end (omega arith) none c.loop-i.invariant)
