-- `rows::divide` meets its contract: a sweep that puts each number's quotient in its place.
use mathlib.Core.Path.{◌≡◌, ap, ◌∙◌}
use Prim.Native.Nat.{◌+◌}
use native.Mathlib.Omega.{arith}
use lib.IntN.{ℤ, nat_abs}
use lib.ListN.{drop}
use mir.Syntax.{w64}
use mir.Val.{to_z, of_z}
use mir.Facts.{to_z-of_z}
use Rattle.whole.specs.Limit.{W}
use Rattle.whole.specs.Quotient.{exactly}
use Rattle.whole.proofs.Taken.{back}
use Rattle.rows.specs.Row.{at, divided}
use Rattle.rows.proofs.Sweep.{swept_step, swept-end}
use Rattle.rows.proofs.Bounded.{bounded_at, swept-back}
use Rattle.rows.proofs.Loops.{divided-none, divided-more}
use Rattle.rows.proofs.divide.Goals as goal

pub exactly-requires : goal.exactly-requires
exactly-requires c =
    let read = swept-back W c.requires.0 (omega arith) c.loop-z.invariant in
    let small = bounded_at W c.args.row.now c.loop-z.z-index c.requires.0 in
    (omega (arith, small, ap nat_abs read), rw (to_z-of_z c.ranges.g) c.requires.1)

pub loop-z-preserved : goal.loop-z-preserved
loop-z-preserved c =
    let row = c.args.row.now in
    let i = c.loop-z.z-index in
    let g = to_z w64 (of_z w64 c.args.g) in
    let read = swept-back W c.requires.0 (omega arith) c.loop-z.invariant in
    let put : to_z w64 (of_z w64 c.exactly.result) ≡ exactly (at row i) g =
    back c.exactly.result c.exactly.type_inv ∙ c.exactly.ensures ∙ ap (λ (z : ℤ). exactly z g) read in
    rw put (swept_step (exactly (at row i) g) (divided g (drop (i + 1) row)) (omega arith) (divided-more g row i (omega arith)) c.loop-z.invariant)

pub returns : goal.returns
returns c =
    let none = divided-none (to_z w64 (of_z w64 c.args.g)) c.args.row.now c.loop-z.z-index (omega arith) in
    rw (to_z-of_z c.ranges.g) at (swept-end (omega arith) none c.loop-z.invariant)
