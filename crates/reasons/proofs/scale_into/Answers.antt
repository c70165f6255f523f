-- `reasons::scale_into` meets its contract: a sweep that writes c times each number of one row into another.
use mathlib.Core.Path.{◌≡◌, ap, ◌∙◌}
use Prim.Native.Nat.{◌+◌}
use native.Mathlib.Omega.{arith}
use lib.IntN.{ℤ, ◌*ℤ◌}
use lib.ListN.{drop}
use mir.Syntax.{w64}
use mir.Val.{to_z, of_z}
use mir.Facts.{to_z-of_z}
use Rattle.whole.specs.Limit.{W}
use Rattle.whole.proofs.Taken.{back}
use Rattle.rows.specs.Row.{at, scaled}
use Rattle.rows.proofs.Sweep.{swept_step, swept-end}
use Rattle.rows.proofs.Bounded.{bounded_at, bounded-back}
use Rattle.reasons.proofs.ShutRows.{scaled-none, scaled-more}
use Rattle.reasons.proofs.scale_into.Goals as goal

pub product-requires : goal.product-requires
product-requires c =
    let row = c.args.row.now in
    let i = c.loop-i.i in
    rw (to_z-of_z c.ranges.c, bounded-back W row i c.requires.1 (omega arith)) (c.requires.2, bounded_at W row i c.requires.1)

pub loop-i-preserved : goal.loop-i-preserved
loop-i-preserved c =
    let row = c.args.row.now in
    let i = c.loop-i.i in
    let z = to_z w64 (of_z w64 c.args.c) in
    let read = bounded-back W row i c.requires.1 (omega arith) in
    let put : to_z w64 (of_z w64 c.product.result) ≡ z *ℤ at row i =
    back c.product.result c.product.type_inv ∙ c.product.ensures ∙ ap (λ (x : ℤ). z *ℤ x) read in
    rw put (swept_step (z *ℤ at row i) (scaled z (drop (i + 1) row)) (omega arith) (scaled-more z row i (omega arith)) c.loop-i.invariant)

pub returns : goal.returns
returns c =
    let none = scaled-none (to_z w64 (of_z w64 c.args.c)) c.args.row.now c.loop-i.i (omega arith) in
    rw (to_z-of_z c.ranges.c) at (swept-end (omega arith) none c.loop-i.invariant)
