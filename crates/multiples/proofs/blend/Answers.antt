-- `multiples::blend` meets its contract: a sweep that puts p times each number less q times the other row's number in its place. The answer
-- so far and the one for the columns ahead make the answer for the row.
use mathlib.Core.Path.{◌≡◌, refl, ap, ◌∙◌}
use mathlib.Core.Bool.{and_assoc}
use Prim.Native.Nat.{◌+◌, ◌*◌, ◌≤◌}
use native.Mathlib.Nat.{mul-le-mul}
use native.Mathlib.Omega.{arith}
use lib.IntN.{nat_abs, ◌-ℤ◌, ◌*ℤ◌}
use lib.ListN.{drop}
use mir.Syntax.{w64}
use mir.Val.{to_z, of_z}
use mir.Facts.{to_z-of_z}
use Rattle.whole.specs.Limit.{W, within}
use Rattle.whole.proofs.Integers.{nat_abs-*}
use Rattle.whole.proofs.Taken.{back}
use Rattle.rows.specs.Row.{at, less, scaled, all_within}
use Rattle.rows.proofs.Sweep.{swept-start, swept_step, swept-end}
use Rattle.rows.proofs.Bounded.{bounded_at, bounded-back, bounded-cons, swept-back}
use Rattle.multiples.proofs.Blended.{blend-none, blend-more, within_end}
use Rattle.multiples.proofs.blend.Goals.{After-product}
use Rattle.multiples.proofs.blend.Goals as goal

pub loop-i-init : goal.loop-i-init
loop-i-init c = (swept-start _ _, refl)

pub product-requires : goal.product-requires
product-requires c =
    let own = swept-back W c.requires.3 (omega arith) c.loop-i.invariant.0 in
    rw (own, to_z-of_z c.ranges.p) (c.requires.1, bounded_at W c.args.row.now c.loop-i.i c.requires.3)

-- the product that goes into the difference
multiple : (c : After-product) → to_z w64 (of_z w64 c.product.result) ≡ to_z w64 (of_z w64 c.args.p) *ℤ at c.args.row.now c.loop-i.i
multiple c =
    let own = swept-back W c.requires.3 (omega arith) c.loop-i.invariant.0 in
    back c.product.result c.product.type_inv ∙ cc (c.product.ensures, own)

pub less_product-z-requires : goal.less_product-z-requires
less_product-z-requires c =
    let row = c.args.row.now in
    let other = c.args.other.now in
    let i = c.loop-i.i in
    let others = bounded-back W other i c.requires.4 (omega arith) in
    let size : nat_abs (c.args.p *ℤ at row i) ≤ W * W = rw nat_abs-* (mul-le-mul c.requires.1 (bounded_at W row i c.requires.3)) in
    rw (multiple c.before, others, to_z-of_z c.ranges.p, to_z-of_z c.ranges.q) (omega arith, c.requires.2, bounded_at W other i c.requires.4)

pub loop-i-preserved : goal.loop-i-preserved
loop-i-preserved c =
    let row = c.args.row.now in
    let other = c.args.other.now in
    let i = c.loop-i.i in
    let p = to_z w64 (of_z w64 c.args.p) in
    let q = to_z w64 (of_z w64 c.args.q) in
    let v = p *ℤ at row i -ℤ q *ℤ at other i in
    let rest = less (scaled p (drop (i + 1) row)) q (drop (i + 1) other) in
    let more = blend-more p q row other i (omega arith) (omega (arith, c.requires.0)) in
    let difference = c.less_product-z in
    let others = bounded-back W other i c.requires.4 (omega arith) in
    let put : to_z w64 (of_z w64 difference.result) ≡ v =
    back difference.result difference.type_inv ∙ cc (difference.ensures, multiple c.before.before.before, others) in
    let good : c.within-fits.result ≡ within v = c.within-fits.ensures ∙ ap within put in (
      rw put (swept_step v rest (omega arith) more c.loop-i.invariant.0),
      rw (good, and_assoc c.loop-i.fits (within v) (all_within rest), ← bounded-cons W v rest, ← more) c.loop-i.invariant.1,
    )

pub returns : goal.returns
returns c =
    let row = c.args.row.now in
    let other = c.args.other.now in
    let p = to_z w64 (of_z w64 c.args.p) in
    let q = to_z w64 (of_z w64 c.args.q) in
    let none = blend-none p q row other c.loop-i.i (omega arith) in
    rw (← to_z-of_z c.ranges.p, ← to_z-of_z c.ranges.q)
    record {
      row = swept-end (omega arith) none c.loop-i.invariant.0;
      fits = within_end c.loop-i.fits _ (less (scaled p row) q other) none c.loop-i.invariant.1;
    }
