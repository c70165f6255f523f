-- `multiples::less_multiple` meets its contract: a sweep that takes q times the other row's number from each number. The signs so far tell
-- the answer for the columns behind; it and the one for the columns ahead make the answer for the row.
use mathlib.Core.Path.{◌≡◌, refl, ap, ◌∙◌}
use mathlib.Core.Bool.{and_assoc}
use Prim.Native.Nat.{◌+◌, ◌^◌, ◌≤◌}
use native.Mathlib.Omega.{arith}
use lib.IntN.{nat_abs, ◌-ℤ◌, ◌*ℤ◌}
use lib.ListN.{drop}
use lib.Signed.{non_neg}
use mir.Syntax.{w64}
use mir.Val.{to_z, of_z}
use mir.Facts.{to_z-of_z}
use Rattle.whole.specs.Limit.{W, within}
use Rattle.whole.proofs.Bounds.{bounds, bound_by}
use Rattle.whole.proofs.Taken.{back}
use Rattle.rows.specs.Row.{at, less, all_within}
use Rattle.rows.proofs.Sweep.{swept-start, swept_step, swept-end}
use Rattle.rows.proofs.Bounded.{bounded_at, bounded-back, bounded-cons, swept-back}
use Rattle.rows.proofs.Loops.{less_none, less-more}
use Rattle.multiples.proofs.Blended.{within_end}
use Rattle.multiples.proofs.Signs.{sign-test, sign-or}
use Rattle.multiples.proofs.less_multiple.Goals.{After-less_product-z}
use Rattle.multiples.proofs.less_multiple.Goals as goal

pub loop-i-init : goal.loop-i-init
loop-i-init c = (swept-start _ _, refl)

pub less_product-z-requires : goal.less_product-z-requires
less_product-z-requires c =
    let other = c.args.other.now in
    let i = c.loop-i.i in
    let own = swept-back (2 ^ 62) c.requires.2 (omega arith) c.loop-i.invariant.0 in
    let others = bounded-back W other i c.requires.3 (omega arith) in
    rw (own, others, to_z-of_z c.ranges.q) (bounded_at (2 ^ 62) c.args.row.now i c.requires.2, c.requires.1, bounded_at W other i c.requires.3)

-- the number that goes into the row
difference : (c : After-less_product-z)
    → to_z w64 (of_z w64 c.less_product-z.result) ≡ at c.args.row.now c.loop-i.i -ℤ to_z w64 (of_z w64 c.args.q) *ℤ at c.args.other.now c.loop-i.i
difference c =
    let product = c.less_product-z in
    let own = swept-back (2 ^ 62) c.requires.2 (omega arith) c.loop-i.invariant.0 in
    let others = bounded-back W c.args.other.now c.loop-i.i c.requires.3 (omega arith) in
    back product.result product.type_inv ∙ cc (product.ensures, own, others)

pub sides-signs-requires : goal.sides-signs-requires
sides-signs-requires c =
    let row = c.args.row.now in
    let other = c.args.other.now in
    let i = c.loop-i.i in
    let q = to_z w64 (of_z w64 c.args.q) in
    let first : nat_abs (at row i) ≤ 2 ^ 62 = bounded_at (2 ^ 62) row i c.requires.2 in
    let times : nat_abs c.args.q ≤ W = c.requires.1 in
    let second : nat_abs (at other i) ≤ W = bounded_at W other i c.requires.3 in
    rw (difference c) (bound_by {z = at row i -ℤ q *ℤ at other i} (search bounds) tt)

pub loop-i-preserved : goal.loop-i-preserved
loop-i-preserved c =
    let row = c.args.row.now in
    let other = c.args.other.now in
    let i = c.loop-i.i in
    let q = to_z w64 (of_z w64 c.args.q) in
    let v = at row i -ℤ q *ℤ at other i in
    let rest = less (drop (i + 1) row) q (drop (i + 1) other) in
    let more = less-more q row other i (omega arith) (omega (arith, c.requires.0)) in
    let put : to_z w64 (of_z w64 c.less_product-z.result) ≡ v = difference c.before in
    let side = c.sides-signs.result in
    let good : non_neg (to_z w64 (of_z w64 side)) ≡ within v = ap non_neg (back side c.sides-signs.type_inv) ∙ c.sides-signs.ensures ∙ ap within put in
    let signs = c.loop-i.signs-bits in
    let fits = non_neg (to_z w64 signs) in (
      rw put (swept_step v rest (omega arith) more c.loop-i.invariant.0),
      rw (sign-or signs (of_z w64 side), good, and_assoc fits (within v) (all_within rest), ← bounded-cons W v rest, ← more) c.loop-i.invariant.1,
    )

pub returns : goal.returns
returns c =
    let row = c.args.row.now in
    let other = c.args.other.now in
    let q = to_z w64 (of_z w64 c.args.q) in
    let signs = to_z w64 c.loop-i.signs-bits in
    let none = less_none q row other c.loop-i.i (omega arith) in
    rw (← to_z-of_z c.ranges.q, sign-test signs)
    record {
      row = swept-end (omega arith) none c.loop-i.invariant.0;
      fits = within_end (non_neg signs) _ (less row q other) none c.loop-i.invariant.1;
    }
