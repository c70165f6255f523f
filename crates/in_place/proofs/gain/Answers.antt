-- `in_place::gain` meets its contract: a sweep that adds c times the other row's number to each number.
use mathlib.Core.Path.{◌≡◌, refl, ap₂, ◌∙◌}
use mathlib.Core.List.{[], ◌∷◌}
use Prim.Native.Nat.{◌+◌, ◌^◌}
use native.Mathlib.Omega.{arith}
use lib.IntN.{ℤ, neg_ℤ, ◌+ℤ◌, ◌-ℤ◌, ◌*ℤ◌}
use lib.ListN.{drop}
use mir.Syntax.{w64}
use mir.Val.{to_z, of_z}
use mir.Facts.{to_z-of_z}
use Rattle.whole.specs.Limit.{W}
use Rattle.whole.proofs.Reify.{reify, ring}
use Rattle.whole.proofs.Taken.{back}
use Rattle.rows.specs.Row.{at, less}
use Rattle.rows.proofs.Sweep.{swept_step, swept-end}
use Rattle.rows.proofs.Bounded.{bounded_at, bounded-back, swept-back}
use Rattle.rows.proofs.Loops.{less_none, less-more}
use Rattle.in_place.proofs.gain.Goals as goal

-- what the code adds is what the definition takes away
value : (x c y : ℤ) → x -ℤ neg_ℤ c *ℤ y ≡ x +ℤ c *ℤ y
value x c y = ring (x ∷ c ∷ y ∷ []) (search reify) (search reify) refl

pub more_product-requires : goal.more_product-requires
more_product-requires c =
    let row = c.args.row.now in
    let other = c.args.other.now in
    let j = c.loop-j.j in
    let own = swept-back (2 ^ 62) c.requires.2 (omega arith) c.loop-j.invariant in
    let others = bounded-back W other j c.requires.3 (omega arith) in
    rw (own, others, to_z-of_z c.ranges.c) (bounded_at (2 ^ 62) row j c.requires.2, c.requires.1, bounded_at W other j c.requires.3)

pub loop-j-preserved : goal.loop-j-preserved
loop-j-preserved c =
    let row = c.args.row.now in
    let other = c.args.other.now in
    let j = c.loop-j.j in
    let q = to_z w64 (of_z w64 c.args.c) in
    let v = at row j +ℤ q *ℤ at other j in
    let own = swept-back (2 ^ 62) c.requires.2 (omega arith) c.loop-j.invariant in
    let others = bounded-back W other j c.requires.3 (omega arith) in
    let put : to_z w64 (of_z w64 c.more_product.result) ≡ v =
    back c.more_product.result c.more_product.type_inv ∙ c.more_product.ensures ∙ ap₂ (λ (x y : ℤ). x +ℤ q *ℤ y) own others in
    let more = rw value at (less-more (neg_ℤ q) row other j (omega arith) (omega (arith, c.requires.0))) in
    rw put (swept_step v (less (drop (j + 1) row) (neg_ℤ q) (drop (j + 1) other)) (omega arith) more c.loop-j.invariant)

pub returns : goal.returns
returns c =
    let none = less_none (neg_ℤ (to_z w64 (of_z w64 c.args.c))) c.args.row.now c.args.other.now c.loop-j.j (omega arith) in
    rw (to_z-of_z c.ranges.c) at (swept-end (omega arith) none c.loop-j.invariant)
