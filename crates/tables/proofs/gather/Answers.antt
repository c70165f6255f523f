-- `tables::gather` meets its contract: the row so far, gathered with the rows ahead, is the answer. Every row adds at most W times W.
use mathlib.Core.Path.{◌≡◌, refl, sym, ap, ◌∙◌}
use Prim.Native.Nat.{◌*◌, ◌≤◌}
use native.Mathlib.Nat.{add-sub_cancel_left}
use native.Mathlib.Omega.{arith}
use lib.IntN.{ℤ, pos, neg_ℤ, nat_abs}
use lib.ListN.{length}
use mir.Syntax.{w64}
use mir.Val.{to_z}
use Rattle.whole.specs.Limit.{W}
use Rattle.whole.proofs.Integers.{nat_abs-neg}
use Rattle.whole.proofs.Bounds.{bounds, sfits-by}
use Rattle.rows.specs.Row.{at, less, gathered}
use Rattle.rows.specs.Table.{row_at}
use Rattle.rows.proofs.Bounded.{bounded_at, bounded-back}
use Rattle.rows.proofs.Algebra.{length-less}
use Rattle.rows.proofs.TableLaws.{length-row_at}
use Rattle.tables.proofs.Rowed.{rows_start}
use Rattle.tables.proofs.Multiples.{less_zero, within-row, opposite-bits, gathered_none, gathered-more, sum-start, sum_fits, sum_past, sum_more}
use Rattle.tables.proofs.gather.Goals.{then-c-ne0, else-c-ne0}
use Rattle.tables.proofs.gather.Goals as goal

pub loop-r-init : goal.loop-r-init
loop-r-init c =
    let row = c.args.row.now in
    let cs = c.args.cs.now in
    (refl, sum-start row c.requires.2, ap (gathered row cs) (rows_start (length row) (length cs) c.args.table.now))

pub overflow_sub-c : goal.overflow_sub-c
overflow_sub-c c =
    let small : nat_abs (at c.args.cs.now c.loop-r.r) ≤ W = bounded_at W c.args.cs.now c.loop-r.r c.requires.3 in
    sfits-by (search bounds) tt

pub less_multiple-requires : goal.less_multiple-requires
less_multiple-requires c =
    let w = length c.args.row.now in
    let r = c.loop-r.r in
    let cs = c.args.cs.now in
    let t = c.args.table.now in
    let small = bounded_at W cs r c.requires.3 in
    let long : length (row_at w r t) ≡ w = length-row_at w (length cs) r t (omega arith) c.requires.0 in
    rw (add-sub_cancel_left (r * w) w, opposite-bits (at cs r) small, nat_abs-neg (at cs r))
    (long ∙ sym c.loop-r.invariant.0, small, sum_fits r c.loop-r.row (omega arith) c.loop-r.invariant.1, within-row w r t c.requires.4)

pub loop-r-preserved : goal.loop-r-preserved
loop-r-preserved c =
    let w = length c.args.row.now in
    let r = c.loop-r.r in
    let row = c.loop-r.row in
    let cs = c.args.cs.now in
    let t = c.args.table.now in
    let a = at cs r in
    let small = bounded_at W cs r c.requires.3 in
    let more = gathered-more row cs w r t (omega arith) in
    elim c.if-c-ne0.branch [
      | then-c-ne0 x ↦
          let done = rw (add-sub_cancel_left (r * w) w, opposite-bits a small) at x.less_multiple.ensures.row in
          rw (x.row-is, done) (
            length-less row (neg_ℤ a) (row_at w r t) ∙ c.loop-r.invariant.0,
            sum_more r row a (row_at w r t) small (within-row w r t c.requires.4) c.loop-r.invariant.1,
            sym more ∙ c.loop-r.invariant.2,
          )
      | else-c-ne0 x ↦
          let zero : a ≡ pos 0 = sym (bounded-back W cs r c.requires.3 (omega arith)) ∙ ap (to_z w64) x.if-c-ne0.false in
          let same : less row (neg_ℤ a) (row_at w r t) ≡ row = ap (λ (z : ℤ). less row (neg_ℤ z) (row_at w r t)) zero ∙ less_zero row (row_at w r t) in
          rw x.row-is (c.loop-r.invariant.0, sum_past r row c.loop-r.invariant.1, rw same at (sym more ∙ c.loop-r.invariant.2))
    ]

pub returns : goal.returns
returns c = sym (gathered_none c.loop-r.row c.args.cs.now (length c.args.row.now) c.loop-r.r c.args.table.now (omega arith)) ∙ c.loop-r.invariant.2
