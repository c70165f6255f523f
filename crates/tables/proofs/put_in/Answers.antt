-- `tables::put_in` meets its contract: a sweep over the rows. A row with 0 at column k is as it has to be already, and is within the
-- limit as the table is.
use mathlib.Core.Path.{◌≡◌, sym, ap, ◌∙◌}
use mathlib.Core.Bool.{and_assoc}
use mathlib.Core.List.{List, ◌++◌}
use Prim.Native.Nat.{◌+◌, ◌*◌, ◌^◌}
use native.Mathlib.Nat.{add-sub_cancel_left}
use native.Mathlib.Omega.{arith}
use lib.IntN.{ℤ}
use lib.ListN.{length}
use mir.Syntax.{w64}
use mir.Val.{to_z}
use Rattle.whole.specs.Limit.{W}
use Rattle.rows.specs.Row.{at, all_within}
use Rattle.rows.specs.Table.{row_at}
use Rattle.rows.proofs.Bounded.{bounded_at, bounded-back, bounded-mono, bounded-append}
use Rattle.rows.proofs.Algebra.{length-less}
use Rattle.rows.proofs.TableLaws.{length-row_at}
use Rattle.tables.proofs.Rowed.{ahead_of, whole_of, ahead-start, ahead_none, ahead_more, rowed-start, rowed-row, rowed-step, rowed-end}
use Rattle.multiples.proofs.Blended.{within_end}
use Rattle.tables.proofs.Multiples.{without, without-none, within-row, within-past}
use Rattle.tables.proofs.put_in.Goals.{then-b-ne0, else-b-ne0}
use Rattle.tables.proofs.put_in.Goals as goal

pub loop-r-init : goal.loop-r-init
loop-r-init c =
    let a = c.args in
    let f = without a.k a.q.now in
    (rowed-start f a.w a.count a.table.now, ap all_within (ahead-start f a.w a.count a.table.now))

pub less_multiple-fits-requires : goal.less_multiple-fits-requires
less_multiple-fits-requires c =
    let a = c.args in
    let r = c.loop-r.r in
    let row = row_at a.w r a.table.now in
    let inside = within-row a.w r a.table.now c.requires.3 in
    let long : length row ≡ a.w = length-row_at a.w a.count r a.table.now c.loop-r-test.true c.requires.0 in
    let kept = rowed-row (without a.k a.q.now) a.w a.count r c.loop-r.invariant.0 in
    rw (add-sub_cancel_left (r * a.w) a.w, kept, bounded-back W row a.k inside (omega arith))
    (c.requires.1 ∙ sym long, bounded_at W row a.k inside, bounded-mono W (2 ^ 62) row (omega arith) inside, c.requires.4)

pub loop-r-preserved : goal.loop-r-preserved
loop-r-preserved c =
    let k = c.args.k in
    let w = c.args.w in
    let count = c.args.count in
    let r = c.loop-r.r in
    let t = c.args.table.now in
    let q = c.args.q.now in
    let f = without k q in
    let row = row_at w r t in
    let rest = ahead_of f w count (r + 1) t in
    let h = c.loop-r-test.true in
    let sweep = c.loop-r.invariant.0 in
    let inside = within-row w r t c.requires.3 in
    let read = bounded-back W row k inside (omega arith) in
    let long = length-row_at w count r t h c.requires.0 in
    let more = ahead_more f w count r t h in
    let size = add-sub_cancel_left (r * w) w in
    let kept = rowed-row f w count r sweep in
    elim c.if-b-ne0.branch [
      | then-b-ne0 x ↦
          let done = rw (size, kept, read) at x.less_multiple-fits.ensures in
          let longer = ap length done.row ∙ length-less row (at row k) q ∙ long in (
            rw (x.table-is, size) (rowed-step f w count r h sweep _ c.requires.0 done.row longer),
            rw (x.fits-is, done.fits, and_assoc c.loop-r.fits (all_within (f row)) (all_within rest), ← bounded-append W (f row) rest, ← more)
                c.loop-r.invariant.1,
          )
      | else-b-ne0 x ↦
          let zero = rw (size, kept) at x.if-b-ne0.false in
          let same : f row ≡ row = without-none k q row (sym read ∙ ap (to_z w64) zero) in
          let answer : all_within (ahead_of f w count r t) ≡ all_within rest =
          ap all_within (more ∙ ap (λ (m : List ℤ). m ++ rest) same) ∙ within-past row rest inside in (
            rw (x.table-is, size, kept) (rowed-step f w count r h sweep row c.requires.0 (sym same) long),
            rw (x.fits-is, ← answer) c.loop-r.invariant.1,
          )
    ]

pub returns : goal.returns
returns c =
    let a = c.args in
    let r = c.loop-r.r in
    let f = without a.k a.q.now in
    let none = ahead_none f a.w a.count r a.table.now (omega arith) in
    record {
      rows = rowed-end f a.w a.count r (omega arith) c.requires.0 c.loop-r.invariant.0;
      fits = within_end c.loop-r.fits _ (whole_of f a.w a.count a.table.now) none c.loop-r.invariant.1;
    }
