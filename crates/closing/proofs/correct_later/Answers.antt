-- `closing::correct_later` meets its contract: a sweep over the rows that the tables show, each with its multipliers and divisor. As long
-- as no row is refused, what is listed of the rows ahead decides for all of them.
use Rattle.std.proofs.Common.{◌<◌, ◌*◌, length}
use mathlib.Core.Path.{sym, ap, ◌∙◌}
use native.Mathlib.Nat.{add-sub_cancel_left}
use native.Mathlib.Omega.{arith}
use Rattle.rows.specs.Row.{all_within}
use Rattle.rows.proofs.TableLaws.{length-row_at}
use Rattle.tables.proofs.Multiples.{within-row}
use Rattle.rules.specs.Elimination.{Carried, corrected, listed_d}
use Rattle.steps.specs.Shown.{carry}
use Rattle.steps.proofs.CorrectedRow.{tried-made, tried-beyond}
use Rattle.closing.proofs.CorrectedRows.{standing, divisor-at, later-row, later-refused, later-step, later-end}
use Rattle.closing.proofs.correct_later.Goals as goal

-- ---- a turn: row r is there, and it is as it was at entry
pub correct-requires-clause-k_in_bounds : goal.correct-requires-clause-k_in_bounds
correct-requires-clause-k_in_bounds c =
    let a = c.args in
    let r = c.loop-r.r in
    let m = length a.reason.now in
    let n = length a.divisors.now in
    let l = c.loop-r.invariant in
    let there : r < n = omega (arith, c.loop-r-test.true, l.divisors-long) in
    let wide = length-row_at a.w n r c.loop-r.rows there l.rows_long in
    let long = length-row_at m n r c.loop-r.multipliers there l.multipliers-long in
    rw (add-sub_cancel_left (r * a.w) a.w, add-sub_cancel_left (r * m) m, ap (λ (e : Carried). e.divisor) (later-row there l))
    (omega (arith, wide, c.requires.rows_len.2), sym long, divisor-at a.divisors.now r there c.requires.rows_len.3, c.requires.rows_len.4)

pub correct-requires-clause-row_value : goal.correct-requires-clause-row_value
correct-requires-clause-row_value c =
    let a = c.args in
    let r = c.loop-r.r in
    let m = length a.reason.now in
    let there : r < length a.divisors.now = omega (arith, c.loop-r-test.true, c.loop-r.invariant.divisors-long) in
    let same = later-row there c.loop-r.invariant in
    rw (
      add-sub_cancel_left (r * a.w) a.w,
      add-sub_cancel_left (r * m) m,
      ap (λ (e : Carried). e.row) same,
      ap (λ (e : Carried). e.multipliers) same,
    )
    (within-row a.w r a.rows.now c.requires.rows_value.0, within-row m r a.multipliers.now c.requires.rows_value.1, c.requires.rows_value.2)

-- ---- a refusal
pub returns-in_default : goal.returns-in_default
returns-in_default c =
    let a = c.args in
    let r = c.loop-r.r in
    let m = length a.reason.now in
    let there : r < length a.divisors.now = omega (arith, c.loop-r-test.true, c.loop-r.invariant.divisors-long) in
    let e = standing a.w m a.rows.now a.multipliers.now a.divisors.now r in
    let told =
    rw (add-sub_cancel_left (r * a.w) a.w, add-sub_cancel_left (r * m) m, later-row there c.loop-r.invariant, c.in_default.is)
    at c.correct.ensures in
    let out = tried-beyond (all_within (listed_d a.k a.d a.reason.now e)) (corrected a.k a.d a.reason.now e) told in
    rw (later-refused there c.loop-r.invariant out)

pub loop-r-preserved : goal.loop-r-preserved
loop-r-preserved c =
    let a = c.args in
    let w = a.w in
    let r = c.loop-r.r in
    let m = length a.reason.now in
    let n = length a.divisors.now in
    let l = c.loop-r.invariant in
    let there : r < n = omega (arith, c.loop-r-test.true, l.divisors-long) in
    let d = c.in-Some.next in
    let row = c.correct.new.row in
    let multiples = c.correct.new.multipliers in
    let e = standing w m a.rows.now a.multipliers.now a.divisors.now r in
    let told = rw (add-sub_cancel_left (r * w) w, add-sub_cancel_left (r * m) m, later-row there l, c.in-Some.is) at c.correct.ensures in
    let done = tried-made (all_within (listed_d a.k a.d a.reason.now e)) (carry row multiples d) (corrected a.k a.d a.reason.now e) told in
    let kept = rw (add-sub_cancel_left (r * w) w, add-sub_cancel_left (r * m) m) at c.correct.auto in
    rw (add-sub_cancel_left (r * w) w, add-sub_cancel_left (r * m) m)
    (later-step there l row multiples d (kept.row ∙ length-row_at w n r c.loop-r.rows there l.rows_long)
    (kept.multipliers ∙ length-row_at m n r c.loop-r.multipliers there l.multipliers-long) done.0 done.1)

-- ---- the end
pub returns : goal.returns
returns c =
    let done = later-end (omega (arith, c.loop-r-test.false, c.loop-r.invariant.divisors-long)) c.loop-r.invariant in
    rw (done.0, done.1)
