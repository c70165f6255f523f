-- `closing::close` meets its contract: the reason is a times the first row's multipliers, which stay within the limit as a is 1, 0 or -1; the
-- rows behind the first are corrected, and where all of them fit the reason is noted. The first row stays as it is.
use Rattle.std.proofs.Common.{◌≡◌, suc, ◌+◌, ◌≤◌, ◌*◌, pos, length, ℕ, List, ◌++◌, ℤ, take, drop, replicate, get_or}
use mathlib.Core.Path.{refl, sym, ap, ◌∙◌}
use native.Mathlib.Numerals.{add-one}
use native.Mathlib.Omega.{arith}
use lib.Seq.{take_at, length-take-le}
use mir.Facts.{to_z-of_z}
use Rattle.whole.specs.Limit.{W}
use Rattle.rows.specs.Row.{scaled}
use Rattle.rows.specs.Table.{rows_of}
use Rattle.rows.proofs.Algebra.{length-scaled}
use Rattle.rows.proofs.Bounded.{bounded-take, bounded-drop}
use Rattle.steps.specs.Shown.{carried_of, later_of}
use Rattle.reasons.proofs.ShutRows.{bounded-scaled}
use Rattle.closing.proofs.ShutTables.{rest-lent, rest_back, rows_behind, first-inside, divisors-first, divisors-behind, shut_none, shut-made}
use Rattle.closing.proofs.close.Goals as goal

-- the reason, in the first part of a list of 32 numbers
module _ (m : ℕ) (a : ℤ) (l : List ℤ) (inside : m ≤ length l) where
  reason-length : length (scaled a (take m l)) ≡ m
  reason-length = length-scaled a (take m l) ∙ length-take-le m l inside

  scratch-is : (part : List ℤ) → part ≡ scaled a (take m l) → take m (part ++ drop m (replicate 32 (pos 0))) ≡ scaled a (take m l)
  scratch-is part e = take_at part (drop m (replicate 32 (pos 0))) m (ap length e ∙ reason-length) ∙ e

pub scale_into-requires : goal.scale_into-requires
scale_into-requires c =
    let m = c.args.m in
    let work = c.args.work.now in
    let l = work.multipliers.now in
    let long = length-take-le m l (first-inside m l work.divisors.now c.requires.work_len.2 c.requires.work_len.1) in
    rw (to_z-of_z c.ranges.a)
    (length-take-le m (replicate 32 (pos 0)) (omega arith) ∙ sym long, bounded-take W m l c.requires.work_value.1, omega arith)

pub correct_later-requires-clause-rows_len : goal.correct_later-requires-clause-rows_len
correct_later-requires-clause-rows_len c =
    let a = c.args in
    let w = a.n + 1 in
    let m = a.m in
    let l = a.work.now.multipliers.now in
    let ds = a.work.now.divisors.now in
    let r = c.requires.work_len in
    let inside = first-inside m l ds r.2 r.1 in
    let scratch = scratch-is m a.a l inside c.scale_into.new.into (rw (to_z-of_z c.ranges.a) at c.scale_into.ensures) in
    let wide : length a.work.now.rows.now ≡ length ds * w = rw (add-one a.n) r.0 in
    rw (rest-lent w a.work.now.rows.now, rest-lent m l, rest-lent 1 ds, scratch, reason-length m a.a l inside) (
      rows_behind w a.work.now.rows.now ds r.2 wide,
      rows_behind m l ds r.2 r.1,
      omega arith,
      divisors-behind ds c.requires.n_bound.4,
      divisors-first ds r.2 c.requires.n_bound.4,
    )

pub correct_later-requires-clause-rows_value : goal.correct_later-requires-clause-rows_value
correct_later-requires-clause-rows_value c =
    let a = c.args in
    let w = a.n + 1 in
    let m = a.m in
    let rows = a.work.now.rows.now in
    let l = a.work.now.multipliers.now in
    let v = c.requires.work_value in
    let inside = first-inside m l a.work.now.divisors.now c.requires.work_len.2 c.requires.work_len.1 in
    let scratch = scratch-is m a.a l inside c.scale_into.new.into (rw (to_z-of_z c.ranges.a) at c.scale_into.ensures) in
    rw (rest-lent w rows, rest-lent m l, scratch)
    (bounded-drop W w rows v.0, bounded-drop W m l v.1, bounded-scaled W a.a (take m l) c.requires.n_bound.3 (bounded-take W m l v.1))

pub returns-then-not-correct_later-clause-made : goal.returns-then-not-correct_later-clause-made
returns-then-not-correct_later-clause-made c =
    let a = c.args in
    let m = a.m in
    let rows = a.work.now.rows.now in
    let l = a.work.now.multipliers.now in
    let ds = a.work.now.divisors.now in
    let inside = first-inside m l ds c.requires.work_len.2 c.requires.work_len.1 in
    let scratch = scratch-is m a.a l inside c.scale_into.new.into (rw (to_z-of_z c.ranges.a) at c.scale_into.ensures) in
    let ran =
    rw (rest-lent (a.n + 1) rows, rest-lent m l, rest-lent 1 ds, scratch, reason-length m a.a l inside, add-one a.n)
    at c.correct_later.ensures in
    let new = c.correct_later.new in
    shut_none a.k (get_or ds 0 0) (scaled a.a (take m l)) (later_of a.n m rows l ds) (carried_of (suc a.n) m new.rows new.multipliers new.divisors)
    c.correct_later.result ran a.state.now.marks.now (rows_of (suc m) a.n a.state.now.reasons.now) c.if-not-correct_later.true

pub note_reason-requires : goal.note_reason-requires
note_reason-requires c =
    let a = c.args in
    let m = a.m in
    let l = a.work.now.multipliers.now in
    let ds = a.work.now.divisors.now in
    let inside = first-inside m l ds c.requires.work_len.2 c.requires.work_len.1 in
    let scratch = scratch-is m a.a l inside c.scale_into.new.into (rw (to_z-of_z c.ranges.a) at c.scale_into.ensures) in
    rw (scratch, reason-length m a.a l inside, c.requires.state_len.0)
    (omega arith, c.requires.state_len.1, omega arith, omega arith, divisors-first ds c.requires.work_len.2 c.requires.n_bound.4)

pub returns-clause-made : goal.returns-clause-made
returns-clause-made c =
    let a = c.args in
    let m = a.m in
    let rows = a.work.now.rows.now in
    let l = a.work.now.multipliers.now in
    let ds = a.work.now.divisors.now in
    let r = c.requires.work_len in
    let inside = first-inside m l ds r.2 r.1 in
    let scratch = scratch-is m a.a l inside c.scale_into.new.into (rw (to_z-of_z c.ranges.a) at c.scale_into.ensures) in
    let ran =
    rw (rest-lent (a.n + 1) rows, rest-lent m l, rest-lent 1 ds, scratch, reason-length m a.a l inside, add-one a.n)
    at c.correct_later.ensures in
    let new = c.correct_later.new in
    let noted = rw (scratch, reason-length m a.a l inside, c.requires.state_len.0) at c.note_reason.ensures in
    let row_inside = first-inside (suc a.n) rows ds r.2 r.0 in
    rw (add-one a.n, rest_back (suc a.n) rows new.rows row_inside, rest_back m l new.multipliers inside, rest_back 1 ds new.divisors r.2)
    (shut-made a.k (get_or ds 0 0) (scaled a.a (take m l)) (later_of a.n m rows l ds)
    (carried_of (suc a.n) m new.rows new.multipliers new.divisors) c.correct_later.result ran a.state.now.marks.now
    (rows_of (suc m) a.n a.state.now.reasons.now) _ _ _ c.if-not-correct_later.false refl noted.marks noted.reasons)
