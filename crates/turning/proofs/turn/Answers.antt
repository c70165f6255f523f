-- `turning::turn` meets its contract: the smallest coefficient of the first row is not 0, as their gcd is not, and with the quotients by it,
-- 0 at its own column, each of the three tables is what the step makes of it, up to the first with a number beyond the limit.
use Rattle.std.proofs.Common.{rules, ◌≡◌, suc, ◌+◌, pos, length, take, to_z, of_z, w64, ℤ, List, replicate}
use mathlib.Core.Path.{sym, ◌∙◌}
use native.Mathlib.Numerals.{add-one}
use native.Mathlib.Omega.{arith}
use lib.Seq.{length-take-le}
use Rattle.whole.specs.Limit.{W}
use Rattle.rows.specs.Row.{at}
use Rattle.rows.proofs.Bounded.{bounded_at, bounded-take}
use Rattle.turning.proofs.TurnedStep.{picked, picked-within, step_is, rows-far, substitution-far, turned-made}
use Rattle.turning.proofs.turn.Answers.Places.{first-row, inside, nonzero, picked-length, picked-zero, scratch-is}
use Rattle.turning.proofs.turn.Goals as goal
mod Places

pub offset_bounds-rows-k : goal.offset_bounds-rows-k
offset_bounds-rows-k c = let h = inside _ _ _ _ c.requires.rows_len c.requires.rows_value in omega arith

pub slice_copy_out-a : goal.slice_copy_out-a
slice_copy_out-a c =
    let h = inside _ _ _ _ c.requires.rows_len c.requires.rows_value in omega (arith, first-row _ _ 0 _ c.requires.rows_len)

pub quotients-requires : goal.quotients-requires
quotients-requires c =
    let n = c.args.n in
    let t = c.args.rows.now in
    let h = first-row _ _ 0 _ c.requires.rows_len in
    let b = bounded_at W t c.args.k c.requires.rows_value.0 in
    let z = nonzero _ _ _ _ c.requires.rows_len c.requires.rows_value in (
      length-take-le (n + 1) (replicate 33 (pos 0)) (omega arith) ∙ sym (length-take-le (n + 1) t (omega (arith, h))),
      bounded-take W (n + 1) t c.requires.rows_value.0,
      search (rules, b),
      search (rules, z),
    )

pub offset_bounds-q-k : goal.offset_bounds-q-k
offset_bounds-q-k c = let h = inside _ _ _ _ c.requires.rows_len c.requires.rows_value in omega arith

pub array_set_of-q : goal.array_set_of-q
array_set_of-q c = let h = inside _ _ _ _ c.requires.rows_len c.requires.rows_value in omega arith

pub put_in-requires : goal.put_in-requires
put_in-requires c =
    let a = c.args in
    let n = a.n in
    let t = a.rows.now in
    let len = c.requires.rows_len in
    let v = c.requires.rows_value in
    let scratch = scratch-is n a.count a.k t len v c.quotients.new.into c.quotients.ensures in
    rw (scratch, add-one n) (len.0, picked-length n a.count a.k t len v, omega (arith, inside n a.count a.k t len v), v.0, picked-within n a.k t v.0)

pub put_in-requires-2 : goal.put_in-requires-2
put_in-requires-2 c =
    let a = c.args in
    let n = a.n in
    let t = a.rows.now in
    let len = c.requires.rows_len in
    let v = c.requires.rows_value in
    let scratch = scratch-is n a.count a.k t len v c.quotients.new.into c.quotients.ensures in
    rw (scratch, add-one n) (
      c.requires.state_len.0,
      picked-length n a.count a.k t len v,
      omega (arith, inside n a.count a.k t len v),
      c.requires.state_value.0,
      picked-within n a.k t v.0,
    )

pub way_back-requires : goal.way_back-requires
way_back-requires c =
    let a = c.args in
    let n = a.n in
    let t = a.rows.now in
    let len = c.requires.rows_len in
    let v = c.requires.rows_value in
    let scratch = scratch-is n a.count a.k t len v c.quotients.new.into c.quotients.ensures in
    rw scratch (
      c.requires.state_len.1,
      len.2,
      inside n a.count a.k t len v,
      picked-length n a.count a.k t len v,
      c.requires.state_value.1,
      picked-within n a.k t v.0,
      picked-zero n a.count a.k t len v,
    )

pub returns-then-not-put_in-clause-made : goal.returns-then-not-put_in-clause-made
returns-then-not-put_in-clause-made c =
    let a = c.args in
    let n = a.n in
    let t = a.rows.now in
    let len = c.requires.rows_len in
    let v = c.requires.rows_value in
    let scratch = scratch-is n a.count a.k t len v c.quotients.new.into c.quotients.ensures in
    let one = rw (scratch, add-one n) at c.put_in.ensures in
    rw (step_is n a.k t v.2 (omega (arith, inside n a.count a.k t len v)))
    (rows-far n a.count a.k (at t a.k) (picked n a.k t) t a.state.now.substitution.now a.state.now.way_back.now
    c.put_in.new.table a.state.now.substitution.now a.state.now.way_back.now (sym one.fits ∙ c.if-not-put_in.true))

pub returns-then-not-put_in-2-clause-made : goal.returns-then-not-put_in-2-clause-made
returns-then-not-put_in-2-clause-made c =
    let a = c.args in
    let n = a.n in
    let t = a.rows.now in
    let len = c.requires.rows_len in
    let v = c.requires.rows_value in
    let scratch = scratch-is n a.count a.k t len v c.quotients.new.into c.quotients.ensures in
    let two = rw (scratch, add-one n) at c.put_in-2.ensures in
    rw (step_is n a.k t v.2 (omega (arith, inside n a.count a.k t len v)))
    (substitution-far n a.count a.k (at t a.k) (picked n a.k t) t a.state.now.substitution.now a.state.now.way_back.now
    c.put_in.new.table c.put_in-2.new.table a.state.now.way_back.now (sym two.fits ∙ c.if-not-put_in-2.true))

pub returns-clause-made : goal.returns-clause-made
returns-clause-made c =
    let a = c.args in
    let n = a.n in
    let t = a.rows.now in
    let len = c.requires.rows_len in
    let v = c.requires.rows_value in
    let scratch = scratch-is n a.count a.k t len v c.quotients.new.into c.quotients.ensures in
    let one = rw (scratch, add-one n) at c.put_in.ensures in
    let two = rw (scratch, add-one n) at c.put_in-2.ensures in
    let three = rw scratch at c.way_back.ensures in
    rw (step_is n a.k t v.2 (omega (arith, inside n a.count a.k t len v)))
    (turned-made n a.count a.k (at t a.k) (picked n a.k t) t a.state.now.substitution.now a.state.now.way_back.now
    c.put_in.new.table c.put_in-2.new.table c.way_back.new.table c.way_back.result three len.0 c.requires.state_len.0 one.rows two.rows
    (sym one.fits ∙ c.if-not-put_in.false)
    (sym two.fits ∙ c.if-not-put_in-2.false))
