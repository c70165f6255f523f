-- `stepping::stepping` meets its contract: how the loop begins, what a turn of it needs, and what it returns. `Places` has what holds
-- of the row in hand and after the calls of a turn.
use Rattle.std.proofs.Common.{rules, ◌≡◌, suc, ◌+◌, ◌-◌, ◌≤◌, ◌<◌, nat_abs, length, take, ℕ, ℤ, to_z, of_z, w64}
use mathlib.Core.Path.{sym, ap, refl, ◌∙◌}
use native.Mathlib.Omega.{arith}
use borrow.Author.Tests.{ne_eqb}
use lib.Seq.{length-take-le}
use Rattle.whole.specs.Limit.{W}
use Rattle.rows.specs.Row.{at}
use Rattle.rows.proofs.Bounded.{bounded-take, bounded_at}
use Rattle.stepping.specs.Worked.{bound_of}
use Rattle.stepping.proofs.Going.{comes_to_now, gone}
use Rattle.stepping.proofs.stepping.Answers.Places.{row_inside, few, column, nonzero, whole-bound, refused, made, next, not-shut, row-passed}
use Rattle.stepping.proofs.stepping.Goals as goal
mod Places

pub smallest-k-requires : goal.smallest-k-requires
smallest-k-requires c = bounded-take W c.args.n c.args.work.now.rows.now c.requires.ready.0.rows_within

pub offset_bounds-rows-k : goal.offset_bounds-rows-k
offset_bounds-rows-k c =
    omega (arith, column c.requires.ready.0 c.requires.in_bounds.0 c.requires.in_bounds.1 c.smallest-k.ensures, c.requires.ready.1.small.1)

pub slice_copy_out-lead : goal.slice_copy_out-lead
slice_copy_out-lead c =
    let w = c.requires.ready.0 in
    let some = c.requires.in_bounds.0 in
    omega (arith, column w some c.requires.in_bounds.1 c.smallest-k.ensures, row_inside w some)

pub most_steps-end-requires : goal.most_steps-end-requires
most_steps-end-requires c =
    let w = c.requires.ready.0 in
    let z = nonzero w c.requires.in_bounds.0 c.requires.in_bounds.1 c.smallest-k.ensures in
    let b = bounded_at W c.args.work.now.rows.now c.smallest-k.result w.rows_within in
    (search (rules, z), search (rules, b))

pub loop-init : goal.loop-init
loop-init c =
    let a = c.args in
    let r = c.requires in
    let whole = whole-bound r.ready.0 r.in_bounds.0 r.in_bounds.1 c.smallest-k.ensures c.most_steps-end.ensures in
    let bound : c.most_steps-end.result - 0 ≡ bound_of a.n (take (suc a.n) a.work.now.rows.now) = omega (arith, whole) in (
      search rules,
      search rules,
      search rules,
      record {
        working = r.ready.0;
        results = r.ready.1;
        some = r.in_bounds.0;
        alive = r.in_bounds.1;
        budget = ap (λ (l : ℕ). a.before + l) bound;
        same = ap (λ (l : ℕ). comes_to_now a.n a.m l a.before a.work.now a.state.now) bound;
      },
      c.smallest-k.ensures,
      search rules,
    )

pub returns-then-not-turn-clause-made : goal.returns-then-not-turn-clause-made
returns-then-not-turn-clause-made c =
    refused c.loop.work c.loop.state c.loop.invariant.3 (omega (arith, c.loop-test.true)) c.loop.invariant.4 c.turn.new.rows c.turn.new.state
    (rw c.if-not-turn.true at c.turn.ensures.made)

pub magnitude-requires : goal.magnitude-requires
magnitude-requires c =
    let b = bounded_at W c.loop.work.rows.now c.loop.k c.loop.invariant.3.working.rows_within in search (rules, b)

pub close-requires-clause-n_bound : goal.close-requires-clause-n_bound
close-requires-clause-n_bound c =
    let g = c.loop.invariant.3 in (
      g.results.small.1,
      g.results.small.2,
      column g.working g.some g.alive c.loop.invariant.4,
      omega (arith, c.magnitude.ensures, c.if-magnitude-eq1.true),
      g.working.divisors_good,
    )

pub close-requires-clause-work_value : goal.close-requires-clause-work_value
close-requires-clause-work_value c =
    let s =
    made c.loop.work c.loop.state c.loop.invariant.3 (omega (arith, c.loop-test.true)) c.loop.invariant.4 c.turn.new.rows c.turn.new.state
    c.turn.auto.rows c.turn.ensures.same.1 c.turn.ensures.rest (rw c.if-not-turn.false at c.turn.ensures.made) in
    (s.working.rows_within, s.working.multipliers_within)

pub overflow_add-result : goal.overflow_add-result
overflow_add-result c = omega (arith, c.loop.invariant.3.budget, c.requires.in_bounds, few c.requires.ready.0 c.requires.in_bounds.0)

pub returns-then-close-clause-made : goal.returns-then-close-clause-made
returns-then-close-clause-made c =
    let lead = c.loop.invariant.5 in
    row-passed c.loop.work c.loop.state c.loop.invariant.3 (omega (arith, c.loop-test.true)) c.loop.invariant.4 c.turn.new.rows c.turn.new.state
    c.turn.auto.rows c.turn.ensures.same.1 c.turn.ensures.rest (rw c.if-not-turn.false at c.turn.ensures.made)
    (rw (← lead) (sym c.magnitude.ensures ∙ c.if-magnitude-eq1.true)) c.close.new.work c.close.new.state
    (rw (c.if-close.true, lead) at c.close.ensures.made) c.close.ensures.rest

pub returns-then-magnitude-eq1-clause-made : goal.returns-then-magnitude-eq1-clause-made
returns-then-magnitude-eq1-clause-made c =
    let lead = c.loop.invariant.5 in
    not-shut c.loop.work c.loop.state c.loop.invariant.3 (omega (arith, c.loop-test.true)) c.loop.invariant.4 c.turn.new.rows c.turn.new.state
    c.turn.auto.rows c.turn.ensures.same.1 c.turn.ensures.rest (rw c.if-not-turn.false at c.turn.ensures.made)
    (rw (← lead) (sym c.magnitude.ensures ∙ c.if-magnitude-eq1.true)) c.close.new.work c.close.new.state
    (rw (c.if-close.false, lead) at c.close.ensures.made)

pub slice_bounds-smallest-end-in-loop : goal.slice_bounds-smallest-end-in-loop
slice_bounds-smallest-end-in-loop c =
    let h = row_inside c.loop.invariant.3.working c.loop.invariant.3.some in omega (arith, c.turn.auto.rows, h)

pub slice_bounds-smallest-end-in-loop-2 : goal.slice_bounds-smallest-end-in-loop-2
slice_bounds-smallest-end-in-loop-2 c =
    let h = row_inside c.loop.invariant.3.working c.loop.invariant.3.some in
    sym (length-take-le c.args.n c.turn.new.rows (omega (arith, c.turn.auto.rows, h)))

pub smallest-k-requires-in-loop : goal.smallest-k-requires-in-loop
smallest-k-requires-in-loop c =
    let s =
    made c.loop.work c.loop.state c.loop.invariant.3 (omega (arith, c.loop-test.true)) c.loop.invariant.4 c.turn.new.rows c.turn.new.state
    c.turn.auto.rows c.turn.ensures.same.1 c.turn.ensures.rest (rw c.if-not-turn.false at c.turn.ensures.made) in
    bounded-take W c.args.n c.turn.new.rows s.working.rows_within

pub offset_bounds-rows-k-in-loop : goal.offset_bounds-rows-k-in-loop
offset_bounds-rows-k-in-loop c =
    let g = c.loop.invariant.3 in
    let s =
    made c.loop.work c.loop.state c.loop.invariant.3 (omega (arith, c.loop-test.true)) c.loop.invariant.4 c.turn.new.rows c.turn.new.state
    c.turn.auto.rows c.turn.ensures.same.1 c.turn.ensures.rest (rw c.if-not-turn.false at c.turn.ensures.made) in
    omega (arith, column s.working g.some s.alive c.smallest-k-in-loop.ensures, g.results.small.1)

pub slice_copy_out-lead-in-loop : goal.slice_copy_out-lead-in-loop
slice_copy_out-lead-in-loop c =
    let g = c.loop.invariant.3 in
    let s =
    made c.loop.work c.loop.state c.loop.invariant.3 (omega (arith, c.loop-test.true)) c.loop.invariant.4 c.turn.new.rows c.turn.new.state
    c.turn.auto.rows c.turn.ensures.same.1 c.turn.ensures.rest (rw c.if-not-turn.false at c.turn.ensures.made) in
    omega (arith, column s.working g.some s.alive c.smallest-k-in-loop.ensures, row_inside s.working g.some)

pub overflow_add-count : goal.overflow_add-count
overflow_add-count c = omega (arith, c.loop.invariant.3.budget, c.requires.in_bounds, few c.requires.ready.0 c.requires.in_bounds.0)

pub loop-preserved : goal.loop-preserved
loop-preserved c =
    let z = at c.loop.work.rows.now c.loop.k in
    let lead = c.loop.invariant.5 in
    let other : nat_abs z ≡ 1 → ⊥ = rw (← lead) (λ e. c.if-magnitude-eq1.false (c.magnitude.ensures ∙ e)) in
    let one_less : c.most_steps-end.result - c.loop.counter - 1 ≡ c.most_steps-end.result - (c.loop.counter + 1) = omega arith in
    let on =
    next c.loop.work c.loop.state c.loop.invariant.3 (omega (arith, c.loop-test.true)) c.loop.invariant.4 c.turn.new.rows c.turn.new.state
    c.turn.auto.rows c.turn.ensures.same.1 c.turn.ensures.rest (rw c.if-not-turn.false at c.turn.ensures.made) (ne_eqb (nat_abs z) 1 other) in
    (search rules, search rules, search rules, rw one_less at on, c.smallest-k-in-loop.ensures, search rules)

pub returns-clause-made : goal.returns-clause-made
returns-clause-made c = gone c.loop.invariant.3 (omega (arith, c.loop-test.false))
