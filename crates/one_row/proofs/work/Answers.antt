-- `one_row::work` meets its contract: the row is done, or (a) reduces it, which may be refused; then (b) finds a conflict, or the steps
-- of (c) and (d) begin. `Places` has what holds after the calls.
use Rattle.std.proofs.Common.{rules, ◌≡◌, suc, ◌+◌, ◌≤◌, take}
use mathlib.Core.Path.{sym, ◌∙◌}
use native.Mathlib.Nat.{mul-le-mul}
use native.Mathlib.Numerals.{add-one}
use native.Mathlib.Omega.{arith}
use Rattle.whole.specs.Limit.{W}
use Rattle.rows.proofs.Bounded.{bounded_at, bounded-take, bounded-gcd}
use Rattle.stepping.specs.Worked.{hand_now, later_now, state_now}
use Rattle.stepping.proofs.Turns.{tried-beyond}
use Rattle.one_row.proofs.Works.{work-done, work-large}
use Rattle.one_row.proofs.Starts.{hand-within, goes-unmet, goes-steps}
use Rattle.one_row.proofs.work.Answers.Places.{gcd-is, joined, left}
use Rattle.one_row.proofs.work.Goals as goal
mod Places

pub gcd_of-c-requires : goal.gcd_of-c-requires
gcd_of-c-requires c = bounded-take W c.args.n c.args.work.now.rows.now c.requires.ready.0.rows_within

pub magnitude-requires : goal.magnitude-requires
magnitude-requires c =
    let b = bounded_at W c.args.work.now.rows.now c.args.n c.requires.ready.0.rows_within in search (rules, b)

pub returns-then-g-eq0-clause-made : goal.returns-then-g-eq0-clause-made
returns-then-g-eq0-clause-made c =
    let a = c.args in
    let work = a.work.now in
    let g = gcd-is a.n work.rows.now c.requires.ready.0.rows_within c.gcd_of-c.ensures c.magnitude.ensures c.gcd-g.ensures in
    sym (work-done a.n (hand_now a.n a.m work) (later_now a.n a.m work) (state_now a.n a.m a.state.now a.before) (sym g ∙ c.if-g-eq0.true))

pub reduce-requires : goal.reduce-requires
reduce-requires c =
    let a = c.args in
    let work = a.work.now in
    let w = c.requires.ready.0 in
    let h = hand-within a.n a.m work.rows.now work.multipliers.now work.divisors.now w c.requires.in_bounds.0 in
    let g = gcd-is a.n work.rows.now w.rows_within c.gcd_of-c.ensures c.magnitude.ensures c.gcd-g.ensures in
    rw (g, add-one a.n)
    (h.row, h.multipliers, (h.least, h.most), omega (arith, g, c.if-g-gt1.true), bounded-gcd W (take (suc a.n) work.rows.now) h.row)

pub returns-in_default-clause-made : goal.returns-in_default-clause-made
returns-in_default-clause-made c =
    let a = c.args in
    let work = a.work.now in
    let g = gcd-is a.n work.rows.now c.requires.ready.0.rows_within c.gcd_of-c.ensures c.magnitude.ensures c.gcd-g.ensures in
    let told = rw (c.in_default.is, g, add-one a.n) at c.reduce.ensures in
    sym
    (work-large a.n (hand_now a.n a.m work) (later_now a.n a.m work) (state_now a.n a.m a.state.now a.before) (λ e. c.if-g-eq0.false (g ∙ e))
    (tried-beyond _ _ told))

pub overflow_mul-result : goal.overflow_mul-result
overflow_mul-result c =
    let a = c.args in
    let x = c.if-g-gt1.work in
    let z = joined (goal.at.overflow_mul-result c).Joined-g-gt1 in
    let h = hand-within a.n a.m x.rows.now x.multipliers.now x.divisors.now z.working z.some in
    let coefficients = bounded-gcd W (take a.n x.rows.now) (bounded-take W a.n x.rows.now z.working.rows_within) in
    let g : c.over-left.result ≤ W = rw (left (goal.at.overflow_mul-result c).After-over-left) coefficients in
    record { fits = omega (arith, mul-le-mul h.most g) }

pub returns-then-left-ne1-clause-made : goal.returns-then-left-ne1-clause-made
returns-then-left-ne1-clause-made c =
    let a = c.args in
    let g = gcd-is a.n a.work.now.rows.now c.requires.ready.0.rows_within c.gcd_of-c.ensures c.magnitude.ensures c.gcd-g.ensures in
    let at = goal.at.returns-then-left-ne1-clause-made c in
    goes-unmet (joined at.Joined-g-gt1) (λ e. c.if-g-eq0.false (g ∙ e)) (state_now a.n a.m a.state.now a.before) c.over-left.result
    (left at.After-over-left) c.if-left-ne1.true

pub stepping-requires-clause-ready : goal.stepping-requires-clause-ready
stepping-requires-clause-ready c = ((joined (goal.at.stepping-requires-clause-ready c).Joined-g-gt1).working, c.requires.ready.1)

pub stepping-requires-clause-in_bounds : goal.stepping-requires-clause-in_bounds
stepping-requires-clause-in_bounds c =
    let at = goal.at.stepping-requires-clause-in_bounds c in
    ((joined at.Joined-g-gt1).some, omega (arith, left at.After-over-left, c.if-left-ne1.false), c.requires.in_bounds.1)

pub returns-clause-made : goal.returns-clause-made
returns-clause-made c =
    let a = c.args in
    let g = gcd-is a.n a.work.now.rows.now c.requires.ready.0.rows_within c.gcd_of-c.ensures c.magnitude.ensures c.gcd-g.ensures in
    let at = goal.at.returns-clause-made c in
    rw c.stepping.ensures.made
    (goes-steps (joined at.Joined-g-gt1) (λ e. c.if-g-eq0.false (g ∙ e)) (state_now a.n a.m a.state.now a.before)
    (sym (left at.After-over-left) ∙ c.if-left-ne1.false))
