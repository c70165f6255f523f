-- The places of `one_row::work`: the gcd of the row in hand and, by one law where the ways from (a) meet, what the tables hold when (b)
-- begins.
use Rattle.std.proofs.Common.{rules, ◌≡◌, true, suc, ◌/◌, nat_abs, take, ℕ, List, ℤ, to_z, of_z, w64}
use mathlib.Core.Path.{ap, ap₂, ◌∙◌}
use native.Mathlib.Numerals.{add-one}
use native.Mathlib.Omega.{arith}
use lib.Seq.{length-take-le}
use Rattle.whole.specs.Limit.{W}
use Rattle.whole.specs.Gcd.{gcd}
use Rattle.rows.specs.Row.{at, gcd_of, all_within}
use Rattle.rows.proofs.Bounded.{bounded_at}
use Rattle.stepping.specs.Worked.{state_now}
use Rattle.one_row.proofs.Gcds.{row-gcd}
use Rattle.one_row.proofs.Starts.{Starts, starts-same, starts-reduced, rows-enough, multipliers-enough, left_is}
use Rattle.one_row.proofs.work.Goals.{After-over-left, Joined-g-gt1, then-g-gt1+in-Some, else-g-gt1}
use Rattle.one_row.proofs.work.Goals as goal

-- the gcd of the row's numbers: the constant's with that of the coefficients
pub gcd-is : (n : ℕ) (rows : List ℤ) {x y g : ℕ} → all_within rows ≡ true → y ≡ gcd_of (take n rows)
    → x ≡ nat_abs (to_z w64 (of_z w64 (at rows n))) → g ≡ gcd x y → g ≡ gcd_of (take (suc n) rows)
gcd-is n rows h e f d =
    let b = bounded_at W rows n h in
    let read : to_z w64 (of_z w64 (at rows n)) ≡ at rows n = search (rules, b) in
    d ∙ ap₂ gcd (f ∙ ap nat_abs read) e ∙ row-gcd n rows

-- ---- where the ways from (a) meet
pub joined : (j : Joined-g-gt1) → let work = j.args.work.now in let x = j.if-g-gt1.work in
    Starts j.args.n j.args.m work.rows.now work.multipliers.now work.divisors.now x.rows.now x.multipliers.now x.divisors.now
joined j =
    let n = j.args.n in
    let m = j.args.m in
    let rows = j.args.work.now.rows.now in
    let multipliers = j.args.work.now.multipliers.now in
    let divisors = j.args.work.now.divisors.now in
    let w = j.requires.ready.0 in
    let some = j.requires.in_bounds.0 in
    let g = gcd-is n rows w.rows_within j.gcd_of-c.ensures j.magnitude.ensures j.gcd-g.ensures in
    elim j.if-g-gt1.branch [
      | then-g-gt1+in-Some x ↦
          let wide = length-take-le (suc n) rows (rows-enough n m rows multipliers divisors w some) in
          let kept = rw (add-one n) at x.reduce.auto in
          let told = rw (x.in-Some.is, g, add-one n) at x.reduce.ensures in
          rw (x.work-is, add-one n)
          (starts-reduced n m rows multipliers divisors w some x.reduce.new.row x.reduce.new.multipliers x.in-Some.d (kept.row ∙ wide)
          (kept.multipliers ∙ length-take-le m multipliers (multipliers-enough n m rows multipliers divisors w some)) (omega (arith, g, x.if-g-gt1.true)) told)
      | else-g-gt1 x ↦ rw x.work-is (starts-same n m rows multipliers divisors w some (omega (arith, g, x.if-g-gt1.false)))
    ]

-- the gcd of the coefficients after (a)
pub left : (v : After-over-left) → v.over-left.result ≡ gcd_of (take v.args.n v.if-g-gt1.work.rows.now)
left v =
    let a = v.args in
    let g = gcd-is a.n a.work.now.rows.now v.requires.ready.0.rows_within v.gcd_of-c.ensures v.magnitude.ensures v.gcd-g.ensures in
    v.over-left.ensures ∙ ap₂ (λ (c g : ℕ). c / g) v.gcd_of-c.ensures g
    ∙ left_is (joined (goal.at.After-over-left v).Joined-g-gt1) (λ e. v.if-g-eq0.false (g ∙ e)) (state_now a.n a.m a.state.now a.before)
