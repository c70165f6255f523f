-- What holds at the places of `stepping::stepping`: of the column of the row in hand, and after the calls of a turn.
use Rattle.std.proofs.Common.{rules, ◌≡◌, true, false, Bool, suc, ◌+◌, ◌-◌, ◌≤◌, ◌<◌, pos, nat_abs, length, take, ℕ, List, ℤ, to_z, of_z, w64}
use mathlib.Core.Path.{sym, ap, ◌∙◌, subst}
use native.Mathlib.Omega.{arith}
use borrow.Author.Tests.{eq-eqb}
use lib.Dec.{eqb}
use lib.Seq.{length-take-le, get_or-take}
use Rattle.whole.specs.Limit.{W}
use Rattle.rows.specs.Row.{at, gcd_of, smallest}
use Rattle.rows.proofs.Bounded.{bounded-take, bounded_at}
use Rattle.rows.proofs.Lists.{row-end}
use Rattle.rows.proofs.SmallestLaws.{smallest-inside, smallest-nonzero}
use Rattle.rules.specs.declared.StateTables.{StateTables}
use Rattle.rules.specs.Elimination.{Worked, passed, large, step_bound}
use Rattle.rules.specs.Lent.{SameLengths}
use Rattle.steps.specs.declared.WorkTables.{WorkTables}
use Rattle.steps.specs.Shown.{tried}
use Rattle.turning.specs.Turned.{turned_state, turn_state}
use Rattle.closing.specs.Shut.{shut_shown, shut_of}
use Rattle.stepping.specs.Worked.{Working3, bound_of, later_now, state_now}
use Rattle.stepping.proofs.Made.{Steps, made-steps}
use Rattle.stepping.proofs.Shuts.{too_far, shut-large, shut-passes}
use Rattle.stepping.proofs.Going.{Going, GoingNow, ahead-is, going_on}
use Rattle.stepping.proofs.LeastBits.{bound-is, bound-small}

-- ---- the column of the row in hand is one of the coefficients', and the number there is not 0
module _ {n m : ℕ} {rows multipliers : List ℤ} {divisors : List ℕ} (w : Working3 n m rows multipliers divisors) (some : 1 ≤ length divisors) where
  pub row_inside : suc n ≤ length rows
  row_inside = omega (arith, w.rows_long, row-end (length divisors) (suc n) 0 some)

  -- its bound is small
  pub few : bound_of n (take (suc n) rows) ≤ 64
  few =
      let row = take (suc n) rows in
      bound-small _ (bounded_at W row (smallest (take n row)) (bounded-take W (suc n) rows w.rows_within))

  module _ {k : ℕ} (alive : 0 < gcd_of (take n rows)) (found : k ≡ smallest (take n rows)) where
    pub column : k < n
    column =
        omega (arith, found, smallest-inside (take n rows) alive, length-take-le n rows (omega (arith, row_inside)))

    pub nonzero : 0 < nat_abs (at rows k)
    nonzero =
        let h = subst (λ (k : ℕ). 0 < nat_abs (at (take n rows) k)) (sym found) (smallest-nonzero (take n rows) alive) in
        subst (λ (z : ℤ). 0 < nat_abs z) (get_or-take n rows k (pos 0) column) h

    -- the bound that the code finds is the row's
    pub whole-bound : {most : ℕ} → most ≡ step_bound (nat_abs (to_z w64 (of_z w64 (at rows k)))) → most ≡ bound_of n (take (suc n) rows)
    whole-bound e =
        let b = bounded_at W rows k w.rows_within in
        let read : to_z w64 (of_z w64 (at rows k)) ≡ at rows k = search (rules, b) in
        e ∙ ap (λ (z : ℤ). step_bound (nat_abs z)) read ∙ bound-is n rows k found (omega (arith, column))

-- ---- a turn, from the tables at the loop's head
module _ {goal : Worked} {n m bound left count k : ℕ} (work : WorkTables) (state : StateTables) (g : GoingNow goal n m bound work state left count)
    (more : 0 < left) (found : k ≡ smallest (take n work.rows.now)) (rows' : List ℤ) (state' : StateTables) where
  abbrev Turns : Bool → Type 0
  Turns fits = tried fits (turned_state n (length work.divisors.now) rows' state') ≡ turn_state n (length work.divisors.now) work.rows.now state

  abbrev lead : ℤ
  lead = at work.rows.now k

  pub refused : Turns false → large count ≡ goal
  refused e =
      too_far n m (left - 1) count work.rows.now work.multipliers.now work.divisors.now state.substitution.now state.marks.now
      state.way_back.now state.reasons.now g.some rows' state'.substitution.now state'.way_back.now e
      ∙ ahead-is g more

  -- where `turn` made a step
  module _ (long : length rows' ≡ length work.rows.now) (lengths : SameLengths state state')
      (rest : (state'.marks.now ≡ state.marks.now) × (state'.reasons.now ≡ state.reasons.now)) (e : Turns true) where
    pub made : Steps n m work.rows.now work.multipliers.now work.divisors.now state.substitution.now state.marks.now state.way_back.now
        state.reasons.now k lead rows' state'.substitution.now state'.way_back.now
    made =
        made-steps n m work.rows.now work.multipliers.now work.divisors.now state.substitution.now state.marks.now state.way_back.now
        state.reasons.now g.working g.results g.some g.alive k found (omega (arith, column g.working g.some g.alive found)) rows'
        state'.substitution.now state'.way_back.now long lengths.substitution lengths.way_back e

    pub next : eqb (nat_abs lead) 1 ≡ false → Going goal n m bound rows' work.multipliers.now work.divisors.now
        state'.substitution.now state'.marks.now state'.way_back.now state'.reasons.now (left - 1) (count + 1)
    next other = rw (rest.0, rest.1) (going_on g more k lead rows' state'.substitution.now state'.way_back.now made other)

    -- where the column closes
    module _ (one : nat_abs lead ≡ 1) (work'' : WorkTables) (state'' : StateTables) where
      abbrev Shuts : Bool → Type 0
      Shuts fits = tried fits (shut_shown n m work'' state'')
          ≡ shut_of n m k lead rows' work.multipliers.now work.divisors.now state'.marks.now state'.reasons.now

      pub not-shut : Shuts false → large count ≡ goal
      not-shut f =
          shut-large n m (left - 1) count work.rows.now work.multipliers.now work.divisors.now state.substitution.now state.marks.now
          state.way_back.now state.reasons.now k lead rows' state'.substitution.now state'.way_back.now made (eq-eqb (nat_abs lead) 1 one)
          work''.rows.now work''.multipliers.now work''.divisors.now state''.marks.now state''.reasons.now (rw (rest.0, rest.1) at f)
          ∙ ahead-is g more

      pub row-passed : Shuts true → (state''.substitution.now ≡ state'.substitution.now) × (state''.way_back.now ≡ state'.way_back.now)
          → passed (later_now n m work'') (state_now n m state'' (count + 1)) ≡ goal
      row-passed f kept =
          rw (kept.0, kept.1)
          (shut-passes n m (left - 1) count work.rows.now work.multipliers.now work.divisors.now state.substitution.now state.marks.now
          state.way_back.now state.reasons.now k lead rows' state'.substitution.now state'.way_back.now made (eq-eqb (nat_abs lead) 1 one)
          work''.rows.now work''.multipliers.now work''.divisors.now state''.marks.now state''.reasons.now (rw (rest.0, rest.1) at f)
          ∙ ahead-is g more)
