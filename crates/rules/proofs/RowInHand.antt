-- Step (c) on the row in hand: its column is a coefficient's, the number there is not 0 and stays, every other number becomes its
-- remainder by it. So the coefficients keep their common divisors.
use mathlib.Core.Path.{◌≡◌, refl, ap, ◌∙◌, subst}
use mathlib.Core.Logic.{◌≢◌}
use mathlib.Core.List.{List, [], ◌∷◌}
use Prim.Native.Nat.{ℕ, suc, ◌≤◌, ◌<◌, ◌∣◌}
use native.Mathlib.Nat.{dvd_antisymm}
use native.Mathlib.Omega.{arith}
use lib.ListN.{length, take, length-set, length-take}
use lib.Seq.{get_or-set_same, get_or-set_other, get_or-take}
use lib.IntN.{ℤ, pos, nat_abs, ◌-ℤ◌, ◌*ℤ◌, *ℤ_comm, -ℤ-+ℤ_cancel}
use Rattle.whole.specs.Quotient.{quotient, remainder}
use Rattle.whole.proofs.Divides.{◌∣ℤ◌, dvd-mul, dvd-+, dvd-sub}
use Rattle.whole.proofs.Reify.{reify, ring}
use Rattle.rows.specs.Row.{at, gcd_of, quotients, smallest}
use Rattle.rows.proofs.Algebra.{at_less}
use Rattle.rows.proofs.Divisors.{gcd_of-divides, gcd_of-greatest, at-quotients, length-quotients}
use Rattle.rows.proofs.SmallestLaws.{smallest-is, smallest-nonzero, smallest-inside}
use Rattle.rules.specs.Elimination.{step_of, put_in}

-- ---- the gcd of the coefficients, without the constant
module _ (n : ℕ) (row : List ℤ) where
  coefficient-divided : (i : ℕ) → i < n → gcd_of (take n row) ∣ℤ at row i
  coefficient-divided i h = subst (λ z. gcd_of (take n row) ∣ℤ z) (get_or-take n row i (pos 0) h) (gcd_of-divides (take n row) i)

  pub coefficients-share : (d : ℕ) → ((i : ℕ) → i < n → d ∣ℤ at row i) → d ∣ gcd_of (take n row)
  coefficients-share d f = gcd_of-greatest (take n row) d share
    where
      share : (i : ℕ) → i < length (take n row) → d ∣ℤ at (take n row) i
      share i l = let h : i < n = omega (arith, length-take n row) in rw (get_or-take n row i (pos 0) h) (f i h)

-- ---- the column and the number there
module _ (n : ℕ) (row : List ℤ) (h : 0 < gcd_of (take n row)) where
  pub column-below : (step_of n row).column < n
  unfolding step_of
  column-below = omega (arith, length-take n row, smallest-inside (take n row) h)

  pub lead-alive : 0 < nat_abs (step_of n row).lead
  unfolding step_of
  lead-alive = subst (λ z. 0 < nat_abs z) (get_or-take n row (smallest (take n row)) (pos 0) column-below) (smallest-nonzero (take n row) h)

  pub lead-nonzero : (step_of n row).lead ≡ pos 0 → ⊥
  lead-nonzero e = let z : nat_abs (step_of n row).lead ≡ 0 = ap nat_abs e in omega (arith, lead-alive)

  lead-divided : gcd_of (take n row) ∣ℤ (step_of n row).lead
  unfolding step_of
  lead-divided = coefficient-divided n row (smallest (take n row)) column-below

  -- no other coefficient is smaller, if it is not 0
  pub lead-least : (i : ℕ) → i < n → 0 < nat_abs (at row i) → nat_abs (step_of n row).lead ≤ nat_abs (at row i)
  unfolding step_of
  lead-least i b p =
      subst (λ z. nat_abs z ≤ nat_abs (at row i)) (get_or-take n row (smallest (take n row)) (pos 0) column-below) least
    where
      same : at (take n row) i ≡ at row i
      same = get_or-take n row i (pos 0) b

      least : nat_abs (at (take n row) (smallest (take n row))) ≤ nat_abs (at row i)
      least = subst (λ z. nat_abs (at (take n row) (smallest (take n row))) ≤ nat_abs z) same ((smallest-is (take n row)).least i (rw same p))

-- ---- the row after the step
module _ (n : ℕ) (row : List ℤ) where
  pub length-picked : length (step_of n row).quotients ≡ length row
  unfolding step_of
  length-picked = let k = smallest (take n row) in length-set (quotients (at row k) row) k (pos 0) ∙ length-quotients (at row k) row

  pub quotient-other : (i : ℕ) → i ≢ (step_of n row).column → at (step_of n row).quotients i ≡ quotient (at row i) (step_of n row).lead
  unfolding step_of
  quotient-other i e =
      let k = smallest (take n row) in
      get_or-set_other (quotients (at row k) row) k i (pos 0) (pos 0) e ∙ at-quotients (at row k) row i

  changed : (i : ℕ) → i < length row → at (put_in (step_of n row) row) i ≡ at row i -ℤ (step_of n row).lead *ℤ at (step_of n row).quotients i
  unfolding put_in step_of
  changed i b = at_less row (at row (step_of n row).column) (step_of n row).quotients i b

  pub others-left : (i : ℕ) → i < length row → i ≢ (step_of n row).column
      → at (put_in (step_of n row) row) i ≡ remainder (at row i) (step_of n row).lead
  unfolding remainder
  others-left i b e =
      let a = (step_of n row).lead in
      changed i b ∙ ap (λ z. at row i -ℤ a *ℤ z) (quotient-other i e)
      ∙ ring (at row i ∷ a ∷ quotient (at row i) a ∷ []) (search reify) (search reify) refl

module _ (n : ℕ) (row : List ℤ) (l : length row ≡ suc n) where
  pub quotient-here : 0 < gcd_of (take n row) → at (step_of n row).quotients (step_of n row).column ≡ pos 0
  unfolding step_of
  quotient-here h =
      let k = smallest (take n row) in
      let a = at row k in
      get_or-set_same (quotients a row) k (pos 0) (pos 0) (omega (arith, length-quotients a row, column-below n row h))

  pub lead-stays : 0 < gcd_of (take n row) → at (put_in (step_of n row) row) (step_of n row).column ≡ (step_of n row).lead
  unfolding step_of
  lead-stays h =
      let a = at row (smallest (take n row)) in
      changed n row (smallest (take n row)) (omega (arith, column-below n row h)) ∙ ap (λ z. a -ℤ a *ℤ z) (quotient-here h)
      ∙ ring (a ∷ []) (search reify) (search reify) refl

  -- ---- what divides the lead divides the same coefficients before the step and after it
  module _ {d : ℕ} (p : d ∣ℤ (step_of n row).lead) (i : ℕ) (b : i < n) where
    taken : d ∣ℤ (step_of n row).lead *ℤ at (step_of n row).quotients i
    taken = rw (*ℤ_comm (step_of n row).lead (at (step_of n row).quotients i)) (dvd-mul (at (step_of n row).quotients i) p)

    divides-after : d ∣ℤ at row i → d ∣ℤ at (put_in (step_of n row) row) i
    divides-after q = rw (changed n row i (omega arith)) (dvd-sub q taken)

    divides-before : d ∣ℤ at (put_in (step_of n row) row) i → d ∣ℤ at row i
    divides-before q =
        let product = (step_of n row).lead *ℤ at (step_of n row).quotients i in
        subst (λ z. d ∣ℤ z) (-ℤ-+ℤ_cancel (at row i) product) (dvd-+ (rw (changed n row i (omega arith)) at q) taken)

  -- so the gcd before the step and the one after it divide each other
  pub gcd-kept : 0 < gcd_of (take n row) → gcd_of (take n (put_in (step_of n row) row)) ≡ gcd_of (take n row)
  gcd-kept h =
      dvd_antisymm
      (coefficients-share n row (gcd_of (take n next)) (λ i b. divides-before still-divided i b (coefficient-divided n next i b)))
      (coefficients-share n next (gcd_of (take n row)) (λ i b. divides-after (lead-divided n row h) i b (coefficient-divided n row i b)))
    where
      next : List ℤ
      next = put_in (step_of n row) row

      still-divided : gcd_of (take n next) ∣ℤ (step_of n row).lead
      still-divided =
          subst (λ z. gcd_of (take n next) ∣ℤ z) (lead-stays h) (coefficient-divided n next (step_of n row).column (column-below n row h))
