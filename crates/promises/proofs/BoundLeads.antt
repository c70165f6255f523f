-- The steps on a row whose coefficients have gcd 1, seen on the row alone: within the bound of its smallest coefficient one is reached
-- whose smallest coefficient is 1 or -1. That number falls with every step, and by two steps, or already by one, to half of what it was.
use mathlib.Core.Path.{◌≡◌, sym, ap, ◌∙◌, subst}
use mathlib.Core.Logic.{◌≢◌}
use mathlib.Core.List.{List}
use Prim.Native.Nat.{ℕ, zero, suc, ◌+◌, ◌*◌, ◌≤◌, ◌<◌, ◌∣◌}
use native.Mathlib.Decide.{ℕ_discrete, dec_lt}
use native.Mathlib.Nat.{dvd_refl, eq-one_of_dvd-one, mul-le-mul_right, zero-mul, one-mul}
use native.Mathlib.Omega.{arith}
use lib.ListN.{length, take}
use lib.IntN.{ℤ, pos, nat_abs, ◌+ℤ◌, ◌*ℤ◌, +ℤ_idr}
use Rattle.whole.specs.Quotient.{quotient, remainder}
use Rattle.whole.proofs.Integers.{nat_abs-zero, nat_abs-*}
use Rattle.whole.proofs.Divides.{◌∣ℤ◌, dvd-zero}
use Rattle.whole.proofs.QuotientLaws.{quotient-remainder, remainder-small, remainder-half}
use Rattle.whole.proofs.BitLengthLaws.{bit_length-half}
use Rattle.rows.specs.Row.{at, gcd_of}
use Rattle.rules.specs.Elimination.{step_of, put_in, step_bound}
use Rattle.rules.proofs.Lengths.{length-put_in}
use Rattle.rules.proofs.RowInHand.{column-below, lead-alive, lead-nonzero, lead-least, coefficients-share, lead-stays, others-left, gcd-kept}

-- the row after its step, and the absolute value of its smallest coefficient
abbrev next : ℕ → List ℤ → List ℤ
next n row = put_in (step_of n row) row

abbrev size : ℕ → List ℤ → ℕ
size n row = nat_abs (step_of n row).lead

-- what the second step leaves of the number of the first
abbrev left : ℕ → List ℤ → ℤ
left n row = remainder (step_of n row).lead (step_of n (next n row)).lead

-- a proper multiple is at least the double
double : (a b : ℤ) → remainder a b ≡ pos 0 → nat_abs b < nat_abs a → 2 * nat_abs b ≤ nat_abs a
double a b e h = go (nat_abs (quotient a b)) times
  where
    times : nat_abs a ≡ nat_abs (quotient a b) * nat_abs b
    times = ap nat_abs (quotient-remainder a b ∙ ap (λ r. quotient a b *ℤ b +ℤ r) e ∙ +ℤ_idr (quotient a b *ℤ b)) ∙ nat_abs-* (quotient a b) b

    go : (q : ℕ) → nat_abs a ≡ q * nat_abs b → 2 * nat_abs b ≤ nat_abs a
    go zero t = omega (arith, zero-mul (nat_abs b))
    go (suc zero) t = omega (arith, one-mul (nat_abs b))
    go (suc (suc q)) t = let two : 2 ≤ suc (suc q) = omega arith in omega (arith, mul-le-mul_right (nat_abs b) two)

-- ---- a row whose coefficients have no common divisor but 1: a step keeps that
pub record Coprime (n : ℕ) (row : List ℤ) : Type 0 where
  pub wide : length row ≡ suc n
  pub whole : gcd_of (take n row) ≡ 1

some : {n : ℕ} {row : List ℤ} → Coprime n row → 0 < gcd_of (take n row)
some c = omega arith

still : {n : ℕ} {row : List ℤ} → Coprime n row → Coprime n (next n row)
still {n} {row} c = record { wide = length-put_in (step_of n row) row ∙ c.wide; whole = gcd-kept n row c.wide (some c) ∙ c.whole }

module _ (n : ℕ) (row : List ℤ) (c : Coprime n row) where
  above : 0 < size n row
  above = lead-alive n row (some c)

  stays : at (next n row) (step_of n row).column ≡ (step_of n row).lead
  stays = lead-stays n row c.wide (some c)

  -- after the step all others are smaller, and not all of them are 0: else the smallest would divide all
  falls : size n row ≢ 1 → size n (next n row) < size n row
  falls big = go (dec_lt (size n (next n row)) (size n row))
    where
      smaller : (i : ℕ) → i < n → i ≢ (step_of n row).column → nat_abs (at (next n row) i) < size n row
      smaller i b e = rw (others-left n row i (omega (arith, c.wide)) e) (remainder-small (at row i) (step_of n row).lead (lead-nonzero n row (some c)))

      none-else : (size n (next n row) < size n row → ⊥) → (i : ℕ) → i < n → i ≢ (step_of n row).column → at (next n row) i ≡ pos 0
      none-else f i b e =
          let small = smaller i b e in
          let none : 0 < nat_abs (at (next n row) i) → ⊥ = λ p. f (omega (arith, lead-least n (next n row) (some (still c)) i b p)) in
          nat_abs-zero (at (next n row) i) (omega arith)

      divided : (size n (next n row) < size n row → ⊥) → (i : ℕ) → i < n → size n row ∣ℤ at (next n row) i
      divided f i b = by-column (ℕ_discrete i (step_of n row).column)
        where
          by-column : Dec (i ≡ (step_of n row).column) → size n row ∣ℤ at (next n row) i
          by-column (yes e) = rw (e, stays) (record { dvd = dvd_refl (size n row) })
          by-column (no e) = rw (none-else f i b e) dvd-zero

      go : Dec (size n (next n row) < size n row) → size n (next n row) < size n row
      go (yes p) = p
      go (no f) =
          absurd
          (big (eq-one_of_dvd-one (subst (λ d. size n row ∣ d) (still c).whole (coefficients-share n (next n row) (size n row) (divided f)))))

  -- ---- the second step
  module _ (big : size n row ≢ 1) where
    -- its column is another
    apart : (step_of n row).column ≢ (step_of n (next n row)).column
    unfolding step_of
    apart e =
        let same : size n (next n row) ≡ size n row = ap (λ k. nat_abs (at (next n row) k)) (sym e) ∙ ap nat_abs stays in
        omega (arith, falls big)

    left_is : at (next n (next n row)) (step_of n row).column ≡ left n row
    left_is =
        others-left n (next n row) (step_of n row).column (omega (arith, column-below n row (some c), (still c).wide)) apart
        ∙ ap (λ z. remainder z (step_of n (next n row)).lead) stays

    -- where it leaves something, that is less than half, and the third number is not larger
    by_two : nat_abs (left n row) ≢ 0 → 2 * size n (next n (next n row)) ≤ size n row
    by_two h = omega (arith, half, least)
      where
        half : 2 * nat_abs (left n row) < size n row
        half = remainder-half (step_of n row).lead (step_of n (next n row)).lead (lead-alive n (next n row) (some (still c))) (omega (arith, falls big))

        least : size n (next n (next n row)) ≤ nat_abs (left n row)
        least =
            subst (λ z. size n (next n (next n row)) ≤ nat_abs z) left_is
            (lead-least n (next n (next n row)) (some (still (still c))) (step_of n row).column (column-below n row (some c))
            (rw left_is (omega arith)))

    -- where it leaves nothing, the second number divides the first
    by_one : nat_abs (left n row) ≡ 0 → 2 * size n (next n row) ≤ size n row
    by_one e = double (step_of n row).lead (step_of n (next n row)).lead (nat_abs-zero (left n row) e) (falls big)

-- ---- the bound
-- there is a step for every number but 0, and two more for the double
bound_some : (x : ℕ) → 0 < x → 0 < step_bound x
unfolding step_bound
bound_some x h = omega (arith, bit_length-half 0 x (omega arith) h)

bound-double : (x y : ℕ) → 0 < x → 2 * x ≤ y → 2 + step_bound x ≤ step_bound y
unfolding step_bound
bound-double x y h d = omega (arith, bit_length-half 0 x (omega arith) h, bit_length-half x y d (omega arith))

-- within so many steps a row is reached whose smallest coefficient is 1 or -1
abbrev pub ClosedWithin : ℕ → ℕ → List ℤ → Type 0
ClosedWithin n zero row = ⊥
ClosedWithin n (suc most) row = nat_abs (step_of n row).lead ≢ 1 → ClosedWithin n most (put_in (step_of n row) row)

-- two steps, or one, and then the bound of what is at most half
pub bound-closes : (n most : ℕ) (row : List ℤ) → Coprime n row → step_bound (nat_abs (step_of n row).lead) ≤ most → ClosedWithin n most row
bound-closes n zero row c b = omega (arith, bound_some (size n row) (above n row c))
bound-closes n (suc zero) row c b = λ big. omega (arith, bound-double 1 (size n row) (omega arith) (omega (arith, above n row c)))
bound-closes n (suc (suc most)) row c b =
    go (ℕ_discrete (nat_abs (left n row)) 0) (bound-closes n (suc most) second (still c)) (bound-closes n most third (still (still c)))
  where
    second : List ℤ
    second = next n row

    third : List ℤ
    third = next n second

    go : Dec (nat_abs (left n row) ≡ 0) → (step_bound (size n second) ≤ suc most → ClosedWithin n (suc most) second)
        → (step_bound (size n third) ≤ most → ClosedWithin n most third) → ClosedWithin n (suc (suc most)) row
    go (yes e) from-second from-third =
        λ big. from-second (omega (arith, bound-double (size n second) (size n row) (above n second (still c)) (by_one n row c big e)))
    go (no e) from-second from-third =
        λ big _. from-third (omega (arith, bound-double (size n third) (size n row) (above n third (still (still c))) (by_two n row c big e)))
