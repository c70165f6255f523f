-- The laws of the divisions of document 01. A change of the rounding in (c) touches only the first group, of `quotient` and `remainder`.
use mathlib.Core.Path.{◌≡◌, refl, ap, ◌∙◌}
use mathlib.Core.List.{[], ◌∷◌}
use Prim.Native.Nat.{ℕ, suc, ◌*◌, ◌/◌, ◌%◌, ◌≤◌, ◌<◌}
use native.Mathlib.Nat.{div-add-mod', div-mul_cancel, div-one, mod-lt}
use native.Mathlib.Nat.{le-mul_of_pos_right, le-div_iff_mul-le, mul-le-mul_right, pos_of_ne-zero}
use native.Mathlib.Omega.{arith}
use lib.IntN.{ℤ, pos, negsuc, neg_ℤ, nat_abs, ◌+ℤ◌, ◌-ℤ◌, ◌*ℤ◌}
use lib.Signed.{quot_z, rem_z, lt_z, ◌≤ℤ◌, ◌<ℤ◌, lt_z_yes, lt_z_no}
use Rattle.whole.specs.Quotient.{quotient, remainder, exactly, ceiling}
use Rattle.whole.proofs.Integers.{nat_abs-zero, negℤ-*ℤ, cond_ind}
use Rattle.whole.proofs.Order.{orders, abs, pz-neg, nz-neg}
use Rattle.whole.proofs.Reify.{reify, ring}
use Rattle.whole.proofs.Linear.{le-by, lt_by, eq-on}
use Rattle.whole.proofs.Divides.{◌∣ℤ◌}
use Rattle.whole.proofs.Division.{quot-rem, rem-abs, rem-less, quot_le}

-- ---- (c): the quotient and its remainder
pub quotient-remainder : (z a : ℤ) → z ≡ quotient z a *ℤ a +ℤ remainder z a
unfolding remainder
quotient-remainder z a = ring (z ∷ a ∷ quotient z a ∷ []) (search reify) (search reify) refl

remainder_is : (z a : ℤ) → remainder z a ≡ rem_z z a
unfolding quotient remainder
remainder_is z a = rest (quot_z z a) (rem_z z a) (quot-rem z a)
  where
    rest : (q r : ℤ) → z ≡ q *ℤ a +ℤ r → z -ℤ q *ℤ a ≡ r
    rest q r e = rw e (ring (q ∷ a ∷ r ∷ []) (search reify) (search reify) refl)

pub remainder-small : (z a : ℤ) → (a ≡ pos 0 → ⊥) → nat_abs (remainder z a) < nat_abs a
remainder-small z a h = rw (remainder_is z a) (rem-less z a (pos_of_ne-zero (λ e. h (nat_abs-zero a e))))

pub quotient_le : (z a : ℤ) → nat_abs (quotient z a) ≤ nat_abs z
unfolding quotient
quotient_le z a = quot_le z a

pub quotient-zero : (a : ℤ) → quotient (pos 0) a ≡ pos 0
unfolding quotient
quotient-zero a = nat_abs-zero (quot_z (pos 0) a) (omega (arith, quot_le (pos 0) a))

-- what 1 and -1 leave
pub remainder-one : (z a : ℤ) → nat_abs a ≡ 1 → remainder z a ≡ pos 0
remainder-one z a e =
    rw (remainder_is z a) (nat_abs-zero (rem_z z a) (omega (arith, rem-less z a (omega arith))))

-- by 1 and by -1 the quotient is the number and its opposite, whatever the rounding
pub quotient-one : (z : ℤ) → quotient z (pos 1) ≡ z
quotient-one z = rest (quotient z (pos 1)) (remainder z (pos 1)) (quotient-remainder z (pos 1)) (remainder-one z (pos 1) refl)
  where
    rest : (q r : ℤ) → z ≡ q *ℤ pos 1 +ℤ r → r ≡ pos 0 → q ≡ z
    rest q r e n = rw (e, n) (ring (q ∷ []) (search reify) (search reify) refl)

pub quotient-minus : (z : ℤ) → quotient z (negsuc 0) ≡ pos 0 -ℤ z
quotient-minus z = rest (quotient z (negsuc 0)) (remainder z (negsuc 0)) (quotient-remainder z (negsuc 0)) (remainder-one z (negsuc 0) refl)
  where
    rest : (q r : ℤ) → z ≡ q *ℤ negsuc 0 +ℤ r → r ≡ pos 0 → q ≡ pos 0 -ℤ z
    rest q r e n = rw (e, n) (ring (q ∷ []) (search reify) (search reify) refl)

-- what is left by a divisor not larger is less than half: z has the divisor and what is left in it, and the divisor is the larger
pub remainder-half : (z a : ℤ) → 0 < nat_abs a → nat_abs a ≤ nat_abs z → 2 * nat_abs (remainder z a) < nat_abs z
remainder-half z a p h = rw (remainder_is z a, rem-abs z a) (half (nat_abs z) (nat_abs a) p h)
  where
    half : (x y : ℕ) → 0 < y → y ≤ x → 2 * (x % y) < x
    half x y p h =
        let once : 1 ≤ x / y = (le-div_iff_mul-le p).1 (omega arith) in
        omega (arith, div-add-mod' x y, mod-lt x p, mul-le-mul_right y once)

-- ---- by a divisor
pub exactly-mul : (z : ℤ) (g : ℕ) → g ∣ℤ z → exactly z (pos g) *ℤ pos g ≡ z
unfolding exactly
exactly-mul (pos n) g p = ap pos (div-mul_cancel g p.dvd)
exactly-mul (negsuc n) g p = negℤ-*ℤ (pos (suc n / g)) (pos g) ∙ ap (λ m. neg_ℤ (pos m)) (div-mul_cancel g p.dvd)

pub exactly-le : (z g : ℤ) → nat_abs (exactly z g) ≤ nat_abs z
unfolding exactly
exactly-le z g = quot_le z g

pub exactly-zero : (g : ℤ) → exactly (pos 0) g ≡ pos 0
unfolding exactly
exactly-zero g = nat_abs-zero (quot_z (pos 0) g) (omega (arith, quot_le (pos 0) g))

pub exactly-one : (z : ℤ) → exactly z (pos 1) ≡ z
unfolding exactly
exactly-one (pos n) = ap pos (div-one n)
exactly-one (negsuc n) = ap (λ m. neg_ℤ (pos m)) (div-one (suc n))

-- ---- rounded up
-- it times g is the first multiple of g that is not below z
pub ceiling-is : (z g : ℤ) → pos 0 <ℤ g → (z ≤ℤ (ceiling z g *ℤ g)) × ((ceiling z g *ℤ g) <ℤ (z +ℤ g))
unfolding ceiling
ceiling-is z g h =
    cond_ind (lt_z (pos 0) (rem_z z g)) (quot_z z g +ℤ pos 1) (quot_z z g) (λ c. (z ≤ℤ (c *ℤ g)) × ((c *ℤ g) <ℤ (z +ℤ g)))
    (λ t. up (quot_z z g) (rem_z z g) (quot-rem z g) (lt_z_yes t) less)
    (λ t. down (quot_z z g) (rem_z z g) (quot-rem z g) (lt_z_no t) less)
  where
    less : nat_abs (rem_z z g) < nat_abs g
    less = rem-less z g (omega (arith, orders, abs g))

    up : (q r : ℤ) → z ≡ q *ℤ g +ℤ r → pos 0 <ℤ r → nat_abs r < nat_abs g → (z ≤ℤ ((q +ℤ pos 1) *ℤ g)) × (((q +ℤ pos 1) *ℤ g) <ℤ (z +ℤ g))
    up q r e p l =
        let ρ = q ∷ g ∷ r ∷ z ∷ [] in
        let f = eq-on ρ {b = q *ℤ g +ℤ r} (search reify) (search reify) e in (
          le-by ρ (search reify) (search reify) (omega (arith, orders, abs r, abs g)),
          lt_by ρ (search reify) (search reify) (omega (arith, orders, abs r, abs g)),
        )

    down : (q r : ℤ) → z ≡ q *ℤ g +ℤ r → r ≤ℤ pos 0 → nat_abs r < nat_abs g → (z ≤ℤ (q *ℤ g)) × ((q *ℤ g) <ℤ (z +ℤ g))
    down q r e p l =
        let ρ = (q *ℤ g) ∷ g ∷ r ∷ z ∷ [] in
        let f = eq-on ρ {b = q *ℤ g +ℤ r} (search reify) (search reify) e in (
          le-by ρ (search reify) (search reify) (omega (arith, orders, abs r, abs g)),
          lt_by ρ (search reify) (search reify) (omega (arith, orders, abs r, abs g)),
        )

-- it is not further from 0 than z: rounded up is only what is above 0, and then something is left
pub ceiling-le : (z g : ℤ) → pos 0 <ℤ g → nat_abs (ceiling z g) ≤ nat_abs z
unfolding ceiling
ceiling-le z g h =
    cond_ind (lt_z (pos 0) (rem_z z g)) (quot_z z g +ℤ pos 1) (quot_z z g) (λ c. nat_abs c ≤ nat_abs z)
    (λ t. up z g h (lt_z_yes t))
    (λ t. quot_le z g)
  where
    up : (z g : ℤ) → pos 0 <ℤ g → pos 0 <ℤ rem_z z g → nat_abs (quot_z z g +ℤ pos 1) ≤ nat_abs z
    up (pos n) (pos m) h r =
        let p : 0 < m = omega (arith, orders) in
        omega (arith, orders, div-add-mod' n m, le-mul_of_pos_right (n / m) p)
    up (pos n) (negsuc m) h r = let e : ⊥ = omega (arith, orders) in absurd e
    up (negsuc n) g h r =
        let e : ⊥ = omega (arith, orders, pz-neg (pos (suc n % nat_abs g)), nz-neg (pos (suc n % nat_abs g))) in absurd e
