-- The common divisors of a row and of its value, the row divided by one of them, and the quotients of a row by a number.
use mathlib.Core.Path.{◌≡◌, refl, sym, ap, ap₂, ◌∙◌, subst}
use mathlib.Core.List.{List, [], ◌∷◌, ◌++◌}
use Prim.Native.Nat.{ℕ, zero, suc, ◌*◌, ◌<◌, ◌∣◌, suc-le-suc}
use native.Mathlib.Nat.{zero-lt-suc, dvd_trans, eq-zero_of_zero-dvd, dvd_antisymm, dvd-mul_left, eq_of_mul-eq-mul_left, mul-one, mul_comm, mul-dvd-mul_right}
use native.Mathlib.Nat as NatL
use lib.ListN.{length, length-map}
use lib.IntN.{ℤ, pos, nat_abs, ◌+ℤ◌, ◌*ℤ◌, *ℤ_comm, zero-*ℤ}
use Rattle.whole.specs.Gcd.{gcd}
use Rattle.whole.specs.Quotient.{quotient, exactly}
use Rattle.whole.proofs.Integers.{nat_abs-zero, nat_abs-*}
use Rattle.whole.proofs.GcdLaws.{gcd-l, gcd-r, gcd-greatest, gcd-zero-l, gcd-assoc}
use Rattle.whole.proofs.Divides.{◌∣ℤ◌, dvd-zero, dvd-mul, dvd-+}
use Rattle.whole.proofs.QuotientLaws.{quotient-zero, exactly-mul, exactly-zero}
use Rattle.whole.proofs.Reify.{reify, ring}
use Rattle.rows.specs.Row.{at, dot, gcd_of, quotients, divided}

pub gcd_of-divides : (row : List ℤ) (i : ℕ) → gcd_of row ∣ℤ at row i
unfolding gcd_of
gcd_of-divides [] i = dvd-zero
gcd_of-divides (a ∷ row) zero = record { dvd = gcd-l (nat_abs a) (gcd_of row) }
gcd_of-divides (a ∷ row) (suc i) = record { dvd = dvd_trans (gcd (nat_abs a) (gcd_of row)) (gcd-r (nat_abs a) (gcd_of row)) (gcd_of-divides row i).dvd }

pub gcd_of-greatest : (row : List ℤ) (d : ℕ) → ((i : ℕ) → i < length row → d ∣ℤ at row i) → d ∣ gcd_of row
unfolding gcd_of
gcd_of-greatest [] d h = NatL.dvd-zero d
gcd_of-greatest (a ∷ row) d h = gcd-greatest (nat_abs a) (gcd_of row) d (h 0 (zero-lt-suc (length row))).dvd (gcd_of-greatest row d (λ i l. h (suc i) (suc-le-suc l)))

-- where the gcd is 0, so is every number
pub gcd_of-zero : (row : List ℤ) → gcd_of row ≡ 0 → (i : ℕ) → at row i ≡ pos 0
gcd_of-zero row e i = nat_abs-zero (at row i) (eq-zero_of_zero-dvd (subst (λ g. g ∣ nat_abs (at row i)) e (gcd_of-divides row i).dvd))

pub gcd_of-append : (row more : List ℤ) → gcd_of (row ++ more) ≡ gcd (gcd_of row) (gcd_of more)
unfolding gcd_of
gcd_of-append [] more = sym (gcd-zero-l (gcd_of more))
gcd_of-append (a ∷ row) more = ap (gcd (nat_abs a)) (gcd_of-append row more) ∙ sym (gcd-assoc (nat_abs a) (gcd_of row) (gcd_of more))

-- what divides every number of the row divides its value
pub dot-divides : (d : ℕ) (row x : List ℤ) → ((i : ℕ) → d ∣ℤ at row i) → d ∣ℤ dot row x
unfolding dot
dot-divides d [] x h = dvd-zero
dot-divides d (a ∷ row) [] h = dvd-zero
dot-divides d (a ∷ row) (b ∷ x) h = dvd-+ (subst (λ z. d ∣ℤ z) (*ℤ_comm b a) (dvd-mul b (h 0))) (dot-divides d row x (λ i. h (suc i)))

-- ---- the row divided

pub at-divided : (g : ℤ) (row : List ℤ) (i : ℕ) → at (divided g row) i ≡ exactly (at row i) g
unfolding divided
at-divided g [] i = sym (exactly-zero g)
at-divided g (a ∷ row) zero = refl
at-divided g (a ∷ row) (suc i) = at-divided g row i

pub length-divided : (g : ℤ) (row : List ℤ) → length (divided g row) ≡ length row
unfolding divided
length-divided g [] = refl
length-divided g (a ∷ row) = ap suc (length-divided g row)

pub dot-divided : (g : ℕ) (row x : List ℤ) → ((i : ℕ) → g ∣ℤ at row i) → dot (divided (pos g) row) x *ℤ pos g ≡ dot row x
unfolding dot divided
dot-divided g [] x h = zero-*ℤ (pos g)
dot-divided g (a ∷ row) [] h = zero-*ℤ (pos g)
dot-divided g (a ∷ row) (b ∷ x) h =
    ring (exactly a (pos g) ∷ b ∷ dot (divided (pos g) row) x ∷ pos g ∷ []) (search reify) (search reify) refl
    ∙ ap₂ (λ u v. u *ℤ b +ℤ v) (exactly-mul a g (h 0)) (dot-divided g row x (λ i. h (suc i)))

-- divided by its gcd, a row that is not all zero has gcd 1
pub gcd_of-divided : (row : List ℤ) → 0 < gcd_of row → gcd_of (divided (pos (gcd_of row)) row) ≡ 1
gcd_of-divided row h = one (gcd_of row) (gcd_of (divided (pos (gcd_of row)) row)) h (gcd_of-greatest row (gcd_of (divided (pos (gcd_of row)) row) * gcd_of row) both)
  where
    one : (g d : ℕ) → 0 < g → d * g ∣ g → d ≡ 1
    one g d p q = eq_of_mul-eq-mul_left g p d 1 (mul_comm g d ∙ dvd_antisymm q (dvd-mul_left g d) ∙ sym (mul-one g))

    both : (i : ℕ) → i < length row → gcd_of (divided (pos (gcd_of row)) row) * gcd_of row ∣ℤ at row i
    both i l =
        let g = gcd_of row in
        let d = gcd_of (divided (pos g) row) in
        let e : at (divided (pos g) row) i *ℤ pos g ≡ at row i = ap (λ z. z *ℤ pos g) (at-divided (pos g) row i) ∙ exactly-mul (at row i) g (gcd_of-divides row i) in
        record { dvd = subst (λ z. d * g ∣ nat_abs z) e (rw (nat_abs-* (at (divided (pos g) row) i) (pos g)) (mul-dvd-mul_right d (gcd_of-divides (divided (pos g) row) i).dvd g)) }

-- ---- the quotients

pub at-quotients : (a : ℤ) (row : List ℤ) (i : ℕ) → at (quotients a row) i ≡ quotient (at row i) a
unfolding quotients
at-quotients a [] i = sym (quotient-zero a)
at-quotients a (z ∷ row) zero = refl
at-quotients a (z ∷ row) (suc i) = at-quotients a row i

pub length-quotients : (a : ℤ) (row : List ℤ) → length (quotients a row) ≡ length row
unfolding quotients
length-quotients a row = length-map row (λ z. quotient z a)
