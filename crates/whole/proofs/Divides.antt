-- A natural divides an integer where it divides its absolute value. It then divides negations, multiples, sums and differences, and it
-- is what the Boolean `divides` decides.
use mathlib.Core.Path.{◌≡◌, sym, ap, ap₂, ◌∙◌, subst}
use mathlib.Core.Bool.{true, false}
use Prim.Native.Nat.{ℕ, suc, ◌/◌, ◌%◌, ◌∣◌}
use native.Mathlib.Nat as NatL
use native.Mathlib.Nat.{dvd_refl, dvd-mul_left_of_dvd, div-mul_cancel, mod-eq-zero_of_dvd, dvd_of_mod-eq-zero}
use borrow.Author.Tests.{eqb-true, eqb-false, eq-eqb}
use lib.IntN.{ℤ, pos, negsuc, neg_ℤ, nat_abs, ◌+ℤ◌, ◌-ℤ◌, ◌*ℤ◌}
use Rattle.whole.specs.Gcd.{divides}
use Rattle.whole.proofs.Integers.{nat_abs-neg, nat_abs-*, negℤ-*ℤ, *ℤ-distr-r}

infix 4 ◌∣ℤ◌
pub record ◌∣ℤ◌ (d : ℕ) (z : ℤ) : Type 0 where
  pub dvd : d ∣ nat_abs z

pub dvd-zero : {d : ℕ} → d ∣ℤ pos 0
dvd-zero {d} = record { dvd = NatL.dvd-zero d }

pub dvd-neg : {d : ℕ} {a : ℤ} → d ∣ℤ a → d ∣ℤ neg_ℤ a
dvd-neg {d} {a} p = record { dvd = rw (nat_abs-neg a) p.dvd }

pub dvd-mul : {d : ℕ} {a : ℤ} (b : ℤ) → d ∣ℤ a → d ∣ℤ b *ℤ a
dvd-mul {d} {a} b p = record { dvd = rw (nat_abs-* b a) (dvd-mul_left_of_dvd d p.dvd (nat_abs b)) }

-- the multiple that z is of d, and that a multiple of d is divided by it
pub dvd-quot : (d : ℕ) (z : ℤ) → d ∣ℤ z → (k : ℤ) × (z ≡ k *ℤ pos d)
dvd-quot d (pos n) p = (pos (n / d), ap pos (sym (div-mul_cancel d p.dvd)))
dvd-quot d (negsuc n) p =
    (neg_ℤ (pos (suc n / d)), ap (λ m. neg_ℤ (pos m)) (sym (div-mul_cancel d p.dvd)) ∙ sym (negℤ-*ℤ (pos (suc n / d)) (pos d)))

pub quot-dvd : (d : ℕ) (k : ℤ) → d ∣ℤ k *ℤ pos d
quot-dvd d k = dvd-mul k (record { dvd = dvd_refl d })

pub dvd-+ : {d : ℕ} {a b : ℤ} → d ∣ℤ a → d ∣ℤ b → d ∣ℤ a +ℤ b
dvd-+ {d} {a} {b} p q =
    let (k, e) = dvd-quot d a p in
    let (l, f) = dvd-quot d b q in
    subst (λ z. d ∣ℤ z) (*ℤ-distr-r k l (pos d) ∙ ap₂ (λ x y. x +ℤ y) (sym e) (sym f)) (quot-dvd d (k +ℤ l))

pub dvd-sub : {d : ℕ} {a b : ℤ} → d ∣ℤ a → d ∣ℤ b → d ∣ℤ a -ℤ b
dvd-sub p q = dvd-+ p (dvd-neg q)

-- ---- the Boolean, of which 0 divides only 0 as well
pub divides-true : (d : ℕ) (z : ℤ) → divides d z ≡ true → d ∣ℤ z
divides-true d z e = record { dvd = dvd_of_mod-eq-zero d (eqb-true (nat_abs z % d) 0 e) }

pub true-divides : {d : ℕ} {z : ℤ} → d ∣ℤ z → divides d z ≡ true
true-divides {d} {z} p = eq-eqb (nat_abs z % d) 0 (mod-eq-zero_of_dvd d p.dvd)

pub divides-false : {d : ℕ} {z : ℤ} → divides d z ≡ false → d ∣ℤ z → ⊥
divides-false {d} {z} e p = eqb-false (nat_abs z % d) 0 e (mod-eq-zero_of_dvd d p.dvd)
