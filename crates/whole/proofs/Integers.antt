-- The laws of the integers that `lib.IntN` lacks: the product is associative and distributes over sums, negation passes through it,
-- a factor that is not 0 cancels, and the absolute value of a sum, a difference and a product.
use mathlib.Core.Path.{◌≡◌, refl, sym, ap, ap₂, ◌∙◌}
use mathlib.Core.Bool.{Bool, true, false, not, cond}
use mathlib.Core.Logic.{◌⊎◌, inl, inr, ⊎_elim}
use Prim.Native.Nat.{ℕ, zero, suc, ◌+◌, ◌*◌, ◌-◌, ◌≤◌}
use native.Mathlib.Nat.{suc-ne-zero, zero-lt-suc, mul-zero, eq_of_mul-eq-mul_left}
use native.Mathlib.Omega.{arith}
use lib.Dec.{T, ltb, ltb→lt}
use lib.IntN.{ℤ, pos, negsuc, suc_ℤ, pred_ℤ, neg_ℤ, sub_ℕ, nat_abs, ◌+ℤ◌, ◌-ℤ◌, ◌*ℤ◌}
use lib.IntN.{+ℤ_comm, +ℤ_assoc, +ℤ_idl, +ℤ_invr, -ℤ-+ℤ_cancel, *ℤ_comm, zero-*ℤ, neg_ℤ-neg_ℤ, neg_ℤ-+ℤ}
use lib.IntN.{suc_ℤ-+ℤ, pred_ℤ-+ℤ, suc_ℤ-*ℤ, pred_ℤ-*ℤ, neg_ℤ-suc_ℤ, neg_ℤ-pred_ℤ}

-- every integer is reached from 0 by steps up or by steps down
ind {ℓ} : (P : ℤ → Type ℓ) → P (pos zero) → ((k : ℤ) → P k → P (suc_ℤ k)) → ((k : ℤ) → P k → P (pred_ℤ k)) → (k : ℤ) → P k
ind P z s p (pos zero) = z
ind P z s p (pos (suc n)) = s (pos n) (ind P z s p (pos n))
ind P z s p (negsuc zero) = p (pos zero) z
ind P z s p (negsuc (suc n)) = p (negsuc n) (ind P z s p (negsuc n))

-- ---- sums and products
pub +ℤ-left-comm : (a b c : ℤ) → a +ℤ (b +ℤ c) ≡ b +ℤ (a +ℤ c)
+ℤ-left-comm a b c = sym (+ℤ_assoc a b c) ∙ ap (λ x. x +ℤ c) (+ℤ_comm a b) ∙ +ℤ_assoc b a c

pub *ℤ-distr-r : (a b c : ℤ) → (a +ℤ b) *ℤ c ≡ a *ℤ c +ℤ b *ℤ c
*ℤ-distr-r a b c =
    ind (λ a. (a +ℤ b) *ℤ c ≡ a *ℤ c +ℤ b *ℤ c)
    (ap (λ x. x *ℤ c) (+ℤ_idl b) ∙ sym (+ℤ_idl (b *ℤ c)) ∙ ap (λ x. x +ℤ b *ℤ c) (sym (zero-*ℤ c)))
    (λ k h. rw (suc_ℤ-+ℤ k b, suc_ℤ-*ℤ (k +ℤ b) c, suc_ℤ-*ℤ k c, h) (simp (+ℤ_assoc, +ℤ_comm, +ℤ-left-comm)))
    (λ k h. rw (pred_ℤ-+ℤ k b, pred_ℤ-*ℤ (k +ℤ b) c, pred_ℤ-*ℤ k c, h) (simp (+ℤ_assoc, +ℤ_comm, +ℤ-left-comm)))
    a

pub *ℤ-distr-l : (a b c : ℤ) → a *ℤ (b +ℤ c) ≡ a *ℤ b +ℤ a *ℤ c
*ℤ-distr-l a b c = *ℤ_comm a (b +ℤ c) ∙ *ℤ-distr-r b c a ∙ ap₂ (λ x y. x +ℤ y) (*ℤ_comm b a) (*ℤ_comm c a)

pub negℤ-*ℤ : (a b : ℤ) → neg_ℤ a *ℤ b ≡ neg_ℤ (a *ℤ b)
negℤ-*ℤ a b =
    ind (λ a. neg_ℤ a *ℤ b ≡ neg_ℤ (a *ℤ b))
    (rw (zero-*ℤ b))
    (λ k h. rw (neg_ℤ-suc_ℤ k, pred_ℤ-*ℤ (neg_ℤ k) b, suc_ℤ-*ℤ k b, h, neg_ℤ-+ℤ (k *ℤ b) b))
    (λ k h. rw (neg_ℤ-pred_ℤ k, suc_ℤ-*ℤ (neg_ℤ k) b, pred_ℤ-*ℤ k b, h, neg_ℤ-+ℤ (k *ℤ b) (neg_ℤ b), neg_ℤ-neg_ℤ b))
    a

pub *ℤ-assoc : (a b c : ℤ) → (a *ℤ b) *ℤ c ≡ a *ℤ (b *ℤ c)
*ℤ-assoc a b c =
    ind (λ a. (a *ℤ b) *ℤ c ≡ a *ℤ (b *ℤ c))
    (rw (zero-*ℤ b, zero-*ℤ c, zero-*ℤ (b *ℤ c)))
    (λ k h. rw (suc_ℤ-*ℤ k b, suc_ℤ-*ℤ k (b *ℤ c), *ℤ-distr-r (k *ℤ b) b c, h))
    (λ k h. rw (pred_ℤ-*ℤ k b, pred_ℤ-*ℤ k (b *ℤ c), *ℤ-distr-r (k *ℤ b) (neg_ℤ b) c, h, negℤ-*ℤ b c))
    a

pub *ℤ-left-comm : (a b c : ℤ) → a *ℤ (b *ℤ c) ≡ b *ℤ (a *ℤ c)
*ℤ-left-comm a b c = sym (*ℤ-assoc a b c) ∙ ap (λ x. x *ℤ c) (*ℤ_comm a b) ∙ *ℤ-assoc b a c

pub *ℤ-distr-sub-r : (a b c : ℤ) → (a -ℤ b) *ℤ c ≡ a *ℤ c -ℤ b *ℤ c
*ℤ-distr-sub-r a b c = *ℤ-distr-r a (neg_ℤ b) c ∙ ap (λ x. a *ℤ c +ℤ x) (negℤ-*ℤ b c)

pub -ℤ-zero : {a b : ℤ} → a -ℤ b ≡ pos 0 → a ≡ b
-ℤ-zero {a} {b} e = sym (-ℤ-+ℤ_cancel a b) ∙ ap (λ x. x +ℤ b) e ∙ +ℤ_idl b

-- ---- the absolute value
pub nat_abs-neg : (a : ℤ) → nat_abs (neg_ℤ a) ≡ nat_abs a
nat_abs-neg (pos zero) = refl
nat_abs-neg (pos (suc n)) = refl
nat_abs-neg (negsuc n) = refl

pub nat_abs-* : (a b : ℤ) → nat_abs (a *ℤ b) ≡ nat_abs a * nat_abs b
nat_abs-* (pos a) (pos b) = refl
nat_abs-* (pos a) (negsuc b) = nat_abs-neg (pos (a * suc b))
nat_abs-* (negsuc a) (pos b) = nat_abs-neg (pos (suc a * b))
nat_abs-* (negsuc a) (negsuc b) = refl

-- what holds of both arms of a choice, each under its condition, holds of the choice
pub cond_ind {ℓ} : {A : Type 0} (c : Bool) (x y : A) (P : A → Type ℓ) → (T c → P x) → (T (not c) → P y) → P (cond c x y)
cond_ind true x y P f g = f tt
cond_ind false x y P f g = g tt

nat_abs-sub : (a b : ℕ) → nat_abs (sub_ℕ a b) ≤ a + b
nat_abs-sub a b =
    cond_ind (ltb a b) (negsuc (b - suc a)) (pos (a - b)) (λ z. nat_abs z ≤ a + b)
    (λ t. omega (arith, ltb→lt a b t)) (λ t. omega arith)

pub nat_abs-+ : (a b : ℤ) → nat_abs (a +ℤ b) ≤ nat_abs a + nat_abs b
nat_abs-+ (pos a) (pos b) = omega arith
nat_abs-+ (pos a) (negsuc b) = nat_abs-sub a (suc b)
nat_abs-+ (negsuc a) (pos b) = omega (arith, nat_abs-sub b (suc a))
nat_abs-+ (negsuc a) (negsuc b) = omega arith

pub nat_abs-- : (a b : ℤ) → nat_abs (a -ℤ b) ≤ nat_abs a + nat_abs b
nat_abs-- a b = omega (arith, nat_abs-+ a (neg_ℤ b), nat_abs-neg b)

pub nat_abs-zero : (a : ℤ) → nat_abs a ≡ 0 → a ≡ pos 0
nat_abs-zero (pos n) e = ap pos e
nat_abs-zero (negsuc n) e = absurd (suc-ne-zero n e)

-- ---- a product that is 0, and cancelling a factor
right_zero : (a b : ℤ) (n : ℕ) → nat_abs a ≡ suc n → a *ℤ b ≡ pos 0 → b ≡ pos 0
right_zero a b n h e =
    nat_abs-zero b
    (eq_of_mul-eq-mul_left (suc n) (zero-lt-suc n) (nat_abs b) 0
    (ap (λ x. x * nat_abs b) (sym h) ∙ sym (nat_abs-* a b) ∙ ap nat_abs e ∙ sym (mul-zero (suc n))))

pub *ℤ-zero-cases : (a b : ℤ) → a *ℤ b ≡ pos 0 → (a ≡ pos 0) ⊎ (b ≡ pos 0)
*ℤ-zero-cases (pos zero) b e = inl refl
*ℤ-zero-cases (pos (suc n)) b e = inr (right_zero (pos (suc n)) b n refl e)
*ℤ-zero-cases (negsuc n) b e = inr (right_zero (negsuc n) b n refl e)

pub *ℤ-cancel-r : {a b : ℤ} (c : ℤ) → (c ≡ pos 0 → ⊥) → a *ℤ c ≡ b *ℤ c → a ≡ b
*ℤ-cancel-r {a} {b} c n e =
    ⊎_elim (λ z. -ℤ-zero z) (λ z. absurd (n z))
    (*ℤ-zero-cases (a -ℤ b) c (*ℤ-distr-sub-r a b c ∙ ap (λ x. x -ℤ b *ℤ c) e ∙ +ℤ_invr (b *ℤ c)))
