-- The order of the integers for `omega`, which reads only naturals: an integer is the difference of its two parts, `pz z` and `nz z`,
-- of which one is 0. `omega (arith, orders)` reads each `a ≤ℤ b` and `a <ℤ b` in scope and proves such a goal; a sum, a difference
-- or an absolute value goes in by `add`, `sub`, `abs`.
use mathlib.Core.Path.{◌≡◌, refl, sym, ap, ◌∙◌, subst}
use mathlib.Core.Bool.{true, false, not}
use Prim.Native.Nat.{ℕ, zero, suc, ◌+◌, ◌-◌, ◌≤◌, ◌<◌, min}
use native.Mathlib.Omega.{arith}
use lib.Dec.{T, ltb, leb→le, le→leb, ltb→lt, lt→ltb, nltb→le}
use lib.IntN.{ℤ, pos, negsuc, neg_ℤ, sub_ℕ, nat_abs, ◌+ℤ◌, ◌-ℤ◌}
use lib.Signed.{le_z, lt_z, ◌≤ℤ◌, ◌<ℤ◌, lt_z_no}
use Rattle.whole.proofs.Integers.{cond_ind}

abbrev pub pz : ℤ → ℕ
pz (pos n) = n
pz (negsuc n) = 0

abbrev pub nz : ℤ → ℕ
nz (pos n) = 0
nz (negsuc n) = suc n

-- ---- the order and equality, to and from their parts
le_parts : (a b : ℤ) → T (le_z a b) → pz a + nz b ≤ pz b + nz a
le_parts (pos a) (pos b) t = omega (arith, leb→le)
le_parts (pos a) (negsuc b) t = absurd t
le_parts (negsuc a) (pos b) t = omega arith
le_parts (negsuc a) (negsuc b) t = omega (arith, leb→le)

parts-le : (a b : ℤ) → pz a + nz b ≤ pz b + nz a → T (le_z a b)
parts-le (pos a) (pos b) h = omega (arith, le→leb)
parts-le (pos a) (negsuc b) h = let e : ⊥ = omega arith in absurd e
parts-le (negsuc a) (pos b) h = tt
parts-le (negsuc a) (negsuc b) h = omega (arith, le→leb)

lt-parts : (a b : ℤ) → T (lt_z a b) → pz a + nz b < pz b + nz a
lt-parts (pos a) (pos b) t = omega (arith, ltb→lt)
lt-parts (pos a) (negsuc b) t = absurd t
lt-parts (negsuc a) (pos b) t = omega arith
lt-parts (negsuc a) (negsuc b) t = omega (arith, ltb→lt)

parts-lt : (a b : ℤ) → pz a + nz b < pz b + nz a → T (lt_z a b)
parts-lt (pos a) (pos b) h = omega (arith, lt→ltb)
parts-lt (pos a) (negsuc b) h = let e : ⊥ = omega arith in absurd e
parts-lt (negsuc a) (pos b) h = tt
parts-lt (negsuc a) (negsuc b) h = omega (arith, lt→ltb)

pub le-nat : {a b : ℤ} → a ≤ℤ b → pz a + nz b ≤ pz b + nz a
le-nat {a} {b} h = le_parts a b h.le

pub nat_le : {a b : ℤ} → pz a + nz b ≤ pz b + nz a → a ≤ℤ b
nat_le {a} {b} h = record { le = parts-le a b h }

pub lt-nat : {a b : ℤ} → a <ℤ b → pz a + nz b < pz b + nz a
lt-nat {a} {b} h = lt-parts a b h.lt

pub nat_lt : {a b : ℤ} → pz a + nz b < pz b + nz a → a <ℤ b
nat_lt {a} {b} h = record { lt = parts-lt a b h }

pub eq-nat : {a b : ℤ} → a ≡ b → pz a + nz b ≡ pz b + nz a
eq-nat {a} {b} h = ap (λ x. pz x + nz b) h ∙ ap (λ x. pz b + nz x) (sym h)

pub nat_eq : {a b : ℤ} → pz a + nz b ≡ pz b + nz a → a ≡ b
nat_eq {a = pos a} {b = pos b} h = ap pos (omega arith)
nat_eq {a = pos a} {b = negsuc b} h = let e : ⊥ = omega arith in absurd e
nat_eq {a = negsuc a} {b = pos b} h = let e : ⊥ = omega arith in absurd e
nat_eq {a = negsuc a} {b = negsuc b} h = ap negsuc (omega arith)

-- ---- the parts of a sum, a negation, a difference, an absolute value
sub_parts : (a b : ℕ) → pz (sub_ℕ a b) + b ≡ nz (sub_ℕ a b) + a
sub_parts a b = cond_ind (ltb a b) (negsuc (b - suc a)) (pos (a - b)) (λ z. pz z + b ≡ nz z + a)
    (λ t. omega (arith, ltb→lt)) (λ t. omega (arith, nltb→le))

pub add : (a b : ℤ) → pz (a +ℤ b) + (nz a + nz b) ≡ nz (a +ℤ b) + (pz a + pz b)
add (pos a) (pos b) = omega arith
add (pos a) (negsuc b) = omega (arith, sub_parts a (suc b))
add (negsuc a) (pos b) = omega (arith, sub_parts b (suc a))
add (negsuc a) (negsuc b) = omega arith

pub pz-neg : (a : ℤ) → pz (neg_ℤ a) ≡ nz a
pz-neg (pos zero) = refl
pz-neg (pos (suc n)) = refl
pz-neg (negsuc n) = refl

pub nz-neg : (a : ℤ) → nz (neg_ℤ a) ≡ pz a
nz-neg (pos zero) = refl
nz-neg (pos (suc n)) = refl
nz-neg (negsuc n) = refl

pub sub : (a b : ℤ) → pz (a -ℤ b) + (nz a + pz b) ≡ nz (a -ℤ b) + (pz a + nz b)
sub a b = omega (arith, add a (neg_ℤ b), pz-neg b, nz-neg b)

pub abs : (a : ℤ) → (nat_abs a ≡ pz a + nz a) × (min (pz a) (nz a) ≡ 0)
abs (pos n) = omega arith
abs (negsuc n) = omega arith

-- the first reads a hypothesis and the second turns a goal, for each of the two orders
pub ruleset orders = (le-nat, nat_le, lt-nat, nat_lt)

-- ---- what a test tells, where a branch of the code leaves it as an equation
pub lt-true : (a b : ℤ) → lt_z a b ≡ true → a <ℤ b
lt-true a b e = record { lt = subst T (sym e) tt }

pub lt-false : (a b : ℤ) → lt_z a b ≡ false → b ≤ℤ a
lt-false a b e = lt_z_no (subst (λ c. T (not c)) (sym e) tt)

-- ---- a number and its absolute value, by its sign
pub abs-nonneg : (a : ℤ) → pos 0 ≤ℤ a → a ≡ pos (nat_abs a)
abs-nonneg (pos n) h = refl
abs-nonneg (negsuc n) h = absurd h.le

pub abs-negative : (a : ℤ) → a <ℤ pos 0 → neg_ℤ a ≡ pos (nat_abs a)
abs-negative (pos n) h = let e : ⊥ = omega (arith, lt-nat h) in absurd e
abs-negative (negsuc n) h = refl
