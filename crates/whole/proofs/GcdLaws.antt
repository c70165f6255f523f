-- `gcd a b` divides a and b, and all that divides both divides it. All other laws of it follow from these, since two numbers that divide
-- each other are equal.
use mathlib.Core.Path.{◌≡◌, refl, sym, ◌∙◌, subst}
use Prim.Native.Nat.{ℕ, zero, suc, ◌*◌, ◌/◌, ◌%◌, ◌≤◌, ◌<◌, ◌∣◌, zero-le}
use native.Mathlib.Nat.{mod-lt, zero-lt-suc, le_trans, le_refl, le_of_suc-le-suc, le_antisymm, zero-mul, mul-div_cancel'}
use native.Mathlib.Nat.{dvd_refl, dvd-zero, dvd_trans, dvd_antisymm, dvd-mod_iff, dvd-mul_right, mul-dvd-mul_left, dvd_of_mul-dvd-mul_left}
use native.Mathlib.Nat.{eq-one_of_dvd-one, le_of_dvd, pos_of_dvd_of_pos}
use Rattle.whole.specs.Gcd.{gcd, gcd_within}

-- ---- Euclid's rule with rounds enough
within-divides : (k a b : ℕ) → b ≤ k → (gcd_within k a b ∣ a) × (gcd_within k a b ∣ b)
unfolding gcd_within
within-divides zero a b h = (dvd_refl a, rw (le_antisymm h zero-le) (dvd-zero a))
within-divides (suc k) a zero h = (dvd_refl a, dvd-zero a)
within-divides (suc k) a (suc b) h =
    let r = within-divides k (suc b) (a % suc b) (le_trans (le_of_suc-le-suc (mod-lt a (zero-lt-suc b))) (le_of_suc-le-suc h)) in
    ((dvd-mod_iff (gcd_within k (suc b) (a % suc b)) r.0).0 r.1, r.0)

within-greatest : (k a b d : ℕ) → d ∣ a → d ∣ b → d ∣ gcd_within k a b
unfolding gcd_within
within-greatest zero a b d p q = p
within-greatest (suc k) a zero d p q = p
within-greatest (suc k) a (suc b) d p q = within-greatest k (suc b) (a % suc b) d q ((dvd-mod_iff d q).1 p)

-- ---- what the greatest common divisor is
pub gcd-l : (a b : ℕ) → gcd a b ∣ a
unfolding gcd
gcd-l a b = (within-divides b a b (le_refl b)).0

pub gcd-r : (a b : ℕ) → gcd a b ∣ b
unfolding gcd
gcd-r a b = (within-divides b a b (le_refl b)).1

pub gcd-greatest : (a b d : ℕ) → d ∣ a → d ∣ b → d ∣ gcd a b
unfolding gcd
gcd-greatest a b d p q = within-greatest b a b d p q

-- ---- as an operation: commutative, associative, with the unit 0
pub gcd-comm : (a b : ℕ) → gcd a b ≡ gcd b a
gcd-comm a b =
    dvd_antisymm (gcd-greatest b a (gcd a b) (gcd-r a b) (gcd-l a b)) (gcd-greatest a b (gcd b a) (gcd-r b a) (gcd-l b a))

pub gcd-assoc : (a b c : ℕ) → gcd (gcd a b) c ≡ gcd a (gcd b c)
gcd-assoc a b c =
    let l = gcd (gcd a b) c in
    let r = gcd a (gcd b c) in
    let la : l ∣ a = dvd_trans l (gcd-l (gcd a b) c) (gcd-l a b) in
    let lb : l ∣ b = dvd_trans l (gcd-l (gcd a b) c) (gcd-r a b) in
    let rb : r ∣ b = dvd_trans r (gcd-r a (gcd b c)) (gcd-l b c) in
    let rc : r ∣ c = dvd_trans r (gcd-r a (gcd b c)) (gcd-r b c) in
    dvd_antisymm (gcd-greatest a (gcd b c) l la (gcd-greatest b c l lb (gcd-r (gcd a b) c)))
    (gcd-greatest (gcd a b) c r (gcd-greatest a b r (gcd-l a (gcd b c)) rb) rc)

pub gcd-zero-r : (a : ℕ) → gcd a 0 ≡ a
unfolding gcd gcd_within
gcd-zero-r a = refl

pub gcd-zero-l : (b : ℕ) → gcd 0 b ≡ b
gcd-zero-l b = gcd-comm 0 b ∙ gcd-zero-r b

pub gcd-one-r : (a : ℕ) → gcd a 1 ≡ 1
gcd-one-r a = eq-one_of_dvd-one (gcd-r a 1)

-- one round of the loop, which goes on while the second number is not 0
pub gcd-step : (a b : ℕ) → 0 < b → gcd b (a % b) ≡ gcd a b
gcd-step a b h =
    let l = gcd b (a % b) in
    let r = gcd a b in
    dvd_antisymm (gcd-greatest a b l ((dvd-mod_iff l (gcd-l b (a % b))).0 (gcd-r b (a % b))) (gcd-l b (a % b)))
    (gcd-greatest b (a % b) r (gcd-r a b) ((dvd-mod_iff r (gcd-r a b)).1 (gcd-l a b)))

-- ---- its size
pub gcd-nonzero-l : (a b : ℕ) → 0 < a → 0 < gcd a b
gcd-nonzero-l a b h = pos_of_dvd_of_pos (gcd-l a b) h

pub gcd-nonzero-r : (a b : ℕ) → 0 < b → 0 < gcd a b
gcd-nonzero-r a b h = pos_of_dvd_of_pos (gcd-r a b) h

pub gcd-le : (a b : ℕ) → 0 < a → gcd a b ≤ a
gcd-le a b h = le_of_dvd h (gcd-l a b)

-- ---- a common factor comes out
pub gcd-mul : (k a b : ℕ) → gcd (k * a) (k * b) ≡ k * gcd a b
gcd-mul zero a b = rw (zero-mul a, zero-mul b, zero-mul (gcd a b)) (gcd-zero-r 0)
gcd-mul (suc n) a b =
    let k = suc n in
    let g = gcd (k * a) (k * b) in
    let m = g / k in
    let e : k * m ≡ g = mul-div_cancel' k (gcd-greatest (k * a) (k * b) k (dvd-mul_right k a) (dvd-mul_right k b)) in
    let ma : m ∣ a = dvd_of_mul-dvd-mul_left m (zero-lt-suc n) (subst (λ x. x ∣ k * a) (sym e) (gcd-l (k * a) (k * b))) in
    let mb : m ∣ b = dvd_of_mul-dvd-mul_left m (zero-lt-suc n) (subst (λ x. x ∣ k * b) (sym e) (gcd-r (k * a) (k * b))) in
    dvd_antisymm (subst (λ x. x ∣ k * gcd a b) e (mul-dvd-mul_left m k (gcd-greatest a b m ma mb)))
    (gcd-greatest (k * a) (k * b) (k * gcd a b) (mul-dvd-mul_left (gcd a b) k (gcd-l a b)) (mul-dvd-mul_left (gcd a b) k (gcd-r a b)))
