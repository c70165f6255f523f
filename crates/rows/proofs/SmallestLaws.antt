-- The non-zero coefficient of smallest absolute value, lowest column on a tie.
use mathlib.Core.Path.{◌≡◌, refl}
use mathlib.Core.Bool.{Bool, true, false, not, ◌&&◌, ◌||◌, cond}
use mathlib.Core.List.{List, [], ◌∷◌}
use Prim.Native.Nat.{ℕ, zero, suc, ◌≤◌, ◌<◌, suc-le-suc}
use native.Mathlib.Nat.{not-suc-le-zero, le_of_suc-le-suc, zero-lt-suc, eq-zero_of_zero-dvd}
use native.Mathlib.Decide.{dec_lt}
use native.Mathlib.Omega.{arith}
use borrow.Author.Tests.{leb-true, leb-false, eqb-true, eqb-false}
use lib.Dec.{leb, eqb}
use lib.ListN.{length}
use lib.IntN.{ℤ, pos, nat_abs}
use Rattle.whole.proofs.Integers.{nat_abs-zero}
use Rattle.whole.proofs.Divides.{dvd-zero}
use Rattle.rows.specs.Row.{at, gcd_of, leads, smallest}
use Rattle.rows.proofs.Divisors.{gcd_of-greatest}

-- what is known of the smallest: k is its column, or the length where every number is 0
pub record Smallest (row : List ℤ) (k : ℕ) : Type 0 where
  pub within : (i : ℕ) → 0 < nat_abs (at row i) → k < length row
  pub nonzero : (i : ℕ) → 0 < nat_abs (at row i) → 0 < nat_abs (at row k)
  pub least : (i : ℕ) → 0 < nat_abs (at row i) → nat_abs (at row k) ≤ nat_abs (at row i)
  pub lowest : (i : ℕ) → 0 < nat_abs (at row i) → i < k → nat_abs (at row k) < nat_abs (at row i)

-- the two ways that a comparison of sizes, 0 standing for none, can go
data Leads (a b : ℕ) : Bool → Type 0 where
  ahead : 0 < a → (0 < b → a ≤ b) → Leads a b true
  behind : (0 < a → (0 < b) × (b < a)) → Leads a b false

leading : (a b : ℕ) → Leads a b (not (eqb a 0) && (eqb b 0 || leb a b))
leading a b = go (eqb a 0) (eqb b 0) (leb a b) refl refl refl
  where
    go : (x y z : Bool) → eqb a 0 ≡ x → eqb b 0 ≡ y → leb a b ≡ z → Leads a b (not x && (y || z))
    go true y z e f g = behind (λ h. let e' = eqb-true a 0 e in absurd (omega arith))
    go false true z e f g = ahead (let n = eqb-false a 0 e in omega arith) (λ h. let f' = eqb-true b 0 f in omega arith)
    go false false true e f g = ahead (let n = eqb-false a 0 e in omega arith) (λ h. leb-true a b g)
    go false false false e f g = behind (λ h. let n = eqb-false b 0 f in (omega arith, leb-false a b g))

pub smallest-is : (row : List ℤ) → Smallest row (smallest row)
unfolding smallest
smallest-is [] = record {
  within = λ i h. absurd (not-suc-le-zero h);
  nonzero = λ i h. h;
  least = λ i h. absurd (not-suc-le-zero h);
  lowest = λ i h l. absurd (not-suc-le-zero h);
}
smallest-is (a ∷ row) = go (leads a (at row (smallest row))) (leading (nat_abs a) (nat_abs (at row (smallest row)))) (smallest-is row)
  where
    here : (k : ℕ) → 0 < nat_abs a → (0 < nat_abs (at row k) → nat_abs a ≤ nat_abs (at row k)) → Smallest row k → Smallest (a ∷ row) 0
    here k p q s = record {
      within = λ i h. zero-lt-suc (length row);
      nonzero = λ i h. p;
      least = elim [ zero ↦ λ h. omega arith | suc i ↦ λ h. let l = q (s.nonzero i h) in let r = s.least i h in omega arith ];
      lowest = λ i h l. absurd (not-suc-le-zero l);
    }

    there : (k : ℕ) → (0 < nat_abs a → (0 < nat_abs (at row k)) × (nat_abs (at row k) < nat_abs a)) → Smallest row k → Smallest (a ∷ row) (suc k)
    there k p s = record {
      within = elim [ zero ↦ λ h. suc-le-suc (s.within k (p h).0) | suc i ↦ λ h. suc-le-suc (s.within i h) ];
      nonzero = elim [ zero ↦ λ h. (p h).0 | suc i ↦ λ h. s.nonzero i h ];
      least = elim [ zero ↦ λ h. let l = (p h).1 in omega arith | suc i ↦ λ h. s.least i h ];
      lowest = elim [ zero ↦ λ h l. (p h).1 | suc i ↦ λ h l. s.lowest i h (le_of_suc-le-suc l) ];
    }

    go : (t : Bool) → Leads (nat_abs a) (nat_abs (at row (smallest row))) t → Smallest row (smallest row) → Smallest (a ∷ row) (cond t 0 (suc (smallest row)))
    go true (ahead p q) s = here (smallest row) p q s
    go false (behind p) s = there (smallest row) p s

-- ---- the smallest number of a row that is not all zero is not 0: else 0 would divide every number, and so the gcd
pub smallest-nonzero : (row : List ℤ) → 0 < gcd_of row → 0 < nat_abs (at row (smallest row))
smallest-nonzero row h = go (dec_lt 0 (nat_abs (at row (smallest row))))
  where
    all-zero : (0 < nat_abs (at row (smallest row)) → ⊥) → (i : ℕ) → at row i ≡ pos 0
    all-zero f i =
        let none : 0 < nat_abs (at row i) → ⊥ = λ p. f ((smallest-is row).nonzero i p) in
        nat_abs-zero (at row i) (omega arith)

    go : Dec (0 < nat_abs (at row (smallest row))) → 0 < nat_abs (at row (smallest row))
    go (yes p) = p
    go (no f) =
        let z : gcd_of row ≡ 0 = eq-zero_of_zero-dvd (gcd_of-greatest row 0 (λ i l. rw (all-zero f i) dvd-zero)) in
        let bad : ⊥ = omega arith in
        absurd bad

pub smallest-inside : (row : List ℤ) → 0 < gcd_of row → smallest row < length row
smallest-inside row h = (smallest-is row).within (smallest row) (smallest-nonzero row h)
