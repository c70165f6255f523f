-- The value of a row at a point as that of its coefficients and that of its constant, and rows of which little is not 0.
use mathlib.Core.Path.{◌≡◌, refl, sym, ap, ap₂, ◌∙◌, subst}
use mathlib.Core.Logic.{◌≢◌}
use mathlib.Core.Bool.{true}
use mathlib.Core.List.{List, [], ◌∷◌}
use Prim.Native.Nat.{ℕ, zero, suc, ◌<◌}
use native.Mathlib.Nat.{suc_inj, suc-ne-zero}
use native.Mathlib.Decide.{ℕ_discrete}
use native.Mathlib.Omega.{arith}
use borrow.Author.Tests.{eqb-true}
use lib.Dec.{eqb}
use lib.ListN.{length, set, take}
use lib.Seq.{get_or-set_same, get_or-set_other}
use lib.IntN.{ℤ, pos, nat_abs, ◌+ℤ◌, ◌-ℤ◌, ◌*ℤ◌}
use Rattle.whole.specs.Gcd.{divides}
use Rattle.whole.proofs.Divides.{◌∣ℤ◌, dvd-zero, dvd-sub, divides-true, true-divides}
use Rattle.whole.proofs.Integers.{nat_abs-zero}
use Rattle.whole.proofs.Reify.{reify, ring}
use Rattle.rows.specs.Row.{at, dot, unit_row}
use Rattle.rows.proofs.Algebra.{dot-set-row, dot-unit}
use Rattle.rows.proofs.Divisors.{dot-divides}
use Rattle.rows.proofs.Bounded.{and_left, and_right, and_both}
use Rattle.rules.specs.Checker.{divides_all}

-- ---- the coefficients and the constant

pub dot-split : (n : ℕ) (row x : List ℤ) → length row ≡ suc n → length x ≡ suc n → dot row x ≡ dot (take n row) (take n x) +ℤ at row n *ℤ at x n
unfolding dot
dot-split n [] x l h = absurd (suc-ne-zero n (sym l))
dot-split n (a ∷ row) [] l h = absurd (suc-ne-zero n (sym h))
dot-split zero (a ∷ []) (b ∷ []) l h = ring (a ∷ b ∷ []) (search reify) (search reify) refl
dot-split zero (a ∷ []) (b ∷ c ∷ x) l h = let z : ⊥ = omega arith in absurd z
dot-split zero (a ∷ c ∷ row) (b ∷ x) l h = let z : ⊥ = omega arith in absurd z
dot-split (suc n) (a ∷ row) (b ∷ x) l h =
    ap (λ z. a *ℤ b +ℤ z) (dot-split n row x (suc_inj l) (suc_inj h))
    ∙ ring ((a *ℤ b) ∷ dot (take n row) (take n x) ∷ at row n ∷ at x n ∷ []) (search reify) (search reify) refl

-- what divides every coefficient divides the row's value at a point that ends in 0
module _ (d n : ℕ) (row x : List ℤ) (l : length row ≡ suc n) (h : length x ≡ suc n) (all : (i : ℕ) → d ∣ℤ at (take n row) i) where
  pub divides-value : at x n ≡ pos 0 → d ∣ℤ dot row x
  divides-value e =
      subst (λ z. d ∣ℤ z)
      (ring (dot (take n row) (take n x) ∷ at row n ∷ []) (search reify) (search reify) refl
      ∙ ap (λ z. dot (take n row) (take n x) +ℤ at row n *ℤ z) (sym e)
      ∙ sym (dot-split n row x l h))
      (dot-divides d (take n row) (take n x) all)

  -- and, where it divides the value at a point that ends in 1, the constant
  pub divides-constant : at x n ≡ pos 1 → d ∣ℤ dot row x → d ∣ℤ at row n
  divides-constant e p =
      subst (λ z. d ∣ℤ z)
      (ap (λ z. z -ℤ dot (take n row) (take n x)) (dot-split n row x l h ∙ ap (λ z. dot (take n row) (take n x) +ℤ at row n *ℤ z) e)
      ∙ ring (dot (take n row) (take n x) ∷ at row n ∷ []) (search reify) (search reify) refl)
      (dvd-sub p (dot-divides d (take n row) (take n x) all))

-- ---- the checker's test of all coefficients

pub all-divided : (d : ℕ) (row : List ℤ) → divides_all d row ≡ true → (i : ℕ) → d ∣ℤ at row i
unfolding divides_all
all-divided d [] e i = dvd-zero
all-divided d (a ∷ row) e zero = divides-true d a (and_left (divides d a) (divides_all d row) e)
all-divided d (a ∷ row) e (suc i) = all-divided d row (and_right (divides d a) (divides_all d row) e) i

pub divided-all : (d : ℕ) (row : List ℤ) → ((i : ℕ) → i < length row → d ∣ℤ at row i) → divides_all d row ≡ true
unfolding divides_all
divided-all d [] f = refl
divided-all d (a ∷ row) f = and_both (true-divides (f 0 (omega arith))) (divided-all d row (λ i h. f (suc i) (omega arith)))

-- ---- a product is 0 where a factor is

pub product-zero-l : (a b : ℤ) → eqb (nat_abs a) 0 ≡ true → a *ℤ b ≡ pos 0
product-zero-l a b e = ap (λ z. z *ℤ b) (nat_abs-zero a (eqb-true (nat_abs a) 0 e)) ∙ ring (b ∷ []) (search reify) (search reify) refl

pub product-zero-r : (a b : ℤ) → b ≡ pos 0 → a *ℤ b ≡ pos 0
product-zero-r a b e = ap (λ z. a *ℤ z) e ∙ ring (a ∷ []) (search reify) (search reify) refl

-- ---- rows of which all is 0, or all but one number

pub dot-nothing : (row x : List ℤ) → ((i : ℕ) → at row i ≡ pos 0) → dot row x ≡ pos 0
unfolding dot
dot-nothing [] x f = refl
dot-nothing (a ∷ row) [] f = refl
dot-nothing (a ∷ row) (b ∷ x) f =
    ap₂ (λ u v. u *ℤ b +ℤ v) (f 0) (dot-nothing row x (λ i. f (suc i))) ∙ ring (b ∷ []) (search reify) (search reify) refl

-- one number made 0, where all others are
pub nothing_left : (row : List ℤ) (k : ℕ) → k < length row → ((i : ℕ) → i ≢ k → at row i ≡ pos 0) → (i : ℕ)
    → at (set row k (pos 0)) i ≡ pos 0
nothing_left row k h f i = go (ℕ_discrete i k)
  where
    go : Dec (i ≡ k) → at (set row k (pos 0)) i ≡ pos 0
    go (yes e) = ap (λ j. at (set row k (pos 0)) j) e ∙ get_or-set_same row k (pos 0) (pos 0) h
    go (no e) = get_or-set_other row k i (pos 0) (pos 0) e ∙ f i e

pub dot-single : (row x : List ℤ) (k : ℕ) → k < length row → ((i : ℕ) → i ≢ k → at row i ≡ pos 0) → dot row x ≡ at row k *ℤ at x k
dot-single row x k h f =
    ring (dot row x ∷ at row k ∷ at x k ∷ []) {b = dot row x +ℤ (pos 0 -ℤ at row k) *ℤ at x k +ℤ at row k *ℤ at x k} (search reify) (search reify) refl
    ∙ ap (λ z. z +ℤ at row k *ℤ at x k) (sym (dot-set-row row x k (pos 0) h) ∙ dot-nothing (set row k (pos 0)) x (nothing_left row k h f))
    ∙ ring ((at row k *ℤ at x k) ∷ []) (search reify) (search reify) refl

-- ---- a row's number is its value at a unit point

dot-comm : (row x : List ℤ) → dot row x ≡ dot x row
unfolding dot
dot-comm [] [] = refl
dot-comm [] (b ∷ x) = refl
dot-comm (a ∷ row) [] = refl
dot-comm (a ∷ row) (b ∷ x) = ap (λ z. a *ℤ b +ℤ z) (dot-comm row x) ∙ ring (a ∷ b ∷ dot x row ∷ []) (search reify) (search reify) refl

pub dot-at-unit : (row : List ℤ) (width i : ℕ) → i < width → dot row (unit_row width i) ≡ at row i
dot-at-unit row width i h = dot-comm row (unit_row width i) ∙ dot-unit width i row h
