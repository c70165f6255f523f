-- What the two conflicts between inequalities promise: no whole numbers satisfy the inequalities in conflict and the equations that they
-- used. The tightened rows, taken at the way back, would say that a number above 0 is not above 0.
use mathlib.Core.Path.{◌≡◌, refl, ap, ap₂, ◌∙◌, subst}
use mathlib.Core.Bool.{Bool, true, not, ◌&&◌}
use mathlib.Core.List.{List, [], ◌∷◌}
use Prim.Native.Nat.{ℕ, zero, suc}
use native.Mathlib.Omega.{arith}
use borrow.Author.Tests.{eqb-true}
use lib.Dec.{eqb}
use lib.ListN.{length, take}
use lib.IntN.{ℤ, pos, nat_abs, ◌+ℤ◌, ◌*ℤ◌, +ℤ_idl}
use lib.Signed.{◌≤ℤ◌, clash_ℤ}
use Rattle.whole.proofs.Integers.{nat_abs-zero}
use Rattle.whole.proofs.Order.{lt-true}
use Rattle.whole.proofs.Reify.{reify, ring}
use Rattle.whole.proofs.Linear.{le-by, le_on, eq-on}
use Rattle.rows.specs.Row.{at, dot, opposite, all_zero}
use Rattle.rows.specs.Table.{Wide}
use Rattle.rows.proofs.Bounded.{and_left, and_right}
use Rattle.rules.specs.Elimination.{State, finished, run}
use Rattle.rules.specs.Inequalities.{sums, used_by, tightened_row, positive, alone, against}
use Rattle.promises.specs.Meaning.{Meets, SatisfiesSet, parameters}
use Rattle.promises.proofs.Values.{dot-nothing}
use Rattle.promises.proofs.Runs.{Right, run-right}
use Rattle.promises.proofs.Solved.{long-parameters}
use Rattle.promises.proofs.Tight.{dot-point, length-tightened}
use Rattle.promises.proofs.Tightened.{tightened}

-- ---- what the tests of the coefficients say of the value

all-zero : (row : List ℤ) → all_zero row ≡ true → (i : ℕ) → at row i ≡ pos 0
unfolding all_zero
all-zero [] e i = refl
all-zero (a ∷ row) e zero = nat_abs-zero a (eqb-true (nat_abs a) 0 (and_left (eqb (nat_abs a) 0) (all_zero row) e))
all-zero (a ∷ row) e (suc i) = all-zero row (and_right (eqb (nat_abs a) 0) (all_zero row) e) i

opposites : (row other y : List ℤ) → opposite row other ≡ true → dot row y +ℤ dot other y ≡ pos 0
unfolding opposite dot
opposites [] [] y e = refl
opposites [] (b ∷ other) y e = let z : ◌≡◌ {A = ℕ} 0 1 = cc in let bad : ⊥ = omega arith in absurd bad
opposites (a ∷ row) [] y e = let z : ◌≡◌ {A = ℕ} 0 1 = cc in let bad : ⊥ = omega arith in absurd bad
opposites (a ∷ row) (b ∷ other) [] e = refl
opposites (a ∷ row) (b ∷ other) (c ∷ y) e =
    ring (a ∷ b ∷ c ∷ dot row y ∷ dot other y ∷ []) {b = (a +ℤ b) *ℤ c +ℤ (dot row y +ℤ dot other y)} (search reify) (search reify) refl
    ∙ ap₂ (λ u v. u *ℤ c +ℤ v) (nat_abs-zero (a +ℤ b) (eqb-true (nat_abs (a +ℤ b)) 0 (and_left (eqb (nat_abs (a +ℤ b)) 0) (opposite row other) e)))
    (opposites row other y (and_right (eqb (nat_abs (a +ℤ b)) 0) (opposite row other) e))
    ∙ ring (c ∷ []) (search reify) (search reify) refl

-- ---- rows in conflict are not met together

module _ (n : ℕ) (row y : List ℤ) (l : length row ≡ suc n) (h : length y ≡ n) (meets : Meets y row) where
  coefficients : (dot (take n row) y +ℤ at row n) ≤ℤ pos 0
  coefficients = subst (λ z. z ≤ℤ pos 0) (dot-point n row y l h) meets

  not-alone : alone n row ≡ true → ⊥
  unfolding alone
  not-alone e =
      clash_ℤ (lt-true (pos 0) (at row n) (and_right (all_zero (take n row)) (positive (at row n)) e))
      (subst (λ z. z ≤ℤ pos 0)
      (ap (λ z. z +ℤ at row n) (dot-nothing (take n row) y (all-zero (take n row) (and_left (all_zero (take n row)) (positive (at row n)) e)))
      ∙ +ℤ_idl (at row n))
      coefficients)

-- p + c ≤ 0 and q + d ≤ 0 with p + q = 0
sum-not-above : (p q c d : ℤ) → p +ℤ q ≡ pos 0 → (p +ℤ c) ≤ℤ pos 0 → (q +ℤ d) ≤ℤ pos 0 → (c +ℤ d) ≤ℤ pos 0
sum-not-above p q c d e f g =
    let ρ = p ∷ q ∷ c ∷ d ∷ [] in
    let a = eq-on ρ (search reify) (search reify) e in
    let b = le_on ρ (search reify) (search reify) f in
    let k = le_on ρ (search reify) (search reify) g in
    le-by ρ (search reify) (search reify) (omega arith)

not-against : (n : ℕ) (row other y : List ℤ) → length row ≡ suc n → length other ≡ suc n → length y ≡ n → Meets y row → Meets y other
    → against n row other ≡ true → ⊥
unfolding against
not-against n row other y l k h f g e =
    let first = opposite (take n row) (take n other) in
    let above = positive (at row n +ℤ at other n) in
    clash_ℤ
    (lt-true (pos 0) (at row n +ℤ at other n) (and_right (not (all_zero (take n row))) above (and_right first (not (all_zero (take n row)) && above) e)))
    (sum-not-above (dot (take n row) y) (dot (take n other) y) (at row n) (at other n)
    (opposites (take n row) (take n other) y (and_left first (not (all_zero (take n row)) && above) e))
    (coefficients n row y l h f) (coefficients n other y k h g))

-- ---- the promises
module _ (fits : List ℤ → Bool) (n m : ℕ) (equations : List (List ℤ)) (l : length equations ≡ m) (w : Wide (suc n) equations) (s : State)
    (e : run fits n m equations ≡ finished s) where
  long : (x : List ℤ) → length (parameters s x) ≡ n
  long = long-parameters n m equations s (subst (Right n m equations) e (run-right fits n m equations w l))

  pub one-row : (inequality : List ℤ) → length inequality ≡ suc n → alone n (tightened_row n s inequality) ≡ true → (x : List ℤ) → length x ≡ n
      → Meets x inequality → SatisfiesSet x equations (used_by m s (sums n s.substitution inequality)) → ⊥
  one-row inequality i above x h meets used =
      not-alone n (tightened_row n s inequality) (parameters s x) (length-tightened n s inequality) (long x)
      ((tightened fits n m equations l w s e inequality i).used x h meets used) above

  pub two-rows : (i j : List ℤ) → length i ≡ suc n → length j ≡ suc n → against n (tightened_row n s i) (tightened_row n s j) ≡ true
      → (x : List ℤ) → length x ≡ n → Meets x i → Meets x j → SatisfiesSet x equations (used_by m s (sums n s.substitution i))
      → SatisfiesSet x equations (used_by m s (sums n s.substitution j)) → ⊥
  two-rows i j i-long j-long above x h i-meets j-meets i-used j-used =
      not-against n (tightened_row n s i) (tightened_row n s j) (parameters s x) (length-tightened n s i) (length-tightened n s j) (long x)
      ((tightened fits n m equations l w s e i i-long).used x h i-meets i-used)
      ((tightened fits n m equations l w s e j j-long).used x h j-meets j-used) above
