-- The used set of an inequality: it has every equation with a non-zero multiplier in the reason of a closed column whose sum is not 0.
-- So where its equations hold, each closed column has 0 as its sum or as its parameter.
use mathlib.Core.Path.{◌≡◌, refl, sym, ap, ◌∙◌, subst}
use mathlib.Core.Logic.{⊎_elim}
use mathlib.Core.Bool.{Bool, true, false, cond, or-true}
use mathlib.Core.List.{List, [], ◌∷◌, map}
use Prim.Native.Nat.{ℕ, zero, suc, ◌+◌, ◌*◌, ◌/◌, ◌%◌, ◌^◌, ◌<◌}
use native.Mathlib.Nat.{add-zero, zero-add, div-one, pow-zero, pow-succ', div-div-eq-div-mul}
use native.Mathlib.Omega.{arith}
use borrow.Author.Tests.{eq-eqb}
use lib.Dec.{eqb}
use lib.ListN.{length, get_or, take, length-map}
use lib.Seq.{get_or-take}
use lib.IntN.{ℤ, pos, nat_abs, ◌*ℤ◌}
use lib.Signed.{◌≤ℤ◌}
use Rattle.whole.proofs.Integers.{*ℤ-zero-cases}
use Rattle.whole.proofs.Order.{orders}
use Rattle.rows.specs.Row.{at}
use Rattle.rules.specs.Elimination.{State, counted}
use Rattle.rules.specs.Inequalities.{rests_on, set_of, used_by}
use Rattle.rules.proofs.Lengths.{length-counted}
use Rattle.promises.specs.Meaning.{Closed, parameters, Holds, InSet, SatisfiesSet}
use Rattle.promises.specs.Solutions.{Solved}
use Rattle.promises.proofs.Checked.{dot-held}
use Rattle.promises.proofs.Values.{product-zero-l, product-zero-r}
use Rattle.promises.proofs.Invariant.{Shut}

-- ---- the numbers of a set

half : (b : Bool) (set : ℕ) → (cond b 1 0 + 2 * set) / 2 ≡ set
half true set = omega arith
half false set = omega arith

-- those whose bit is set
in-set : (bits : List Bool) (j : ℕ) → get_or bits j false ≡ true → InSet (set_of bits) j
unfolding set_of
in-set [] j e = let z : ◌≡◌ {A = ℕ} 0 1 = cc in let bad : ⊥ = omega arith in absurd bad
in-set (true ∷ bits) zero e = ap (λ z. z % 2) (div-one (1 + 2 * set_of bits)) ∙ omega arith
in-set (false ∷ bits) zero e = let z : ◌≡◌ {A = ℕ} 0 1 = cc in let bad : ⊥ = omega arith in absurd bad
in-set (b ∷ bits) (suc j) e =
    let set = cond b 1 0 + 2 * set_of bits in
    ap (λ z. z % 2) (ap (λ z. set / z) (pow-succ' 2 j) ∙ sym (div-div-eq-div-mul set 2 (2 ^ j)) ∙ ap (λ z. z / 2 ^ j) (half b (set_of bits)))
    ∙ in-set bits j e

-- no bit past their count
set_below : (bits : List Bool) → set_of bits < 2 ^ length bits
unfolding set_of
set_below [] = omega (arith, pow-zero 2)
set_below (true ∷ bits) = omega (arith, pow-succ' 2 (length bits), set_below bits)
set_below (false ∷ bits) = omega (arith, pow-succ' 2 (length bits), set_below bits)

pub used-below : (m : ℕ) (s : State) (row : List ℤ) → used_by m s row < 2 ^ m
unfolding used_by
used-below m s row =
    let bits = map (rests_on s.marks s.reasons row) (counted 0 m) in
    subst (λ count. set_of bits < 2 ^ count) (length-map (counted 0 m) (rests_on s.marks s.reasons row) ∙ length-counted 0 m) (set_below bits)

-- a test of all numbers from i on
get_or-counted : {A : Type 0} (f : ℕ → A) (d : A) (i k j : ℕ) → j < k → get_or (map f (counted i k)) j d ≡ f (i + j)
unfolding counted
get_or-counted f d i zero j h = let z : ⊥ = omega arith in absurd z
get_or-counted f d i (suc k) zero h = ap f (sym (add-zero i))
get_or-counted f d i (suc k) (suc j) h = get_or-counted f d (suc i) k j (omega arith) ∙ ap f (omega arith)

-- ---- the equations that a row rests on

rests : (marks : List ℕ) (reasons : List (List ℤ)) (row : List ℤ) (c j : ℕ) → Shut marks c → c < length reasons → c < length row
    → eqb (nat_abs (at row c)) 0 ≡ false → eqb (nat_abs (at (get_or reasons c []) j)) 0 ≡ false → rests_on marks reasons row j ≡ true
unfolding rests_on
rests [] reasons row c j s h l e f = let bad : ⊥ = omega arith in absurd bad
rests (mark ∷ marks) [] row c j s h l e f = let bad : ⊥ = omega arith in absurd bad
rests (mark ∷ marks) (reason ∷ reasons) [] c j s h l e f = let bad : ⊥ = omega arith in absurd bad
rests (mark ∷ marks) (reason ∷ reasons) (sum ∷ row) zero j s h l e f = rw (eq-eqb mark 0 s, e, f)
rests (mark ∷ marks) (reason ∷ reasons) (sum ∷ row) (suc c) j s h l e f = rw (rests marks reasons row c j s (omega arith) (omega arith) e f, or-true)

-- ---- where the equations of the set hold

module _ (n m : ℕ) (equations : List (List ℤ)) (l : length equations ≡ m) (s : State) (solved : Solved n m equations s)
    (reasons : length s.reasons ≡ n) (row : List ℤ) (long : length row ≡ suc n) (x : List ℤ) (h : length x ≡ n)
    (holds : SatisfiesSet x equations (used_by m s row)) (c : ℕ) (inside : c < n) (shut : Closed s c) where
  reason : List ℤ
  reason = get_or s.reasons c []

  -- an equation in the reason of a closed column whose sum is not 0 is used, so it holds
  equation-holds : eqb (nat_abs (at row c)) 0 ≡ false → (j : ℕ) → j < length equations → eqb (nat_abs (at (take m reason) j)) 0 ≡ false
      → Holds x (get_or equations j [])
  unfolding reason used_by
  equation-holds e j b f =
      holds j b
      (in-set (map (rests_on s.marks s.reasons row) (counted 0 m)) j
      (get_or-counted (rests_on s.marks s.reasons row) false 0 m j (omega arith)
      ∙ ap (rests_on s.marks s.reasons row) (zero-add j)
      ∙ rests s.marks s.reasons row c j shut (omega arith) (omega arith) e
      (ap (λ z. eqb (nat_abs z) 0) (sym (get_or-take m reason j (pos 0) (omega arith))) ∙ f)))

  -- so its parameter is 0
  parameter-zero : eqb (nat_abs (at row c)) 0 ≡ false → at (parameters s x) c ≡ pos 0
  unfolding reason
  parameter-zero e =
      ⊎_elim
      (λ z. let least : pos 1 ≤ℤ pos 0 = subst (λ d. pos 1 ≤ℤ d) z (solved.divisor c inside shut) in
      let bad : ⊥ = omega (arith, orders) in absurd bad)
      (λ z. z)
      (*ℤ-zero-cases (at reason m) (at (parameters s x) c) (solved.reason c inside shut x h ∙ dot-held (take m reason) x equations (equation-holds e)))

  pub closed-nothing : at row c *ℤ at (parameters s x) c ≡ pos 0
  closed-nothing = go (eqb (nat_abs (at row c)) 0) refl
    where
      go : (zero : Bool) → eqb (nat_abs (at row c)) 0 ≡ zero → at row c *ℤ at (parameters s x) c ≡ pos 0
      go true e = product-zero-l (at row c) (at (parameters s x) c) e
      go false e = product-zero-r (at row c) (at (parameters s x) c) (parameter-zero e)
