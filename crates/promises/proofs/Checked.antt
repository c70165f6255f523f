-- What the multiplier checker's yes promises: the equations have no solution in whole numbers.
use mathlib.Core.Path.{◌≡◌, refl, sym, ap, ap₂, ◌∙◌, subst}
use mathlib.Core.Bool.{Bool, true, false, not}
use mathlib.Core.List.{List, [], ◌∷◌}
use Prim.Native.Nat.{ℕ, zero, suc, ◌<◌}
use native.Mathlib.Numerals.{add-one}
use native.Mathlib.Omega.{arith}
use borrow.Author.Tests.{not-true}
use lib.Dec.{eqb}
use lib.ListN.{length, get_or, take, length-append, length-replicate}
use lib.Seq.{get_or_at}
use lib.IntN.{ℤ, pos, nat_abs, ◌+ℤ◌, ◌*ℤ◌}
use Rattle.whole.specs.Gcd.{divides}
use Rattle.whole.proofs.Divides.{◌∣ℤ◌, dvd-zero, divides-false}
use Rattle.whole.proofs.Reify.{reify, ring}
use Rattle.rows.specs.Row.{at, dot, values, zeros}
use Rattle.rows.specs.Table.{Wide}
use Rattle.rows.proofs.Algebra.{dot-zeros, dot-gathered, length-gathered}
use Rattle.rows.proofs.Bounded.{and_left, and_right}
use Rattle.rules.specs.Checker.{combined, refutes, divides_all}
use Rattle.promises.specs.Meaning.{point, Holds, Satisfies}
use Rattle.promises.specs.Solutions.{Unsolvable}
use Rattle.promises.proofs.Values.{divides-constant, all-divided, product-zero-l, product-zero-r}

-- ---- a point: n numbers and then 1

pub length-point : (n : ℕ) (x : List ℤ) → length x ≡ n → length (point x) ≡ suc n
length-point n x h = length-append x (pos 1 ∷ []) ∙ add-one (length x) ∙ ap suc h

pub point-end : (n : ℕ) (x : List ℤ) → length x ≡ n → at (point x) n ≡ pos 1
point-end n x h = get_or_at x (pos 1) [] (pos 0) n h

-- an equation of those that are satisfied
pub holds_at : (x : List ℤ) (equations : List (List ℤ)) → Satisfies x equations → (p : ℕ) → p < length equations → Holds x (get_or equations p [])
holds_at x [] s p h = let z : ⊥ = omega arith in absurd z
holds_at x (equation ∷ equations) s zero h = s.0
holds_at x (equation ∷ equations) s (suc p) h = holds_at x equations s.1 p (omega arith)

-- where each equation holds whose multiplier is not 0, the combination of the equations is 0
pub dot-held : (row x : List ℤ) (equations : List (List ℤ))
    → ((j : ℕ) → j < length equations → eqb (nat_abs (at row j)) 0 ≡ false → Holds x (get_or equations j []))
    → dot row (values equations (point x)) ≡ pos 0
unfolding dot values
dot-held [] x equations f = refl
dot-held (a ∷ row) x [] f = refl
dot-held (a ∷ row) x (equation ∷ equations) f =
    ap₂ (λ u v. u +ℤ v) (go (eqb (nat_abs a) 0) refl (f 0 (omega arith))) (dot-held row x equations (λ j h. f (suc j) (omega arith)))
  where
    go : (none : Bool) → eqb (nat_abs a) 0 ≡ none → (eqb (nat_abs a) 0 ≡ false → Holds x equation) → a *ℤ dot equation (point x) ≡ pos 0
    go true e h = product-zero-l a (dot equation (point x)) e
    go false e h = product-zero-r a (dot equation (point x)) (h e)

-- so it is at a solution
pub dot-satisfied : (row x : List ℤ) (equations : List (List ℤ)) → Satisfies x equations → dot row (values equations (point x)) ≡ pos 0
dot-satisfied row x equations s = dot-held row x equations (λ j h e. holds_at x equations s j h)

-- ---- the combined row

module _ (n : ℕ) (multipliers : List ℤ) (equations : List (List ℤ)) where
  pub length-combined : length (combined n multipliers equations) ≡ suc n
  unfolding combined zeros
  length-combined = length-gathered (zeros (suc n)) multipliers equations ∙ length-replicate (suc n) (pos 0)

  pub dot-combined : Wide (suc n) equations → (x : List ℤ) → dot (combined n multipliers equations) x ≡ dot multipliers (values equations x)
  unfolding combined zeros
  dot-combined w x =
      dot-gathered (zeros (suc n)) multipliers equations x (subst (λ width. Wide width equations) (sym (length-replicate (suc n) (pos 0))) w)
      ∙ ap (λ z. z +ℤ dot multipliers (values equations x)) (dot-zeros (suc n) x)
      ∙ ring (dot multipliers (values equations x) ∷ []) (search reify) (search reify) refl

-- d divides the combined coefficients, so where the equations hold whose multiplier is not 0, and the combined row is 0, the constant too
pub checked-used : (n : ℕ) (multipliers : List ℤ) (d : ℕ) (equations : List (List ℤ)) → Wide (suc n) equations
    → refutes n multipliers d equations ≡ true → (x : List ℤ) → length x ≡ n
    → ((j : ℕ) → j < length equations → eqb (nat_abs (at multipliers j)) 0 ≡ false → Holds x (get_or equations j [])) → ⊥
unfolding refutes
checked-used n multipliers d equations w e x h holds =
    divides-false (not-true (divides d (at row n)) (and_right (divides_all d (take n row)) (not (divides d (at row n))) e))
    (divides-constant d n row (point x) (length-combined n multipliers equations) (length-point n x h)
    (all-divided d (take n row) (and_left (divides_all d (take n row)) (not (divides d (at row n))) e))
    (point-end n x h)
    (subst (λ z. d ∣ℤ z) (sym (dot-combined n multipliers equations w (point x) ∙ dot-held multipliers x equations holds)) dvd-zero))
  where
    row : List ℤ
    row = combined n multipliers equations

pub checked : (n : ℕ) (multipliers : List ℤ) (d : ℕ) (equations : List (List ℤ)) → Wide (suc n) equations
    → refutes n multipliers d equations ≡ true → Unsolvable n equations
checked n multipliers d equations w e x h s = checked-used n multipliers d equations w e x h (λ j b z. holds_at x equations s j b)
