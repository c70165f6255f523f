-- What holds between two steps holds at the start.
use mathlib.Core.Path.{◌≡◌, refl, sym, ap, ◌∙◌}
use mathlib.Core.Logic.{inl}
use mathlib.Core.List.{List, [], ◌∷◌}
use Prim.Native.Nat.{ℕ, suc, ◌+◌, ◌<◌}
use native.Mathlib.Nat.{add-zero}
use native.Mathlib.Numerals.{add-one}
use native.Mathlib.Omega.{arith}
use lib.ListN.{length, get_or, drop, replicate, length-replicate, get_or-replicate}
use lib.Seq.{get_or-drop, drop-drop}
use lib.IntN.{ℤ, pos}
use Rattle.whole.proofs.Reify.{reify, ring}
use Rattle.rows.specs.Row.{dot, values, zeros, unit_row}
use Rattle.rows.specs.Table.{Wide}
use Rattle.rows.proofs.Algebra.{length-unit, dot-unit}
use Rattle.rules.specs.Elimination.{identity, carried}
use Rattle.promises.proofs.Image.{image, image-identity, length-identity, wide-identity, at-values}
use Rattle.promises.proofs.Invariant.{Shut, Sound, Carries, Standing, none, more}

-- no column is closed
none-shut : (n c : ℕ) → c < n → Shut (replicate n 1) c → ⊥
none-shut n c h s = let e : ◌≡◌ {A = ℕ} 1 0 = sym (get_or-replicate n c 1 1 h) ∙ s in omega arith

module _ (n m : ℕ) (equations : List (List ℤ)) where
  pub sound-start : Sound n m equations (identity n) (identity n) (replicate n 1) (replicate n (zeros (suc m)))
  sound-start = record {
    long_x = length-identity n;
    wide_x = wide-identity n;
    long_y = length-identity n;
    wide_y = wide-identity n;
    long_marks = length-replicate n 1;
    long_reasons = length-replicate n (zeros (suc m));
    mark = λ c h. inl (get_or-replicate n c 1 0 h);
    there = λ p h. ap (image n (identity n)) (image-identity n p h) ∙ image-identity n p h;
    again = λ p h. ap (image n (identity n)) (image-identity n p h) ∙ image-identity n p h;
    divisor = λ c h s. absurd (none-shut n c h s);
    reason = λ c h s p l. absurd (none-shut n c h s);
    zero_open = λ c h s. get_or-replicate n c (zeros (suc m)) [] h;
  }

  -- the rows from j on are the equations from j on
  standing-from : (j : ℕ) (rest : List (List ℤ)) → drop j equations ≡ rest → j + length rest ≡ m → Wide (suc n) rest
      → Standing n m equations (identity n) (replicate n 1) rest (carried m j rest)
  unfolding carried
  standing-from j [] e l w = none
  standing-from j (equation ∷ rest) e l w =
      more here (standing-from (suc j) rest next (omega arith) w.1)
    where
      next : drop (suc j) equations ≡ rest
      next = ap (λ i. drop i equations) (sym (add-one j)) ∙ sym (drop-drop 1 j equations) ∙ ap (drop 1) e

      this : get_or equations j [] ≡ equation
      this = ap (λ i. get_or equations i []) (sym (add-zero j)) ∙ sym (get_or-drop j equations 0 []) ∙ ap (λ l. get_or l 0 []) e

      here : Carries n m equations (identity n) (replicate n 1) equation (record { row = equation; multipliers = unit_row m j; divisor = 1 })
      here = record {
        wide = w.0;
        long = length-unit m j;
        least = omega arith;
        value = λ p h.
            ring (dot equation p ∷ []) (search reify) (search reify) refl
            ∙ ap (λ r. dot r p) (sym this)
            ∙ ap (dot (get_or equations j [])) (sym (image-identity n p h))
            ∙ sym (dot-unit m j (values equations (image n (identity n) p)) (omega arith) ∙ at-values equations (image n (identity n) p) j);
        none = λ c h s. absurd (none-shut n c h s);
        factor = pos 1;
        stands = λ p h s. ap (dot equation) (image-identity n p h) ∙ ring (dot equation p ∷ []) (search reify) (search reify) refl;
      }

  pub standing-start : length equations ≡ m → Wide (suc n) equations
      → Standing n m equations (identity n) (replicate n 1) equations (carried m 0 equations)
  standing-start l w = standing-from 0 equations refl (omega arith) w

  pub length-carried : (j : ℕ) (rest : List (List ℤ)) → length (carried m j rest) ≡ length rest
  unfolding carried
  length-carried j [] = refl
  length-carried j (equation ∷ rest) = ap suc (length-carried (suc j) rest)
