-- What a run that finishes and a run that ends in a conflict promise, for whatever test of the listed numbers: for the run of document
-- 01, and for one without a limit.
use mathlib.Core.Path.{◌≡◌, sym, ap, ◌∙◌, subst}
use mathlib.Core.Logic.{⊎_elim}
use mathlib.Core.Bool.{Bool, true}
use mathlib.Core.List.{List, [], ◌∷◌}
use Prim.Native.Nat.{ℕ, suc, ◌<◌}
use native.Mathlib.Omega.{arith}
use lib.ListN.{length, get_or, take, length-replicate, get_or-replicate, get_or-append}
use lib.Seq.{take_at}
use lib.IntN.{ℤ, pos, ◌*ℤ◌}
use lib.Signed.{◌≤ℤ◌}
use Rattle.whole.proofs.Integers.{*ℤ-zero-cases}
use Rattle.whole.proofs.Order.{orders}
use Rattle.rows.specs.Row.{at, dot, values, zeros}
use Rattle.rows.specs.Table.{Wide}
use Rattle.rules.specs.Checker.{refutes}
use Rattle.rules.specs.Elimination.{State, finished, conflicting, run}
use Rattle.promises.specs.Meaning.{point, Satisfies, Closed, Choice, substituted, parameters}
use Rattle.promises.specs.Solutions.{Solved, Unsolvable}
use Rattle.promises.proofs.Checked.{length-point, dot-satisfied, checked}
use Rattle.promises.proofs.Image.{image, length-values, image-point}
use Rattle.promises.proofs.Invariant.{Still, Sound, Standing, none, done}
use Rattle.promises.proofs.Reduced.{pos-nonzero}
use Rattle.promises.proofs.Runs.{Held, Right, run-right}

-- where no row is left to be worked, all equations hold
all_hold : {n m : ℕ} {equations X : List (List ℤ)} {marks : List ℕ} {rest : List (List ℤ)} → Standing n m equations X marks rest []
    → (p x : List ℤ) → length p ≡ suc n → Still n marks p → image n X p ≡ point x → Satisfies x rest
all_hold none p x h z e = tt
all_hold (done {equation} f s) p x h z e = (ap (dot equation) (sym e) ∙ f p h z, all_hold s p x h z e)

-- equal points have equal numbers
same_numbers : (n : ℕ) (x y : List ℤ) → length x ≡ n → length y ≡ n → point x ≡ point y → x ≡ y
same_numbers n x y h l e = sym (take_at x (pos 1 ∷ []) n h) ∙ ap (take n) e ∙ take_at y (pos 1 ∷ []) n l

module _ (n m : ℕ) (equations : List (List ℤ)) (s : State) (held : Held n m equations s []) where
  sound : Sound n m equations s.substitution s.way_back s.marks s.reasons
  sound = held.0

  long-substituted : (y : List ℤ) → length (substituted s y) ≡ n
  long-substituted y = length-values s.substitution (point y) ∙ sound.long_x

  pub long-parameters : (x : List ℤ) → length (parameters s x) ≡ n
  long-parameters x = length-values s.way_back (point x) ∙ sound.long_y

  -- the substitution and the way back take points to points
  to : (y : List ℤ) → length y ≡ n → image n s.substitution (point y) ≡ point (substituted s y)
  to y h = image-point n s.substitution sound.long_x y h

  from : (x : List ℤ) → length x ≡ n → image n s.way_back (point x) ≡ point (parameters s x)
  from x h = image-point n s.way_back sound.long_y x h

  there_and_back : (x : List ℤ) → length x ≡ n → image n s.substitution (point (parameters s x)) ≡ point x
  there_and_back x h = ap (image n s.substitution) (sym (from x h)) ∙ sound.there (point x) (length-point n x h)

  -- the reason of a closed p, at the parameters of x
  by-reason : (p : ℕ) → p < n → Closed s p → (x : List ℤ) → length x ≡ n
      → at (get_or s.reasons p []) m *ℤ at (parameters s x) p ≡ dot (take m (get_or s.reasons p [])) (values equations (point x))
  by-reason p h c x l =
      ap (λ z. at (get_or s.reasons p []) m *ℤ z) (sym (get_or-append (parameters s x) (pos 1 ∷ []) (pos 0) p (omega (arith, long-parameters x))))
      ∙ sound.reason p h c (point (parameters s x)) (length-point n (parameters s x) (long-parameters x))
      ∙ ap (λ z. dot (take m (get_or s.reasons p [])) (values equations z)) (there_and_back x l)

  held-solved : Solved n m equations s
  held-solved = record {
    every_choice = λ y c. all_hold held.1 (point y) (substituted s y) (length-point n y c.long) (still y c) (to y c.long);
    every_solution = λ x l e. record { long = long-parameters x; closed_zero = λ p h c. zero-at x l e p h c };
    one_choice = λ y y' c c' e. sym (back y c.long) ∙ ap (parameters s) e ∙ back y' c'.long;
    there = λ x l.
        same_numbers n (substituted s (parameters s x)) x (long-substituted (parameters s x)) l
        (sym (to (parameters s x) (long-parameters x)) ∙ there_and_back x l);
    again = back;
    marks = sound.long_marks;
    mark = sound.mark;
    divisor = λ p h c. let (d, e) = sound.divisor p h c in subst (λ z. pos 1 ≤ℤ z) (sym e) (omega (arith, orders));
    reason = by-reason;
    zero_open = sound.zero_open;
  }
    where
      back : (y : List ℤ) → length y ≡ n → parameters s (substituted s y) ≡ y
      back y l =
          same_numbers n (parameters s (substituted s y)) y (long-parameters (substituted s y)) l
          (sym (from (substituted s y) (long-substituted y)) ∙ ap (image n s.way_back) (sym (to y l)) ∙ sound.again (point y) (length-point n y l))

      still : (y : List ℤ) → Choice n s y → Still n s.marks (point y)
      still y c p h z = get_or-append y (pos 1 ∷ []) (pos 0) p (omega (arith, c.long)) ∙ c.closed_zero p h z

      zero-at : (x : List ℤ) → length x ≡ n → Satisfies x equations → (p : ℕ) → p < n → Closed s p → at (parameters s x) p ≡ pos 0
      zero-at x l e p h c =
          let (d, f) = sound.divisor p h c in
          ⊎_elim (λ z. absurd (pos-nonzero {n = suc d} (omega arith) (sym f ∙ z))) (λ z. z)
          (*ℤ-zero-cases (at (get_or s.reasons p []) m) (at (parameters s x) p)
          (by-reason p h c x l ∙ dot-satisfied (take m (get_or s.reasons p [])) x equations e))

-- ---- the promises
module _ (fits : List ℤ → Bool) (n m : ℕ) (equations : List (List ℤ)) (l : length equations ≡ m) (w : Wide (suc n) equations) where
  pub solved : (s : State) → run fits n m equations ≡ finished s → Solved n m equations s
  solved s e = held-solved n m equations s (subst (Right n m equations) e (run-right fits n m equations w l))

  pub refuted : (j : ℕ) (multipliers : List ℤ) (d steps : ℕ) → run fits n m equations ≡ conflicting j multipliers d steps
      → refutes n multipliers d equations ≡ true
  refuted j multipliers d steps e = subst (Right n m equations) e (run-right fits n m equations w l)

  pub unsolvable : (j : ℕ) (multipliers : List ℤ) (d steps : ℕ) → run fits n m equations ≡ conflicting j multipliers d steps
      → Unsolvable n equations
  unsolvable j multipliers d steps e = checked n multipliers d equations w (refuted j multipliers d steps e)

  -- the solution whose parameters are all 0
  pub solvable : (s : State) → run fits n m equations ≡ finished s → (x : List ℤ) × (length x ≡ n) × Satisfies x equations
  unfolding zeros
  solvable s e =
      let h : Solved n m equations s = solved s e in
      let y = zeros n in
      let long : length y ≡ n = length-replicate n (pos 0) in
      let c : Choice n s y = record { long = long; closed_zero = λ p p-fits z. get_or-replicate n p (pos 0) (pos 0) p-fits } in
      (substituted s y, long-substituted n m equations s (subst (Right n m equations) e (run-right fits n m equations w l)) y, h.every_choice y c)
