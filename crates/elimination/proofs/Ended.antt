-- What each answer of the run over all rows means for document 01's outcome and for its five tables.
use mathlib.Core.Path.{◌≡◌, refl, sym, ap, ◌∙◌}
use mathlib.Core.List.{List, [], ◌∷◌, ◌++◌}
use Prim.Native.Nat.{ℕ, suc, ◌*◌}
use native.Mathlib.Omega.{arith}
use lib.ListN.{length, take, replicate}
use lib.Seq.{take-suc, take_all}
use lib.IntN.{ℤ, pos, nat_abs}
use Rattle.rows.specs.Row.{at, zeros}
use Rattle.rows.specs.Table.{rows_of}
use Rattle.rows.proofs.TableLaws.{flat-rows_of}
use Rattle.rules.specs.declared.Outcome.TheVariants.{Open, EquationConflict, Refused}
use Rattle.rules.specs.declared.Refusal.TheVariants.{TooLarge}
use Rattle.rules.specs.Elimination.{State, Ended, finished, conflicting, too_large, elimination}
use Rattle.rules.specs.Inequalities.{first_row, first_pair}
use Rattle.rules.specs.Outcomes.{Answer, after_run, with_inequalities, looked_at, all_filled, conflict_filled, blank}
use Rattle.all_rows.specs.declared.Ran.{Ran}
use Rattle.all_rows.specs.declared.Ran.TheVariants.{Finished, Conflict, Grown}
use Rattle.stepping.specs.Worked.{state_of}
use Rattle.elimination.specs.Eliminated.{outcome_of, eliminated, FinishedAs}

module _ (n m : ℕ) (equations : List ℤ) where
  abbrev pub ended : Ended
  ended = elimination n m (rows_of (suc n) m equations)

  -- with no inequalities, a run that finishes is open
  no_rows : (s : State) → after_run n m 0 [] (finished s) ≡ record { outcome = Open s.steps; results = all_filled n m 0 s [] [] }
  unfolding after_run with_inequalities looked_at first_row first_pair
  no_rows s = refl

  pub finished-answer : (s : State) → finished s ≡ ended → eliminated n m equations ≡ record { outcome = Open s.steps; results = all_filled n m 0 s [] [] }
  finished-answer s e = ap (after_run n m 0 []) (sym e) ∙ no_rows s

  conflict-made : (row : ℕ) (multipliers : List ℤ) (d steps : ℕ)
      → after_run n m 0 [] (conflicting row multipliers d steps) ≡ record { outcome = EquationConflict row steps; results = conflict_filled n m 0 multipliers d }
  unfolding after_run
  conflict-made row multipliers d steps = refl

  pub conflict-answer : (row : ℕ) (multipliers : List ℤ) (d steps : ℕ) → conflicting row multipliers d steps ≡ ended
      → eliminated n m equations ≡ record { outcome = EquationConflict row steps; results = conflict_filled n m 0 multipliers d }
  conflict-answer row multipliers d steps e = ap (after_run n m 0 []) (sym e) ∙ conflict-made row multipliers d steps

  large-made : (row steps : ℕ) → after_run n m 0 [] (too_large row steps) ≡ record { outcome = Refused (TooLarge row steps); results = blank n m 0 }
  unfolding after_run
  large-made row steps = refl

  pub large-answer : (row steps : ℕ) → too_large row steps ≡ ended → eliminated n m equations ≡ record { outcome = Refused (TooLarge row steps); results = blank n m 0 }
  large-answer row steps e = ap (after_run n m 0 []) (sym e) ∙ large-made row steps

-- a conflict table is its multipliers and D
pub conflict-whole : (m : ℕ) (conflict : List ℤ) → length conflict ≡ suc m → at conflict m ≡ pos (nat_abs (at conflict m)) → take m conflict ++ pos (nat_abs (at conflict m)) ∷ [] ≡ conflict
conflict-whole m conflict long d =
    ap (λ (z : ℤ). take m conflict ++ z ∷ []) (sym d)
    ∙ sym (take-suc conflict m (pos 0) (omega arith))
    ∙ take_all (suc m) conflict (omega arith)

-- ---- what the contract of the whole run asks, by the answer and the five tables
abbrev pub Asked : Ran → ℕ → ℕ → List ℤ → List ℤ → List ℕ → List ℤ → List ℤ → List ℤ → Type 0
Asked r n m equations substitution marks back reasons conflict =
    (outcome_of r ≡ (eliminated n m equations).outcome)
    × (substitution ≡ (eliminated n m equations).results.substitution)
    × (marks ≡ (eliminated n m equations).results.marks)
    × (back ≡ (eliminated n m equations).results.way_back)
    × ((reasons ≡ (eliminated n m equations).results.reasons) × (conflict ≡ (eliminated n m equations).results.conflict))
    × FinishedAs r n m equations substitution marks back reasons

module _ (n m : ℕ) (equations : List ℤ) where
  -- the fields of an answer that is known
  parts : (r : Ran) (a : Answer) (substitution : List ℤ) (marks : List ℕ) (back reasons conflict : List ℤ) → eliminated n m equations ≡ a
      → outcome_of r ≡ a.outcome → substitution ≡ a.results.substitution → marks ≡ a.results.marks → back ≡ a.results.way_back
      → reasons ≡ a.results.reasons → conflict ≡ a.results.conflict → FinishedAs r n m equations substitution marks back reasons
      → Asked r n m equations substitution marks back reasons conflict
  parts r a substitution marks back reasons conflict e o s k b q c f = (
    o ∙ sym (ap (λ (x : Answer). x.outcome) e),
    s ∙ sym (ap (λ (x : Answer). x.results.substitution) e),
    k ∙ sym (ap (λ (x : Answer). x.results.marks) e),
    b ∙ sym (ap (λ (x : Answer). x.results.way_back) e),
    (q ∙ sym (ap (λ (x : Answer). x.results.reasons) e), c ∙ sym (ap (λ (x : Answer). x.results.conflict) e)),
    f,
  )

  pub asked-finished : (steps : ℕ) (substitution : List ℤ) (marks : List ℕ) (back reasons conflict : List ℤ)
      → length substitution ≡ n * suc n → length back ≡ n * suc n → length reasons ≡ n * suc m → conflict ≡ replicate (suc m) (pos 0)
      → finished (state_of n m substitution marks back reasons steps) ≡ ended n m equations
      → Asked (Finished steps) n m equations substitution marks back reasons conflict
  unfolding all_filled zeros
  asked-finished steps substitution marks back reasons conflict ls lb lr c e =
      let s = state_of n m substitution marks back reasons steps in
      parts (Finished steps) (record { outcome = Open steps; results = all_filled n m 0 s [] [] }) substitution marks back reasons conflict (finished-answer n m equations s e) refl
      (sym (flat-rows_of (suc n) n substitution ls))
      refl
      (sym (flat-rows_of (suc n) n back lb))
      (sym (flat-rows_of (suc m) n reasons lr))
      c
      e

  -- the four tables that a conflict and a number too large leave at zeros
  module _ (substitution : List ℤ) (marks : List ℕ) (back reasons : List ℤ) (s : substitution ≡ replicate (n * suc n) (pos 0)) (k : marks ≡ replicate n 0)
      (b : back ≡ replicate (n * suc n) (pos 0)) (q : reasons ≡ replicate (n * suc m) (pos 0)) where
    pub asked-conflict : (row steps : ℕ) (conflict : List ℤ) → length conflict ≡ suc m → at conflict m ≡ pos (nat_abs (at conflict m))
        → conflicting row (take m conflict) (nat_abs (at conflict m)) steps ≡ ended n m equations
        → Asked (Conflict row steps) n m equations substitution marks back reasons conflict
    unfolding conflict_filled blank zeros
    asked-conflict row steps conflict l d e =
        parts (Conflict row steps) (record { outcome = EquationConflict row steps; results = conflict_filled n m 0 (take m conflict) (nat_abs (at conflict m)) })
        substitution
        marks
        back
        reasons
        conflict
        (conflict-answer n m equations row (take m conflict) (nat_abs (at conflict m)) steps e)
        refl
        s
        k
        b
        q
        (sym (conflict-whole m conflict l d))
        tt

    pub asked-grown : (row steps : ℕ) (conflict : List ℤ) → conflict ≡ replicate (suc m) (pos 0) → too_large row steps ≡ ended n m equations
        → Asked (Grown row steps) n m equations substitution marks back reasons conflict
    unfolding blank zeros
    asked-grown row steps conflict c e =
        parts (Grown row steps) (record { outcome = Refused (TooLarge row steps); results = blank n m 0 }) substitution marks back reasons conflict
        (large-answer n m equations row steps e)
        refl
        s
        k
        b
        q
        c
        tt
