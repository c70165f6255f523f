-- A run that ends in a conflict or in a refusal: its answer with inequalities is its answer without any, with zeros for their tables.
use mathlib.Core.Path.{◌≡◌, refl, sym, ap, ◌∙◌}
use mathlib.Core.List.{List, []}
use Prim.Native.Nat.{ℕ, suc, ◌*◌}
use lib.ListN.{replicate}
use lib.IntN.{ℤ, pos}
use Rattle.rows.specs.Row.{zeros}
use Rattle.rules.specs.declared.Outcome.{Outcome}
use Rattle.rules.specs.declared.Outcome.TheVariants.{Open, EquationConflict, OneRowConflict, TwoRowConflict, Refused}
use Rattle.rules.specs.Elimination.{State, Ended, finished, conflicting, too_large}
use Rattle.rules.specs.Inequalities.{first_row, first_pair}
use Rattle.rules.specs.Outcomes.{Answer, blank, conflict_filled, all_filled, looked_at, with_inequalities, after_run}
use Rattle.outcomes.specs.Answered.{answer}

-- any outcome but open, which a run that finishes has where there are no inequalities
abbrev pub NotOpen : Outcome → Type 0
NotOpen (Open steps) = ⊥
NotOpen (EquationConflict row steps) = Unit {0}
NotOpen (OneRowConflict i steps) = Unit {0}
NotOpen (TwoRowConflict i j steps) = Unit {0}
NotOpen (Refused refusal) = Unit {0}

module _ (n m : ℕ) (ended : Ended) where
  -- what the run alone answers
  abbrev pub alone : Answer
  alone = after_run n m 0 [] ended

module _ (n m k : ℕ) (inequalities : List (List ℤ)) where
  pub after-end : (ended : Ended) → NotOpen (alone n m ended).outcome → let r = (alone n m ended).results in
      answer (alone n m ended).outcome r.substitution r.marks r.way_back r.reasons r.conflict (replicate (k * suc n) (pos 0)) (replicate k 0)
      ≡ after_run n m k inequalities ended
  unfolding after_run with_inequalities looked_at first_row first_pair conflict_filled blank zeros
  after-end (finished s) h = absurd h
  after-end (conflicting row multipliers d steps) h = refl
  after-end (too_large row steps) h = refl

-- where it finishes, the run alone leaves zeros as the conflict
zero-conflict : (n m : ℕ) (s : State) → (alone n m (finished s)).results.conflict ≡ replicate (suc m) (pos 0)
unfolding after_run with_inequalities all_filled first_row zeros
zero-conflict n m s = refl

pub no-conflict : (n m : ℕ) (s : State) (ended : Ended) → finished s ≡ ended → (alone n m ended).results.conflict ≡ replicate (suc m) (pos 0)
no-conflict n m s ended e = ap (λ (e : Ended). (alone n m e).results.conflict) (sym e) ∙ zero-conflict n m s
