-- A run that finished, over the result tables that show its state: the substitution is within the limit, and so are the tightened rows;
-- and the answer of the call where all rows are worked, and where one is too large.
use mathlib.Core.Path.{◌≡◌, refl, sym, ap, ◌∙◌}
use mathlib.Core.Bool.{true}
use mathlib.Core.List.{List}
use Prim.Native.Nat.{ℕ, suc, ◌*◌}
use lib.ListN.{length, replicate}
use lib.IntN.{ℤ, pos}
use Rattle.std.specs.Prelude.{Ok, Err}
use Rattle.rows.specs.Row.{zeros, all_within}
use Rattle.rows.specs.Table.{rows_of, flat}
use Rattle.rows.proofs.TableLaws.{flat-rows_of}
use Rattle.rules.specs.declared.Outcome.{Outcome}
use Rattle.rules.specs.declared.Outcome.TheVariants.{Refused}
use Rattle.rules.specs.declared.Refusal.TheVariants.{LargeSum}
use Rattle.rules.specs.Elimination.{State, finished, elimination}
use Rattle.rules.specs.Inequalities.{used_by, tightened_row}
use Rattle.rules.specs.Outcomes.{blank, all_filled, looked_at, with_inequalities, after_run}
use Rattle.rules.proofs.RunWithin.{run-within}
use Rattle.stepping.specs.Worked.{state_of}
use Rattle.used.specs.Shown.{shown_state}
use Rattle.inequalities.specs.Worked.{rows_shown, rows_worked}
use Rattle.outcomes.specs.Answered.{answer}
use Rattle.outcomes.proofs.Looked.{looked-same}
use Rattle.outcomes.proofs.TightWithin.{rows-within}
use Rattle.outcomes.proofs.Tabled.{same_answer}
use Rattle.outcomes.proofs.Worked.{Told, rows, worked-all, worked-large, after-all, after-large}

-- the work on the rows looks neither at the way back nor at the steps
same-work : (n m : ℕ) (substitution : List ℤ) (marks : List ℕ) (way_back reasons : List ℤ) (steps : ℕ) (inequalities : List (List ℤ))
    → rows_worked n m (shown_state n m substitution marks reasons) inequalities
    ≡ rows_worked n m (state_of n m substitution marks way_back reasons steps) inequalities
unfolding used_by tightened_row
same-work n m substitution marks way_back reasons steps inequalities = refl

-- ---- the run
module _ (n m : ℕ) (equations substitution : List ℤ) (marks : List ℕ) (way_back reasons : List ℤ) (steps : ℕ)
    (done : finished (state_of n m substitution marks way_back reasons steps) ≡ elimination n m (rows_of (suc n) m equations)) where
  pub substitution-within : length equations ≡ m * suc n → all_within equations ≡ true → length substitution ≡ n * suc n
      → all_within substitution ≡ true
  substitution-within e w l =
      ap all_within (sym (flat-rows_of (suc n) n substitution l))
      ∙ (run-within n m (rows_of (suc n) m equations) (ap all_within (flat-rows_of (suc n) m equations e) ∙ w)
      (state_of n m substitution marks way_back reasons steps) (sym done)).substitution

  pub run-answer : (k : ℕ) (rows : List (List ℤ))
      → with_inequalities n m k rows (state_of n m substitution marks way_back reasons steps) ≡ after_run n m k rows (elimination n m (rows_of (suc n) m equations))
  unfolding after_run
  run-answer k rows = ap (after_run n m k rows) done

-- ---- the inequalities after it
module _ (n m : ℕ) (substitution : List ℤ) (marks : List ℕ) (way_back reasons : List ℤ) (steps k : ℕ) (inequalities tightened : List ℤ) (used : List ℕ) where
  abbrev state : State
  state = state_of n m substitution marks way_back reasons steps

  abbrev given : List (List ℤ)
  given = rows_of (suc n) k inequalities

  -- what the work on the rows tells where none is too large
  module _ (worked : rows_shown n k (Ok tt) tightened used ≡ rows_worked n m (shown_state n m substitution marks reasons) given)
      (long : length tightened ≡ k * suc n) where
    told : Told n m k state given tightened used
    told = worked-all n m k state given tightened used (worked ∙ same-work n m substitution marks way_back reasons steps given)

    tightened-is : tightened ≡ flat (rows n m k state given)
    tightened-is = sym (flat-rows_of (suc n) k tightened long) ∙ ap flat told.made

    pub tightened-within : all_within tightened ≡ true
    tightened-within = ap all_within tightened-is ∙ rows-within n state given told.none

    pub open-answer : {outcome : Outcome} {conflict : List ℤ}
        → outcome ≡ looked_at n 0 k steps (rows_of (suc n) k tightened) → conflict ≡ replicate (suc m) (pos 0)
        → length substitution ≡ n * suc n → length way_back ≡ n * suc n → length reasons ≡ n * suc m
        → answer outcome substitution marks way_back reasons conflict tightened used ≡ with_inequalities n m k given state
    unfolding all_filled zeros
    open-answer o c s w r =
        same_answer (o ∙ looked-same n k steps (rows_of (suc n) k tightened) m ∙ ap (looked_at n m k steps) told.made)
        (sym (flat-rows_of (suc n) n substitution s))
        refl
        (sym (flat-rows_of (suc n) n way_back w))
        (sym (flat-rows_of (suc m) n reasons r))
        c
        tightened-is
        told.noted
        ∙ after-all n m k state given told.none

  pub large-answer : (found : ℕ) → rows_shown n k (Err found) tightened used ≡ rows_worked n m (shown_state n m substitution marks reasons) given
      → record { outcome = Refused (LargeSum found); results = blank n m k } ≡ with_inequalities n m k given state
  large-answer found worked =
      let first = worked-large n m k state given found tightened used (worked ∙ same-work n m substitution marks way_back reasons steps given) in
      ap (λ (i : ℕ). record { outcome = Refused (LargeSum i); results = blank n m k }) first.0 ∙ after-large n m k state given first.1
