-- Step (c) of the row in hand: its column is open, and where the number there is 1 or -1 nothing else is left.
use mathlib.Core.Path.{◌≡◌, ap, ◌∙◌, subst}
use mathlib.Core.Logic.{◌≢◌}
use mathlib.Core.List.{List}
use Prim.Native.Nat.{ℕ, suc, ◌<◌}
use native.Mathlib.Decide.{dec_lt}
use native.Mathlib.Omega.{arith}
use lib.ListN.{length, take, get_or-eq_default}
use lib.IntN.{ℤ, pos, nat_abs}
use Rattle.whole.specs.Quotient.{quotient}
use Rattle.whole.proofs.QuotientLaws.{quotient-zero, remainder-one}
use Rattle.rows.specs.Row.{at, gcd_of}
use Rattle.rules.specs.Elimination.{step_of, put_in}
use Rattle.rules.proofs.Lengths.{length-put_in}
use Rattle.rules.proofs.RowInHand.{column-below, lead-nonzero, length-picked, quotient-here, quotient-other, others-left}
use Rattle.promises.proofs.Invariant.{Shut}
use Rattle.promises.proofs.Stepped.{Apt}

module _ (n : ℕ) (row : List ℤ) (l : length row ≡ suc n) (h : 0 < gcd_of (take n row)) where
  pub step-apt : (marks : List ℕ) → ((c : ℕ) → c < n → Shut marks c → at row c ≡ pos 0) → Apt n marks (step_of n row)
  unfolding step_of
  step-apt marks none = record {
    column = column-below n row h;
    not_shut = not-shut;
    long = length-picked n row ∙ l;
    here = quotient-here n row l h;
    none = λ c b s.
        quotient-other n row c (λ e. not-shut (subst (Shut marks) e s))
        ∙ ap (λ z. quotient z (step_of n row).lead) (none c b s) ∙ quotient-zero (step_of n row).lead;
  }
    where
      not-shut : Shut marks (step_of n row).column → ⊥
      not-shut s = lead-nonzero n row h (none (step_of n row).column (column-below n row h) s)

  -- what 1 or -1 leaves of the others is 0
  pub only-lead : nat_abs (step_of n row).lead ≡ 1 → (i : ℕ) → i ≢ (step_of n row).column → at (put_in (step_of n row) row) i ≡ pos 0
  only-lead one i e = go (dec_lt i (length row))
    where
      go : Dec (i < length row) → at (put_in (step_of n row) row) i ≡ pos 0
      go (yes b) = others-left n row i b e ∙ remainder-one (at row i) (step_of n row).lead one
      go (no b) = get_or-eq_default (put_in (step_of n row) row) (pos 0) {n = i} (omega (arith, length-put_in (step_of n row) row))
