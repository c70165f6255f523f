-- What a run that finishes promises of an inequality.
use Rattle.std.specs.Prelude.{◌≡◌, ◌↔◌, List, ℕ, ◌<◌, ◌^◌, length, ℤ, pos}
use Rattle.rows.specs.Row.{at}
use Rattle.rules.specs.Elimination.{State}
use Rattle.rules.specs.Inequalities.{sums, used_by, tightened_row}
use Rattle.promises.specs.Meaning.{Meets, Closed, Choice, substituted, parameters, SatisfiesSet}

-- the run over these equations ended in state s
pub record Tightened (n m : ℕ) (equations : List (List ℤ)) (s : State) (inequality : List ℤ) : Type 0 where
  -- "a tightened row holds exactly when its inequality does"
  pub exactly : (y : List ℤ) → Choice n s y → Meets (substituted s y) inequality ↔ Meets y (tightened_row n s inequality)
  -- "whole numbers that satisfy the inequality and the used equations alone satisfy the tightened row, taken at the way back"
  pub used : (x : List ℤ) → length x ≡ n → Meets x inequality → SatisfiesSet x equations (used_by m s (sums n s.substitution inequality))
      → Meets (parameters s x) (tightened_row n s inequality)
  -- "over the parameters, closed columns zero"
  pub closed_zero : (p : ℕ) → p < n → Closed s p → at (tightened_row n s inequality) p ≡ pos 0
  -- no bit past m
  pub bits : used_by m s (sums n s.substitution inequality) < 2 ^ m
