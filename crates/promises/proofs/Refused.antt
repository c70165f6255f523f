-- A call is refused exactly when a refusal is due, and then with that one: "Checks run in the order 1, 2, 3, then the run."
use mathlib.Core.Path.{◌≡◌, ap, ◌∙◌, subst}
use mathlib.Core.Logic.{◌↔◌}
use mathlib.Core.List.{List, [], ◌∷◌}
use Prim.Native.Nat.{ℕ, suc}
use native.Mathlib.Omega.{arith}
use borrow.Author.Tests.{ne_eqb}
use lib.Dec.{eqb}
use lib.IntN.{ℤ}
use Rattle.rows.specs.Table.{rows_of}
use Rattle.rows.proofs.TableLaws.{length-rows_of}
use Rattle.rules.specs.Numbers.{of_outcome, of_refusal}
use Rattle.rules.specs.Elimination.{elimination}
use Rattle.rules.specs.Outcomes.{Results, Answer, after_run, with_inequalities, from_entries, solve}
use Rattle.promises.specs.Refusals.{Sized, Taken, Due, in_equations, in_inequalities, one, two, three, four, five}
use Rattle.promises.specs.Answers.{Says, untouched, zeroed}
use Rattle.promises.proofs.Chosen.{chosen}
use Rattle.rules.specs.declared.Table.TheVariants.{Equations, Inequalities}
use Rattle.promises.proofs.Refusals.{bad-table, bad-entry, large-listed, large-lowest}
use Rattle.promises.proofs.Answers.{promised}

abbrev numbered : Answer → List ℕ
numbered answer = of_outcome answer.outcome

module _ (n m k : ℕ) (equations inequalities : List ℤ) (given : Results) where
  -- what follows the checks
  sized : Sized n m k equations inequalities given → solve n m k equations inequalities given ≡ from_entries n m k equations inequalities
  unfolding solve
  sized checks = chosen _ _ checks.0 ∙ chosen _ _ checks.1

  entered : Taken n m k equations inequalities given
      → solve n m k equations inequalities given ≡ after_run n m k (rows_of (suc n) k inequalities) (elimination n m (rows_of (suc n) m equations))
  unfolding from_entries
  entered taken = sized taken.0 ∙ chosen _ _ taken.1 ∙ chosen _ _ taken.2

  -- the refusal that is due is given
  given-due : {numbers : List ℕ} → Due n m k equations inequalities given numbers → numbered (solve n m k equations inequalities given) ≡ 4 ∷ numbers
  unfolding solve from_entries after_run with_inequalities of_outcome
  given-due (one out) = ap numbered (chosen _ _ out)
  given-due (two range wrong) = ap numbered (chosen _ _ range ∙ chosen _ _ wrong)
  given-due (three checks (in_equations first)) =
      ap numbered (sized checks ∙ chosen _ _ (bad-table first)) ∙ ap (λ refusal. 4 ∷ of_refusal refusal) (bad-entry first Equations)
  given-due (three checks (in_inequalities within first)) =
      ap numbered (sized checks ∙ chosen _ _ within ∙ chosen _ _ (bad-table first)) ∙ ap (λ refusal. 4 ∷ of_refusal refusal) (bad-entry first Inequalities)
  given-due (four taken first) =
      ap numbered
      (entered taken ∙ ap (after_run n m k (rows_of (suc n) k inequalities)) (large-listed n m (rows_of (suc n) m equations) first))
  given-due (five {i} taken first) =
      let lowest = large-lowest (length-rows_of (suc n) k inequalities) first in
      ap numbered
      (entered taken ∙ ap (after_run n m k (rows_of (suc n) k inequalities)) first.ran
      ∙ chosen _ _ (ap (λ j. eqb j 0) lowest ∙ ne_eqb i 0 (omega (arith, first.counts))))
      ∙ ap (λ j. 4 ∷ 5 ∷ j ∷ []) lowest

-- what is given was due
due-given : {n m k : ℕ} {equations inequalities : List ℤ} {given results : Results} {numbers : List ℕ}
    → Says n m k equations inequalities given results (4 ∷ numbers) → Due n m k equations inequalities given numbers
due-given (untouched low due same) = due
due-given (zeroed high due same) = due

pub exactly-refused : (n m k : ℕ) (equations inequalities : List ℤ) (given : Results) (numbers : List ℕ)
    → (of_outcome (solve n m k equations inequalities given).outcome ≡ 4 ∷ numbers) ↔ Due n m k equations inequalities given numbers
exactly-refused n m k equations inequalities given numbers = (
  λ e. due-given (subst (Says n m k equations inequalities given answer.results) e (promised n m k equations inequalities given)),
  given-due n m k equations inequalities given,
)
  where
    answer : Answer
    answer = solve n m k equations inequalities given
