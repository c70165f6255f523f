-- The promises of a whole call: what each outcome says, with the result tables, is so.
use mathlib.Core.Path.{◌≡◌, refl}
use mathlib.Core.Logic.{◌↔◌}
use mathlib.Core.Bool.{Bool, true, false}
use mathlib.Core.List.{List}
use Prim.Native.Nat.{ℕ, suc}
use native.Mathlib.Omega.{arith}
use lib.IntN.{ℤ}
use Rattle.rows.specs.Row.{all_within}
use Rattle.rows.specs.Table.{rows_of}
use Rattle.rules.specs.declared.Refusal.TheVariants.{OutOfRange, WrongLength}
use Rattle.rules.specs.declared.Outcome.TheVariants.{Refused}
use Rattle.rules.specs.Numbers.{kind, of_outcome}
use Rattle.rules.specs.Elimination.{elimination}
use Rattle.rules.specs.declared.Table.TheVariants.{Equations, Inequalities}
use Rattle.rules.specs.Outcomes.{Results, bad_entry, blank, in_range, right_lengths, after_run, solve}
use Rattle.promises.specs.Solutions.{Unsolvable}
use Rattle.promises.specs.Refusals.{in_equations, in_inequalities, one, two, three}
use Rattle.promises.specs.Answers.{Filled, Says, opened, equation_conflict, one_row_conflict, two_row_conflict, untouched, zeroed, Promised}
use Rattle.promises.proofs.Refusals.{first-bad}
use Rattle.promises.proofs.AnswersAfter.{input-lengths, kept-after}

-- ---- every call
pub promised : (n m k : ℕ) (equations inequalities : List ℤ) (given : Results)
    → Promised n m k equations inequalities given (solve n m k equations inequalities given)
unfolding solve bad_entry of_outcome
promised n m k equations inequalities given =
    go (in_range n m k) refl (right_lengths n m k equations inequalities given) refl (all_within equations) refl (all_within inequalities) refl
  where
    go : (a : Bool) → in_range n m k ≡ a → (b : Bool) → right_lengths n m k equations inequalities given ≡ b → (c : Bool) → all_within equations ≡ c
        → (d : Bool) → all_within inequalities ≡ d → Promised n m k equations inequalities given (elim a [
          | true ↦ elim b [
            | true ↦ elim c [
              | true ↦ elim d [
                | true ↦ after_run n m k (rows_of (suc n) k inequalities) (elimination n m (rows_of (suc n) m equations))
                | false ↦ record { outcome = Refused (bad_entry (suc n) Inequalities inequalities); results = blank n m k }
              ]
              | false ↦ record { outcome = Refused (bad_entry (suc n) Equations equations); results = blank n m k }
            ]
            | false ↦ record { outcome = Refused WrongLength; results = given }
          ]
          | false ↦ record { outcome = Refused OutOfRange; results = given }
        ])
    go true range true lengths true e true i =
        kept-after n m k equations inequalities given ((range, lengths), e, i) (elimination n m (rows_of (suc n) m equations)) refl
    go true range true lengths true e false i =
        zeroed {number = 3} (omega arith)
        (three (range, lengths)
        (in_inequalities e (first-bad n k inequalities (input-lengths n m k equations inequalities given lengths).1 i)))
        refl
    go true range true lengths false e d i =
        zeroed {number = 3} (omega arith)
        (three (range, lengths) (in_equations (first-bad n m equations (input-lengths n m k equations inequalities given lengths).0 e)))
        refl
    go true range false lengths c e d i = untouched {number = 2} (omega arith) (two range lengths) refl
    go false range b lengths c e d i = untouched {number = 1} (omega arith) (one range) refl

-- ---- "the equations can't be met" is said exactly when no whole numbers satisfy them

-- where some do, another outcome is right
some-satisfy : {n m k other : ℕ} {equations inequalities : List (List ℤ)} {steps : ℕ} {results : Results} → (other ≡ 1 → ⊥)
    → Filled n m k equations inequalities steps results → (other ≡ 1) ↔ Unsolvable n equations
some-satisfy not-one filled = (λ z. absurd (not-one z), λ none. absurd (none filled.solvable.0 filled.solvable.1 filled.solvable.2))

pub exactly-unmet : (n m k : ℕ) (equations inequalities : List ℤ) (given : Results)
    → let numbers = of_outcome (solve n m k equations inequalities given).outcome in
    (kind numbers ≡ 4 → ⊥) → (kind numbers ≡ 1) ↔ Unsolvable n (rows_of (suc n) m equations)
exactly-unmet n m k equations inequalities given = go (promised n m k equations inequalities given)
  where
    go : {numbers : List ℕ} → Says n m k equations inequalities given (solve n m k equations inequalities given).results numbers
        → (kind numbers ≡ 4 → ⊥) → (kind numbers ≡ 1) ↔ Unsolvable n (rows_of (suc n) m equations)
    go (opened filled) ran = some-satisfy (omega arith) filled
    go (equation_conflict unmet others) ran = (λ e. unmet.unsolvable, λ none. refl)
    go (one_row_conflict unmet) ran = some-satisfy (omega arith) unmet.filled
    go (two_row_conflict unmet) ran = some-satisfy (omega arith) unmet.filled
    go (untouched low due same) ran = absurd (ran refl)
    go (zeroed high due same) ran = absurd (ran refl)
