-- What a call of an exported function leaves behind: its result, the outcome's numbers, and the lent tables.
use Rattle.std.specs.Prelude.{cond, List, ℕ, eqb, ℤ, length}
use Rattle.rules.specs.Outcomes.{Results, solve}
use Rattle.rules.specs.Checker.{check}
use Rattle.matrix.specs.Reader.{read}
use Rattle.rules.specs.Numbers.{of_outcome, of_verdict, of_reading}
use Rattle.numbers.specs.Numbers.{five}

pub record Returned (T : Type 0) : Type 0 where
  pub result : ℕ
  pub numbers : List ℕ
  pub tables : T

abbrev pub returned : {T : Type 0} → ℕ → List ℕ → T → Returned T
returned result numbers tables = record { result = result; numbers = numbers; tables = tables }

-- 1 and all of the answer, or 0 and everything as it came, where there is no room for just five numbers
abbrev pub in_five : {T : Type 0} → List ℕ → T → List ℕ → T → Returned T
in_five numbers tables given before = cond (eqb (length given) 5) (returned 1 numbers tables) (returned 0 given before)

unfoldable pub solved : ℕ → ℕ → ℕ → List ℤ → List ℤ → Results → List ℕ → Returned Results
unfolding solve of_outcome five
solved n m k equations inequalities given outcome =
    let a = solve n m k equations inequalities given in in_five (five (of_outcome a.outcome)) a.results outcome given

-- the checker has no tables but the outcome's
unfoldable pub checked : ℕ → ℕ → List ℤ → List ℤ → List ℕ → Returned (Unit {0})
unfolding check of_verdict five
checked n m equations multipliers outcome = in_five (five (of_verdict (check n m equations multipliers))) tt outcome tt

unfoldable pub read_into : List ℕ → List ℤ → List ℤ → List ℕ → Returned (List ℤ × List ℤ)
unfolding read of_reading five
read_into text equations inequalities outcome =
    let r = read text equations inequalities in
    in_five (five (of_reading r.reading)) (r.equations, r.inequalities) outcome (equations, inequalities)
