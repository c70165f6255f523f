-- When the checker judges: it takes "equations and a table of the conflict table's shape: multipliers, then D".
use Rattle.std.specs.Prelude.{◌≡◌, true, List, ℕ, suc, ◌*◌, length, take, ℤ}
use Rattle.rows.specs.Row.{at, all_within}
use Rattle.rules.specs.Outcomes.{in_range}
use Rattle.rules.specs.Checker.{good_d}

-- none of its refusals is due: `yes-exactly` in proofs/YesMeans.antt shows that it says yes exactly where this holds and the multipliers
-- and D refute the equations
pub record Checkable (n m : ℕ) (equations table : List ℤ) : Type 0 where
  -- "n variables, 1..32; m equations, 0..32"
  pub range : in_range n m 0 ≡ true
  -- "The input tables hold exactly m(n+1) .. numbers", and a conflict table m+1
  pub lengths : (length equations ≡ m * suc n) × (length table ≡ suc m)
  -- "Entries lie in -W..W."
  pub entries : all_within equations ≡ true
  -- "Multipliers lie in -W..W and D in 0..2^56"
  pub multipliers : all_within (take m table) ≡ true
  pub d : good_d (at table m) ≡ true
