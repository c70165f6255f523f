-- Document 01, the multiplier checker: "equations and a table of the conflict table's shape: multipliers, then D".
use Rattle.std.specs.Prelude.{Bool, not, ◌&&◌, List, [], ◌∷◌, leb, length, take, ℤ, nat_abs, Result, Ok, Err}
use Rattle.std.proofs.Math.Bool.{true, false}
use Prim.Native.Nat.{ℕ, suc, ◌*◌, ◌^◌}
use Rattle.std.proofs.Math.Dec.{eqb}
use Rattle.std.specs.Int.Signed.{non_neg}
use Rattle.whole.specs.Gcd.{divides}
use Rattle.rows.specs.Row.{at, zeros, gathered, all_within, bounded, first_beyond}
use Rattle.rows.specs.Table.{rows_of}
use Rattle.rules.specs.declared.Table.TheVariants.{Equations, Multipliers}
use Rattle.rules.specs.declared.Refusal.{Refusal}
use Rattle.rules.specs.declared.Refusal.TheVariants.{OutOfRange, WrongLength, BadEntry}
use Rattle.rules.specs.Outcomes.{in_range, bad_entry}

unfoldable pub divides_all : ℕ → List ℤ → Bool
divides_all d [] = true
divides_all d (a ∷ row) = divides d a && divides_all d row

-- the equations, each as often as its multiplier says
unfoldable pub combined : ℕ → List ℤ → List (List ℤ) → List ℤ
unfolding gathered zeros
combined n multipliers equations = gathered (zeros (suc n)) multipliers equations

-- "D divides each combined coefficient and does not divide the combined constant"
unfoldable pub refutes : ℕ → List ℤ → ℕ → List (List ℤ) → Bool
unfolding combined divides_all
refutes n multipliers d equations =
    let row = combined n multipliers equations in
    divides_all d (take n row) && not (divides d (at row n))

-- "Multipliers lie in -W..W and D in 0..2^56, else refusal 3, table 2, row 1, D being column m+1."
unfoldable pub good_d : ℤ → Bool
good_d d = non_neg d && leb (nat_abs d) (2 ^ 56)

module _ (n m : ℕ) where
  -- yes or no, as the multipliers and D show
  unfoldable pub judged : List ℤ → List ℤ → Result Bool Refusal
  unfolding bounded first_beyond good_d refutes rows_of
  judged equations table =
      elim (all_within (take m table)) [
        | true ↦ elim (good_d (at table m)) [
          | true ↦ Ok (refutes n (take m table) (nat_abs (at table m)) (rows_of (suc n) m equations))
          | false ↦ Err (BadEntry Multipliers 1 (suc m))
        ]
        | false ↦ Err (BadEntry Multipliers 1 (suc (first_beyond (take m table))))
      ]

  -- "Checks run in the order 1, 2, 3": table 0 before table 2
  unfoldable pub check : List ℤ → List ℤ → Result Bool Refusal
  unfolding in_range bounded bad_entry judged
  check equations table =
      elim (in_range n m 0) [
        | true ↦ elim (eqb (length equations) (m * suc n) && eqb (length table) (suc m)) [
          | true ↦ elim (all_within equations) [ true ↦ judged equations table | false ↦ Err (bad_entry (suc n) Equations equations) ]
          | false ↦ Err WrongLength
        ]
        | false ↦ Err OutOfRange
      ]
