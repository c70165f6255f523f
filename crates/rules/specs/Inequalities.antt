-- Document 01, "Inequalities".
use Rattle.std.specs.Prelude.{Bool, true, false, not, ◌&&◌, ◌||◌, cond, List, [], ◌∷◌, ◌++◌, map, ℕ, suc, ◌+◌, ◌*◌, eqb, leb, set, take, ℤ, pos, nat_abs, ◌+ℤ◌}
use Rattle.std.specs.Int.Signed.{lt_z}
use Rattle.whole.specs.Gcd.{divides}
use Rattle.whole.specs.Quotient.{ceiling}
use Rattle.rows.specs.Row.{at, zeros, gathered, gcd_of, divided, opposite, all_zero}
use Rattle.rules.specs.Elimination.{State, counted}

-- ---- "Put the substitution in, closed columns too": the n+1 sums

unfoldable pub sums : ℕ → List (List ℤ) → List ℤ → List ℤ
unfolding gathered zeros
sums n substitution row = gathered (set (zeros (suc n)) n (at row n)) (take n row) substitution

-- ---- "Used: every equation with a non-zero multiplier in the reason of a closed column whose sum is non-zero."

unfoldable pub rests_on : List ℕ → List (List ℤ) → List ℤ → ℕ → Bool
rests_on [] reasons row j = false
rests_on (mark ∷ marks) [] row j = false
rests_on (mark ∷ marks) (reason ∷ reasons) [] j = false
rests_on (mark ∷ marks) (reason ∷ reasons) (sum ∷ row) j =
    (eqb mark 0 && (not (eqb (nat_abs sum) 0) && not (eqb (nat_abs (at reason j)) 0))) || rests_on marks reasons row j

-- "a set of equations, bit j-1 standing for equation j"
unfoldable pub set_of : List Bool → ℕ
set_of [] = 0
set_of (there ∷ more) = cond there 1 0 + 2 * set_of more

unfoldable pub used_by : ℕ → State → List ℤ → ℕ
unfolding rests_on set_of counted
used_by m s row = set_of (map (rests_on s.marks s.reasons row) (counted 0 m))

-- ---- "Then closed columns are set to zero."

unfoldable pub only_open : List ℕ → List ℤ → List ℤ
only_open [] row = row
only_open (mark ∷ marks) [] = []
only_open (mark ∷ marks) (a ∷ row) = cond (eqb mark 0) (pos 0) a ∷ only_open marks row

-- ---- "If g >= 2 and g does not divide the constant, the coefficients are divided by g and the constant becomes the least whole
-- number not below constant/g. Otherwise the row stays."

unfoldable pub tighten : ℕ → List ℤ → List ℤ
unfolding gcd_of divided ceiling
tighten n row =
    let g = gcd_of (take n row) in
    elim (leb 2 g && not (divides g (at row n))) [
      | true ↦ divided (pos g) (take n row) ++ ceiling (at row n) (pos g) ∷ []
      | false ↦ row
    ]

unfoldable pub tightened_row : ℕ → State → List ℤ → List ℤ
unfolding sums only_open tighten
tightened_row n s row = tighten n (only_open s.marks (sums n s.substitution row))

-- ---- "First, the lowest row with no coefficients and constant > 0."

-- the number, from 1, of the first row that passes the test: 0 where none does
unfoldable pub first_row : (List ℤ → Bool) → List (List ℤ) → ℕ
first_row test [] = 0
first_row test (row ∷ rows) =
    let later = first_row test rows in
    elim (test row) [ true ↦ 1 | false ↦ elim (eqb later 0) [ true ↦ 0 | false ↦ suc later ] ]

abbrev pub positive : ℤ → Bool
positive z = lt_z (pos 0) z

unfoldable pub alone : ℕ → List ℤ → Bool
unfolding all_zero
alone n row = all_zero (take n row) && positive (at row n)

-- ---- "Then, the lowest i, then lowest j > i, whose coefficients are exact opposites, not all zero, and whose constants sum to
-- more than 0."

unfoldable pub against : ℕ → List ℤ → List ℤ → Bool
unfolding opposite all_zero
against n row other = opposite (take n row) (take n other) && (not (all_zero (take n row)) && positive (at row n +ℤ at other n))

-- the first such pair, the first of the rows being row i: 0, 0 where there is none
unfoldable pub first_pair : ℕ → ℕ → List (List ℤ) → ℕ × ℕ
unfolding first_row against
first_pair n i [] = (0, 0)
first_pair n i (row ∷ later) =
    let after = first_row (against n row) later in
    elim (eqb after 0) [ true ↦ first_pair n (suc i) later | false ↦ (i, i + after) ]
