-- "A row has n+1 numbers: the coefficients, then the constant." The constant is one more coefficient: a point is x_1..x_n and then 1.
use Rattle.std.specs.Prelude.{Option, Some, None, Bool, true, false, not, ◌&&◌, ◌||◌, cond, List, [], ◌∷◌, map, ℕ, suc, leb, ltb, eqb, get_or, set, replicate, ℤ, pos, neg_ℤ, nat_abs, ◌+ℤ◌, ◌-ℤ◌, ◌*ℤ◌}
use Rattle.whole.specs.Limit.{W, within}
use Rattle.whole.specs.Gcd.{gcd}
use Rattle.whole.specs.Quotient.{quotient, exactly}

-- the number at column i, from 0
abbrev pub at : List ℤ → ℕ → ℤ
at row i = get_or row i (pos 0)

-- the row's value at a point
unfoldable pub dot : List ℤ → List ℤ → ℤ
dot [] x = pos 0
dot (a ∷ row) [] = pos 0
dot (a ∷ row) (x ∷ xs) = a *ℤ x +ℤ dot row xs

-- the values of several rows at one point
unfoldable pub values : List (List ℤ) → List ℤ → List ℤ
unfolding dot
values rows x = map (λ row. dot row x) rows

unfoldable pub zeros : ℕ → List ℤ
zeros width = replicate width (pos 0)

-- 1 at column i, else 0
unfoldable pub unit_row : ℕ → ℕ → List ℤ
unfolding zeros
unit_row width i = set (zeros width) i (pos 1)

unfoldable pub scaled : ℤ → List ℤ → List ℤ
scaled c row = map (λ z. c *ℤ z) row

-- the row less q times another
unfoldable pub less : List ℤ → ℤ → List ℤ → List ℤ
less [] q other = []
less (a ∷ row) q [] = a ∷ row
less (a ∷ row) q (b ∷ other) = (a -ℤ q *ℤ b) ∷ less row q other

-- the row and, added to it, each of the rows as often as the number with it says
unfoldable pub gathered : List ℤ → List ℤ → List (List ℤ) → List ℤ
unfolding less
gathered row [] rows = row
gathered row (c ∷ cs) [] = row
gathered row (c ∷ cs) (r ∷ rows) = gathered (less row (neg_ℤ c) r) cs rows

-- the greatest common divisor of all numbers of a row: 0 where all are 0
unfoldable pub gcd_of : List ℤ → ℕ
unfolding gcd
gcd_of [] = 0
gcd_of (a ∷ row) = gcd (nat_abs a) (gcd_of row)

-- "the non-zero coefficient of smallest absolute value, lowest column k on a tie": its column; the row's length where all are 0
abbrev pub leads : ℤ → ℤ → Bool
leads a b = not (eqb (nat_abs a) 0) && (eqb (nat_abs b) 0 || leb (nat_abs a) (nat_abs b))

unfoldable pub smallest : List ℤ → ℕ
smallest [] = 0
smallest (a ∷ row) = let k = smallest row in cond (leads a (at row k)) 0 (suc k)

-- every number of the row by a: with the rounding of (c), and where nothing is left
unfoldable pub quotients : ℤ → List ℤ → List ℤ
unfolding quotient
quotients a row = map (λ z. quotient z a) row

unfoldable pub divided : ℤ → List ℤ → List ℤ
unfolding exactly
divided g row = map (λ z. exactly z g) row

-- "exact opposites"
unfoldable pub opposite : List ℤ → List ℤ → Bool
opposite [] [] = true
opposite [] (b ∷ other) = false
opposite (a ∷ row) [] = false
opposite (a ∷ row) (b ∷ other) = eqb (nat_abs (a +ℤ b)) 0 && opposite row other

unfoldable pub all_zero : List ℤ → Bool
all_zero [] = true
all_zero (a ∷ row) = eqb (nat_abs a) 0 && all_zero row

-- whether no number of the row is further from 0 than the bound
unfoldable pub bounded : ℕ → List ℤ → Bool
bounded bound [] = true
bounded bound (a ∷ row) = leb (nat_abs a) bound && bounded bound row

abbrev pub all_within : List ℤ → Bool
all_within row = bounded W row

-- the column, from 0, of the first number beyond the limit, or the length
unfoldable pub first_beyond : List ℤ → ℕ
first_beyond [] = 0
first_beyond (a ∷ row) = let k = first_beyond row in cond (within a) (suc k) 0

-- a place in a row of so many numbers: none where it is not below the count
abbrev pub found : ℕ → ℕ → Option ℕ
found count k = cond (ltb k count) (Some k) None
