-- The greatest common divisor, gcd 0 0 being 0, and "divides", where 0 divides only 0.
use Rattle.std.specs.Prelude.{Bool, ℕ, zero, suc, ◌%◌, eqb, ℤ, nat_abs}

-- Euclid's rule, for at most as many rounds as the first number says
unfoldable pub gcd_within : ℕ → ℕ → ℕ → ℕ
gcd_within zero a b = a
gcd_within (suc rounds) a zero = a
gcd_within (suc rounds) a (suc b) = gcd_within rounds (suc b) (a % suc b)

-- the second number falls in each round, so it is rounds enough
unfoldable pub gcd : ℕ → ℕ → ℕ
unfolding gcd_within
gcd a b = gcd_within b a b

-- whether d divides z: "0 divides only 0", since what is left of z by 0 is z
abbrev pub divides : ℕ → ℤ → Bool
divides d z = eqb (nat_abs z % d) 0
