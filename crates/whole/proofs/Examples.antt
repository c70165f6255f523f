-- Values that compute, among them document 01's own.
use mathlib.Core.Path.{◌≡◌, refl}
use mathlib.Core.Bool.{true, false}
use lib.IntN.{pos, negsuc}
use Rattle.whole.specs.Limit.{within}
use Rattle.whole.specs.Gcd.{gcd, gcd_within, divides}
use Rattle.whole.specs.Quotient.{quotient, remainder, exactly, ceiling}
use Rattle.whole.specs.BitLength.{bit_length, halvings}

gcd-of-zeros : gcd 0 0 ≡ 0
unfolding gcd gcd_within
gcd-of-zeros = refl

-- two neighbours of Fibonacci's numbers, which take the most rounds
gcd-long : gcd 165580141 267914296 ≡ 1
unfolding gcd gcd_within
gcd-long = refl

gcd-large : gcd 268435455 178956970 ≡ 89478485
unfolding gcd gcd_within
gcd-large = refl

zero-divides-zero : divides 0 (pos 0) ≡ true
zero-divides-zero = refl

zero-divides-no-other : divides 0 (negsuc 4) ≡ false
zero-divides-no-other = refl

-- "divides -7 by 3 as -2, remainder -1"
quotient-toward-zero : quotient (negsuc 6) (pos 3) ≡ negsuc 1
unfolding quotient
quotient-toward-zero = refl

remainder-below-zero : remainder (negsuc 6) (pos 3) ≡ negsuc 0
unfolding quotient remainder
remainder-below-zero = refl

exactly-below-zero : exactly (negsuc 11) (pos 4) ≡ negsuc 2
unfolding exactly
exactly-below-zero = refl

-- 2/5 is rounded up to 1, -3/5 to 0, 10/5 is 2
ceiling-above : ceiling (pos 2) (pos 5) ≡ pos 1
unfolding ceiling
ceiling-above = refl

ceiling-below : ceiling (negsuc 2) (pos 5) ≡ pos 0
unfolding ceiling
ceiling-below = refl

ceiling-even : ceiling (pos 10) (pos 5) ≡ pos 2
unfolding ceiling
ceiling-even = refl

within-limit : within (negsuc 268435454) ≡ true
within-limit = refl

past-limit : within (pos 268435456) ≡ false
past-limit = refl

length-of-five : bit_length 5 ≡ 3
unfolding bit_length halvings
length-of-five = refl

length-of-limit : bit_length 268435455 ≡ 28
unfolding bit_length halvings
length-of-limit = refl
