-- "the bit length of that number": how often it is halved before it is 0.
use Rattle.std.specs.Prelude.{ℕ, zero, suc, ◌/◌}

unfoldable pub halvings : ℕ → ℕ → ℕ
halvings zero x = 0
halvings (suc most) zero = 0
halvings (suc most) (suc x) = suc (halvings most (suc x / 2))

-- a number is halved fewer times than it counts
unfoldable pub bit_length : ℕ → ℕ
unfolding halvings
bit_length x = halvings x x
