-- "W = 268,435,455 (2^28 - 1). Entries lie in -W..W."
use Rattle.std.specs.Prelude.{Bool, ℕ, leb, ℤ, nat_abs}

abbrev pub W : ℕ
W = 268435455

-- whether z lies in -W..W
abbrev pub within : ℤ → Bool
within z = leb (nat_abs z) W
