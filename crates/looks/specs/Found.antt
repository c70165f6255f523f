-- How the answers of the two looks show the numbers that the definitions find.
use Rattle.std.specs.Prelude.{Option, Some, None, ℕ, zero, suc}
use Rattle.looks.specs.declared.Pair.{Pair}

-- the row, counting from 1; 0 says that there is none
abbrev pub row_found : ℕ → Option ℕ
row_found zero = None
row_found (suc i) = Some (suc i)

-- the pair, both counting from 1; 0 in its first part says that there is none
abbrev pub pair_found : ℕ × ℕ → Option Pair
pair_found p = elim p.0 [ zero ↦ None | suc i ↦ Some (record { i = suc i; j = p.1 }) ]
