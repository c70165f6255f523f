-- `coefficients::smallest` meets its contract: `best` is the column found among those behind the n that are left, and `least` the size of the
-- number there less one, or about the limit where none is found. The column before takes its place where the definition says so.
use Rattle.std.proofs.Common.{◌≡◌, ℕ, ◌+◌, ◌≤◌, ◌⊎◌, List, ◌++◌, length, drop, ℤ, nat_abs}
use Rattle.std.specs.Slice.Iter.{iter_rest}
use Rattle.whole.specs.Limit.{W}
use Rattle.rows.specs.Row.{at, smallest}
use Rattle.coefficients.proofs.smallest.Given as goal

-- none is found yet, and the limit itself would still be taken; or the column of the least
abbrev pub Least : List ℤ → ℕ → ℕ → Type 0
Least row best least = ((nat_abs (at row best) ≡ 0) × (W ≤ least + 1) × (least ≤ W)) ⊎ (nat_abs (at row best) ≡ least + 1)

-- the numbers that are left stand in front of the row
abbrev pub Front : List ℤ → List ℤ → Type 0
Front row left = left ++ drop (length left) row ≡ row

abbrev pub invariant-loop-i : goal.invariant-loop-i
invariant-loop-i l =
    let left = iter_rest l.i-iterator.iter.iter in
    (l.i-iterator.iter.count ≡ 0)
    × Front l.row left
    × (l.best ≡ length left + smallest (drop (length left) l.row))
    × Least l.row l.best l.least
