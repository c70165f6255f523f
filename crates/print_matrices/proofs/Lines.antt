-- The lines of the rows that are left of a flat table, as the loops meet them.
use mathlib.Core.Path.{◌≡◌, refl, ap}
use mathlib.Core.Bool.{false}
use mathlib.Core.List.{List, [], ◌∷◌, ◌++◌, map}
use Prim.Native.Nat.{ℕ, suc, ◌+◌, ◌*◌, ◌/◌, ◌<◌}
use native.Mathlib.Nat.{mul-div_cancel, add-div_left, div-eq_of_lt}
use native.Mathlib.Numerals.{add-one}
use native.Mathlib.Omega.{arith}
use lib.ListN.{length, length-append}
use lib.Seq.{take_at, drop_at}
use lib.IntN.{ℤ}
use Rattle.rows.specs.Table.{rows_of}
use Rattle.matrix.specs.Printed.{turned, lines_from}

-- the lines from line i on: the rows of width n + 1 that are left
abbrev pub lines_left : (ℕ → List ℤ → List ℕ) → ℕ → ℕ → List ℤ → List ℕ
lines_left line n i rest = lines_from line i (rows_of (suc n) (length rest / suc n) rest)

-- how many rows there are
pub row_count : (n count : ℕ) (table : List ℤ) → length table ≡ count * suc n → length table / suc n ≡ count
row_count n count table e = rw e (mul-div_cancel count (omega arith))

module _ (line : ℕ → List ℤ → List ℕ) (n i : ℕ) where
  pub line-first : (rest row more : List ℤ) → rest ≡ row ++ more → length row ≡ suc n
      → lines_left line n i rest ≡ line i row ++ lines_left line n (i + 1) more
  unfolding lines_from rows_of
  line-first rest row more e h =
      let count : length (row ++ more) / suc n ≡ suc (length more / suc n) =
      rw (length-append row more, h, add-div_left (length more) {k = suc n} (omega arith), add-one (length more / suc n)) in
      rw (e, count, take_at row more (suc n) h, drop_at row more (suc n) h, add-one i)

  pub line-none : (rest : List ℤ) → length rest < suc n → lines_left line n i rest ≡ []
  unfolding lines_from rows_of
  line-none rest h =
      let none : length rest / suc n ≡ 0 = div-eq_of_lt h in
      rw none

-- a row that is not turned
pub turned_none : (row : List ℤ) → map (turned false) row ≡ row
unfolding turned
turned_none [] = refl
turned_none (z ∷ row) = ap (λ (l : List ℤ). z ∷ l) (turned_none row)
