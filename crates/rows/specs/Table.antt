-- Flat tables: rows of one width, one behind the other.
use Rattle.std.specs.Prelude.{◌≡◌, List, [], ◌∷◌, ◌++◌, ℕ, zero, suc, ◌*◌, length, take, drop}

module _ {A : Type 0} where
  -- the first rows, as many as are named
  unfoldable pub rows_of : ℕ → ℕ → List A → List (List A)
  rows_of width zero table = []
  rows_of width (suc count) table = take width table ∷ rows_of width count (drop width table)

  -- the rows in one list
  unfoldable pub flat : List (List A) → List A
  flat [] = []
  flat (row ∷ rows) = row ++ flat rows

  -- every row has this many numbers
  abbrev pub Wide : ℕ → List (List A) → Type 0
  Wide width [] = Unit {0}
  Wide width (row ∷ rows) = (length row ≡ width) × Wide width rows

  -- row r, from 0, and the table with another row there: in the form in which a lent part comes back
  abbrev pub row_at : ℕ → ℕ → List A → List A
  row_at width r table = take width (drop (r * width) table)

  abbrev pub set_row : ℕ → ℕ → List A → List A → List A
  set_row width r row table = take (r * width) table ++ (row ++ drop width (drop (r * width) table))
