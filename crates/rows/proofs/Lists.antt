-- Indices: the tail of a list with the code's `i + 1`, and the rows of a flat table of m rows of width w, whose products omega takes
-- as unknowns.
use mathlib.Core.Path.{◌≡◌}
use mathlib.Core.List.{List, ◌∷◌}
use Prim.Native.Nat.{ℕ, ◌+◌, ◌*◌, ◌≤◌, ◌<◌}
use native.Mathlib.Nat.{suc-mul, mul-le-mul_right}
use native.Mathlib.Numerals.{add-one}
use lib.ListN.{length, get_or, drop}
use lib.Seq.{drop-cons}

pub tail_at : {A : Type 0} (l : List A) (i : ℕ) (d : A) → i < length l → drop i l ≡ get_or l i d ∷ drop (i + 1) l
tail_at l i d h = rw (add-one, drop-cons l i d)

-- row r ends within the table: with it omega has r * w + c < m * w for a column c below w, and that r * w fits where m * w does
pub row-end : (m w r : ℕ) → r < m → r * w + w ≤ m * w
row-end m w r h = rw (← suc-mul r w) (mul-le-mul_right w h)

-- the next row starts where this one ends
pub row_next : (w r : ℕ) → (r + 1) * w ≡ r * w + w
row_next w r = rw add-one (suc-mul r w)
