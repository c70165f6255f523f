-- Laws of flat tables: `rows_of` takes a table apart into its rows and `flat` puts them together again, and to read or replace row r of
-- the table is to read or replace element r of its rows.
use mathlib.Core.Path.{◌≡◌, refl, sym, ap, ◌∙◌}
use mathlib.Core.List.{List, [], ◌∷◌, ◌++◌, append_assoc}
use Prim.Native.Nat.{ℕ, zero, suc, ◌+◌, ◌*◌, ◌-◌, ◌≤◌, ◌<◌}
use native.Mathlib.Nat.{zero-mul, suc-mul, add-sub_cancel_left}
use native.Mathlib.Numerals.{add-one}
use native.Mathlib.Omega.{arith}
use lib.ListN.{length, get_or, take, drop, set, length-append, length-take, length-drop, take-append-drop}
use lib.Seq.{length-take-le, take_at, drop_at, drop-drop, take-add}
use Rattle.rows.specs.Table.{rows_of, flat, row_at, set_row, Wide}
use Rattle.rows.proofs.Lists.{row-end}

-- a table of one row more, from the front
suc-rows : (w m : ℕ) → suc m * w ≡ w + m * w
suc-rows w m = omega (arith, suc-mul m w)

module _ {A : Type 0} where
  -- ---- rows into a table and out again
  pub length-flat : (w : ℕ) (rows : List (List A)) → Wide w rows → length (flat rows) ≡ length rows * w
  unfolding flat
  length-flat w [] h = sym (zero-mul w)
  length-flat w (row ∷ rows) h = simp length-append (omega (arith, h.0, length-flat w rows h.1, suc-rows w (length rows)))

  pub rows_of-flat : (w : ℕ) (rows : List (List A)) → Wide w rows → rows_of w (length rows) (flat rows) ≡ rows
  unfolding rows_of flat
  rows_of-flat w [] h = refl
  rows_of-flat w (row ∷ rows) h = rw (take_at row (flat rows) w h.0, drop_at row (flat rows) w h.0, rows_of-flat w rows h.1)

  -- a row of the right width put in place of another
  pub wide-set : (w : ℕ) (rows : List (List A)) (k : ℕ) (row : List A) → Wide w rows → length row ≡ w → Wide w (set rows k row)
  wide-set w [] k row h l = tt
  wide-set w (r ∷ rows) zero row h l = (l, h.1)
  wide-set w (r ∷ rows) (suc k) row h l = (h.0, wide-set w rows k row h.1 l)

  -- ---- a table into rows: its first row, and what is left
  first-row : (w m : ℕ) (t : List A) → length t ≡ suc m * w → length (take w t) ≡ w
  first-row w m t e = length-take-le w t (omega (arith, suc-rows w m))

  other-rows : (w m : ℕ) (t : List A) → length t ≡ suc m * w → length (drop w t) ≡ m * w
  other-rows w m t e = simp length-drop (omega (arith, suc-rows w m))

  pub length-rows_of : (w m : ℕ) (t : List A) → length (rows_of w m t) ≡ m
  unfolding rows_of
  length-rows_of w zero t = refl
  length-rows_of w (suc m) t = ap suc (length-rows_of w m (drop w t))

  pub wide-rows_of : (w m : ℕ) (t : List A) → length t ≡ m * w → Wide w (rows_of w m t)
  unfolding rows_of
  wide-rows_of w zero t e = tt
  wide-rows_of w (suc m) t e = (first-row w m t e, wide-rows_of w m (drop w t) (other-rows w m t e))

  pub flat-rows_of : (w m : ℕ) (t : List A) → length t ≡ m * w → flat (rows_of w m t) ≡ t
  unfolding rows_of flat
  flat-rows_of w zero [] e = refl
  flat-rows_of w zero (a ∷ t) e = absurd (omega (arith, zero-mul w))
  flat-rows_of w (suc m) t e = rw (flat-rows_of w m (drop w t) (other-rows w m t e)) (take-append-drop w t)

  -- ---- row r: the rows before it and the row itself end within the table
  module _ (w m r : ℕ) (t : List A) (h : r < m) (e : length t ≡ m * w) where
    pub length-row_at : length (row_at w r t) ≡ w
    length-row_at = simp (length-take, length-drop) (omega (arith, row-end m w r h))

    pub length-set_row : (row : List A) → length row ≡ w → length (set_row w r row t) ≡ m * w
    length-set_row row l = simp (length-append, length-take, length-drop) (omega (arith, row-end m w r h))

  -- ---- the same by rows: row r + 1 of a table is row r of what follows the first row
  drop-suc : (w r : ℕ) (t : List A) → drop (suc r * w) t ≡ drop (r * w) (drop w t)
  drop-suc w r t = rw (suc-rows w r) (sym (drop-drop (r * w) w t))

  set_row-suc : (w r : ℕ) (t row : List A) → set_row w (suc r) row t ≡ take w t ++ set_row w r row (drop w t)
  set_row-suc w r t row =
      rw (drop-suc w r t, suc-rows w r, take-add w (r * w) t)
      (append_assoc (take w t) (take (r * w) (drop w t)) (row ++ drop w (drop (r * w) (drop w t))))

  pub row_of : (w m r : ℕ) (t : List A) → r < m → get_or (rows_of w m t) r [] ≡ row_at w r t
  unfolding rows_of
  row_of w zero r t h = absurd (omega arith)
  row_of w (suc m) zero t h = rw (zero-mul w)
  row_of w (suc m) (suc r) t h = row_of w m r (drop w t) (omega arith) ∙ ap (take w) (sym (drop-suc w r t))

  pub rows_of-set_row : (w m r : ℕ) (t row : List A) → r < m → length t ≡ m * w → length row ≡ w
      → rows_of w m (set_row w r row t) ≡ set (rows_of w m t) r row
  unfolding rows_of
  rows_of-set_row w zero r t row h e l = absurd (omega arith)
  rows_of-set_row w (suc m) zero t row h e l = rw (zero-mul w, take_at row (drop w t) w l, drop_at row (drop w t) w l)
  rows_of-set_row w (suc m) (suc r) t row h e l =
      let first = first-row w m t e in
      let rest = set_row w r row (drop w t) in
      rw (set_row-suc w r t row, take_at (take w t) rest w first, drop_at (take w t) rest w first)
      (ap (λ (rows : List (List A)). take w t ∷ rows) (rows_of-set_row w m r (drop w t) row (omega arith) (other-rows w m t e) l))

  -- ---- row i of a table with rows of n + 1 numbers, as the code lends it
  pub row_fits : (n count i : ℕ) (t : List A) → i < count → length t ≡ count * suc n → i * (n + 1) + (n + 1) ≤ length t
  row_fits n count i t h e = rw (add-one n) (omega (arith, row-end count (suc n) i h))

  pub row-lent : (n i : ℕ) (t : List A) → take (i * (n + 1) + (n + 1) - i * (n + 1)) (drop (i * (n + 1)) t) ≡ row_at (suc n) i t
  row-lent n i t = rw (add-sub_cancel_left (i * (n + 1)) (n + 1), add-one n)
