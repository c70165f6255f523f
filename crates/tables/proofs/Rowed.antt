-- A loop over the rows of a flat table that puts what a function gives of each row in the row's place.
use mathlib.Core.Path.{◌≡◌, sym, ap, subst, ◌∙◌}
use mathlib.Core.List.{List, [], ◌∷◌, ◌++◌, map, append_assoc}
use Prim.Native.Nat.{ℕ, suc, ◌+◌, ◌-◌, ◌*◌, ◌≤◌, ◌<◌}
use native.Mathlib.Nat.{sub-zero, zero-mul}
use native.Mathlib.Omega.{arith}
use lib.ListN.{length, take, drop, length-drop, length-append}
use lib.Seq.{length-take-le, take_at, drop_at, take-add, drop-drop}
use Rattle.rows.specs.Table.{rows_of, flat, row_at, set_row}
use Rattle.rows.proofs.Lists.{row-end, row_next}
use Rattle.rows.proofs.Sweep.{Swept, swept-start, swept-end}

module _ {A : Type 0} where
  -- ---- the rows of the table from row r on: what is left past the last row, and one row more
  abbrev pub rows_from : ℕ → ℕ → ℕ → List A → List (List A)
  rows_from w count r t = rows_of w (count - r) (drop (r * w) t)

  pub rows_start : (w count : ℕ) (t : List A) → rows_from w count 0 t ≡ rows_of w count t
  rows_start w count t = rw (sub-zero count, zero-mul w)

  rows_none : (w count r : ℕ) (t : List A) → count ≤ r → rows_from w count r t ≡ []
  unfolding rows_of
  rows_none w count r t h = let none : count - r ≡ 0 = omega arith in rw none

  pub rows_more : (w count r : ℕ) (t : List A) → r < count → rows_from w count r t ≡ row_at w r t ∷ rows_from w count (r + 1) t
  unfolding rows_of
  rows_more w count r t h =
      let one : count - r ≡ suc (count - (r + 1)) = omega arith in
      rw (one, drop-drop w (r * w) t, row_next w r)

  -- ---- a sweep of w elements at once
  -- the row of them that starts at i is written
  swept-row : {l₀ l goal rest : List A} {i : ℕ} (w : ℕ) (row rest' : List A) → i + w ≤ length l → length row ≡ w → rest ≡ row ++ rest'
      → Swept l₀ l goal i rest → Swept l₀ (take i l ++ (row ++ drop w (drop i l))) goal (i + w) rest'
  swept-row {l₀} {l} {goal} {rest} {i} w row rest' h k e s =
      let front : length (take i l) ≡ i = length-take-le i l (omega arith) in
      let back = row ++ drop w (drop i l) in
      let behind : drop i (take i l ++ back) ≡ back = drop_at (take i l) back i front in
      record {
        len = simp (length-append, length-drop) (omega (arith, s.len));
        ahead =
            sym (drop-drop w i (take i l ++ back)) ∙ ap (drop w) behind ∙ drop_at row (drop w (drop i l)) w k ∙ ap (drop w) s.ahead ∙ drop-drop w i l₀;
        done =
            rw (take-add i w (take i l ++ back), behind, take_at (take i l) back i front, take_at row (drop w (drop i l)) w k)
            (append_assoc (take i l) row rest' ∙ ap (λ (m : List A). take i l ++ m) (sym e) ∙ s.done);
      }

  -- ---- the sweep over the rows: those before row r have in their place what f gives of them
  module _ (f : List A → List A) (w count : ℕ) where
    -- what f gives of the rows from row r on
    abbrev pub ahead_of : ℕ → List A → List A
    ahead_of r t = flat (map f (rows_from w count r t))

    abbrev pub whole_of : List A → List A
    whole_of t = flat (map f (rows_of w count t))

    abbrev pub Rowed : List A → List A → ℕ → Type 0
    Rowed t₀ t r = Swept t₀ t (whole_of t₀) (r * w) (ahead_of r t₀)

    pub ahead-start : (t : List A) → ahead_of 0 t ≡ whole_of t
    ahead-start t = ap (λ (rows : List (List A)). flat (map f rows)) (rows_start w count t)

    pub ahead_none : (r : ℕ) (t : List A) → count ≤ r → ahead_of r t ≡ []
    unfolding flat
    ahead_none r t h = ap (λ (rows : List (List A)). flat (map f rows)) (rows_none w count r t h)

    pub ahead_more : (r : ℕ) (t : List A) → r < count → ahead_of r t ≡ f (row_at w r t) ++ ahead_of (r + 1) t
    unfolding flat
    ahead_more r t h = ap (λ (rows : List (List A)). flat (map f rows)) (rows_more w count r t h)

    pub rowed-start : (t : List A) → Rowed t t 0
    rowed-start t = rw (ahead-start t, zero-mul w) (swept-start t (whole_of t))

    -- row r is as it was at first
    pub rowed-row : {t₀ t : List A} (r : ℕ) → Rowed t₀ t r → row_at w r t ≡ row_at w r t₀
    rowed-row r s = ap (take w) s.ahead

    -- the next row starts where this one ends
    next : {t₀ t : List A} (r : ℕ) → Swept t₀ t (whole_of t₀) (r * w + w) (ahead_of (r + 1) t₀) → Rowed t₀ t (r + 1)
    next {t₀} {t} r s = subst (λ (i : ℕ). Swept t₀ t (whole_of t₀) i (ahead_of (r + 1) t₀)) (sym (row_next w r)) s

    module _ {t₀ t : List A} (r : ℕ) (h : r < count) (s : Rowed t₀ t r) where
      -- row r is written, or written as it was where f leaves it so
      pub rowed-step : (row : List A) → length t₀ ≡ count * w → row ≡ f (row_at w r t₀) → length row ≡ w → Rowed t₀ (set_row w r row t) (r + 1)
      rowed-step row l e k =
          let more = ahead_more r t₀ h ∙ ap (λ (m : List A). m ++ ahead_of (r + 1) t₀) (sym e) in
          next r (swept-row w row (ahead_of (r + 1) t₀) (omega (arith, row-end count w r h, s.len)) k more s)

    -- no row is left: the table is what f gives of all of them
    pub rowed-end : {t₀ t : List A} (r : ℕ) → r ≡ count → length t₀ ≡ count * w → Rowed t₀ t r → t ≡ whole_of t₀
    rowed-end {t₀} {t} r e l s = swept-end (omega (arith, s.len, ap (λ (n : ℕ). n * w) e)) (ahead_none r t₀ (omega arith)) s
