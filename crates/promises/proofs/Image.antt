-- A table of n rows takes a point of n+1 numbers to another: its rows' values, and the last number unchanged. The substitution and
-- the way back are such tables.
use mathlib.Core.Path.{◌≡◌, refl, sym, ap, ap₂, ◌∙◌, subst}
use mathlib.Core.List.{List, [], ◌∷◌, ◌++◌, map}
use Prim.Native.Nat.{ℕ, zero, suc, ◌+◌, ◌<◌}
use native.Mathlib.Numerals.{add-one}
use native.Mathlib.Omega.{arith}
use lib.ListN.{length, get_or, set, drop, length-append, length-map, get_or-map, get_or-append, drop_of_length-le}
use lib.Seq.{get_or-set_other, set-append_left, get_or_at, drop-cons}
use lib.IntN.{ℤ, pos, ◌+ℤ◌}
use Rattle.rows.specs.Row.{at, dot, values, unit_row, gathered}
use Rattle.rows.specs.Table.{Wide}
use Rattle.rows.proofs.Algebra.{length-unit, units-wide, dot-unit, dot-gathered, length-gathered, into, back, substitution}
use Rattle.rows.proofs.TableLaws.{wide-set}
use Rattle.rules.specs.Elimination.{Step, put_in, way_back_row, counted, identity}
use Rattle.rules.proofs.Lengths.{length-counted, length-put_in}
use Rattle.promises.specs.Meaning.{point}
use Rattle.promises.proofs.Checked.{point-end}

-- the table with a row for the last number
extended : ℕ → List (List ℤ) → List (List ℤ)
extended n rows = rows ++ unit_row (suc n) n ∷ []

-- what the table takes p to
pub image : ℕ → List (List ℤ) → List ℤ → List ℤ
unfolding extended
image n rows p = values (extended n rows) p

-- ---- the values of rows

pub length-values : (rows : List (List ℤ)) (p : List ℤ) → length (values rows p) ≡ length rows
unfolding values
length-values rows p = length-map rows (λ row. dot row p)

pub at-values : (rows : List (List ℤ)) (p : List ℤ) (i : ℕ) → at (values rows p) i ≡ dot (get_or rows i []) p
unfolding values dot
at-values rows p i = get_or-map (λ row. dot row p) rows i []

values-set : (rows : List (List ℤ)) (p : List ℤ) (k : ℕ) (row : List ℤ) → values (set rows k row) p ≡ set (values rows p) k (dot row p)
unfolding values
values-set [] p k row = refl
values-set (r ∷ rows) p zero row = refl
values-set (r ∷ rows) p (suc k) row = ap (λ l. dot r p ∷ l) (values-set rows p k row)

values-append : (rows more : List (List ℤ)) (p : List ℤ) → values (rows ++ more) p ≡ values rows p ++ values more p
unfolding values
values-append [] more p = refl
values-append (r ∷ rows) more p = ap (λ l. dot r p ∷ l) (values-append rows more p)

-- ---- what a point is taken to

module _ (n : ℕ) (rows : List (List ℤ)) (l : length rows ≡ n) (p : List ℤ) where
  -- the values, and then the last number
  image-is : image n rows p ≡ values rows p ++ at p n ∷ []
  unfolding image extended values
  image-is = values-append rows (unit_row (suc n) n ∷ []) p ∙ ap (λ z. values rows p ++ z ∷ []) (dot-unit (suc n) n p (omega arith))

  pub length-image : length (image n rows p) ≡ suc n
  length-image = ap length image-is ∙ length-append (values rows p) (at p n ∷ []) ∙ add-one _ ∙ ap suc (length-values rows p ∙ l)

  pub image-end : at (image n rows p) n ≡ at p n
  image-end = ap (λ q. at q n) image-is ∙ get_or_at (values rows p) (at p n) [] (pos 0) n (length-values rows p ∙ l)

-- a point of parameters is taken to a point of values
pub image-point : (n : ℕ) (rows : List (List ℤ)) → length rows ≡ n → (y : List ℤ) → length y ≡ n
    → image n rows (point y) ≡ point (values rows (point y))
image-point n rows l y h = image-is n rows l (point y) ∙ ap (λ z. values rows (point y) ++ z ∷ []) (point-end n y h)

-- ---- the start: every point is taken to itself

unit-values : (k i last : ℕ) (p : List ℤ) → i + k ≡ last → length p ≡ suc last
    → values (map (unit_row (suc last)) (counted i k) ++ unit_row (suc last) last ∷ []) p ≡ drop i p
unfolding values counted
unit-values zero i last p e h =
    ap (λ z. z ∷ []) (dot-unit (suc last) last p (omega arith) ∙ ap (λ j. at p j) same)
    ∙ ap (λ z. at p i ∷ z) (sym (drop_of_length-le p {i = suc i} (omega arith)))
    ∙ sym (drop-cons p i (pos 0) (omega arith))
  where
    same : last ≡ i
    same = omega arith
unit-values (suc k) i last p e h =
    ap₂ (λ z zs. z ∷ zs) (dot-unit (suc last) i p (omega arith)) (unit-values k (suc i) last p (omega arith) h)
    ∙ sym (drop-cons p i (pos 0) (omega arith))

pub image-identity : (n : ℕ) (p : List ℤ) → length p ≡ suc n → image n (identity n) p ≡ p
unfolding image extended identity
image-identity n p h = unit-values n 0 n p (omega arith) h

pub length-identity : (n : ℕ) → length (identity n) ≡ n
unfolding identity
length-identity n = length-map (counted 0 n) (unit_row (suc n)) ∙ length-counted 0 n

pub wide-identity : (n : ℕ) → Wide (suc n) (identity n)
unfolding identity
wide-identity n = units-wide (suc n) (counted 0 n)

-- ---- (c): the substitution's rows, and the way back's row k

wide-append : (width : ℕ) (rows : List (List ℤ)) (row : List ℤ) → Wide width rows → length row ≡ width → Wide width (rows ++ row ∷ [])
wide-append width [] row w l = (l, tt)
wide-append width (r ∷ rows) row w l = (w.0, wide-append width rows row w.1 l)

wide_at : (width : ℕ) (rows : List (List ℤ)) (k : ℕ) → Wide width rows → k < length rows → length (get_or rows k []) ≡ width
wide_at width [] k w h = let z : ⊥ = omega arith in absurd z
wide_at width (r ∷ rows) zero w h = w.0
wide_at width (r ∷ rows) (suc k) w h = wide_at width rows k w.1 (omega arith)

module _ (n : ℕ) (t : Step) (k-fits : t.column < n) (q-long : length t.quotients ≡ suc n) where
  -- what the substitution takes p to is what it took p's old parameters to
  pub image-put : (rows : List (List ℤ)) (p : List ℤ) → Wide (suc n) rows → length p ≡ suc n
      → image n (map (put_in t) rows) p ≡ image n rows (into t.quotients t.column p)
  unfolding image extended values put_in
  image-put [] p w h =
      ap (λ z. z ∷ [])
      (dot-unit (suc n) n p (omega arith)
      ∙ sym (dot-unit (suc n) n (into t.quotients t.column p) (omega arith) ∙ get_or-set_other p t.column n _ (pos 0) (omega arith)))
  image-put (row ∷ rows) p w h =
      ap₂ (λ z zs. z ∷ zs) (substitution t.quotients row p t.column (omega arith) (omega (arith, w.0))) (image-put rows p w.1 h)

  module _ (rows : List (List ℤ)) (l : length rows ≡ n) (w : Wide (suc n) rows) where
    old_row : length (get_or rows t.column []) ≡ suc n
    old_row = wide_at (suc n) rows t.column w (omega arith)

    length-way_back_row : length (way_back_row n t rows) ≡ suc n
    unfolding way_back_row
    length-way_back_row = length-gathered (get_or rows t.column []) t.quotients (rows ++ unit_row (suc n) n ∷ []) ∙ old_row

    pub wide_back : Wide (suc n) (set rows t.column (way_back_row n t rows))
    wide_back = wide-set (suc n) rows t.column (way_back_row n t rows) w length-way_back_row

    -- the way back leads to the new parameters
    pub image-back : (p : List ℤ)
        → image n (set rows t.column (way_back_row n t rows)) p ≡ back t.quotients t.column (image n rows p)
    unfolding image extended way_back_row
    image-back p =
        let k = t.column in
        let all = rows ++ unit_row (suc n) n ∷ [] in
        let wide : Wide (suc n) all = wide-append (suc n) rows (unit_row (suc n) n) w (length-unit (suc n) n) in
        let new = gathered (get_or rows k []) t.quotients all in
        ap (λ r. values r p) (sym (set-append_left rows (unit_row (suc n) n ∷ []) k new (omega arith)))
        ∙ values-set all p k new
        ∙ ap (λ z. set (values all p) k z)
        (dot-gathered (get_or rows k []) t.quotients all p (subst (λ width. Wide width all) (sym old_row) wide)
        ∙ ap (λ z. z +ℤ dot t.quotients (values all p))
        (ap (λ r. dot r p) (sym (get_or-append rows (unit_row (suc n) n ∷ []) [] k (omega arith))) ∙ sym (at-values all p k)))

pub wide-put : (n : ℕ) (t : Step) (rows : List (List ℤ)) → Wide (suc n) rows → Wide (suc n) (map (put_in t) rows)
wide-put n t [] w = tt
wide-put n t (row ∷ rows) w = (length-put_in t row ∙ w.0, wide-put n t rows w.1)
