-- The value of a row: linear in the row and in the point. Missing entries count as 0, so most laws ask nothing of the lengths.
use mathlib.Core.Path.{◌≡◌, refl, sym, ap, ap₂, ◌∙◌}
use mathlib.Core.List.{List, [], ◌∷◌, ◌++◌, map}
use Prim.Native.Nat.{ℕ, zero, suc, ◌≤◌, ◌<◌}
use native.Mathlib.Nat.{not-suc-le-zero, le_of_suc-le-suc, suc_inj}
use native.Mathlib.Omega.{arith}
use lib.ListN.{length, set, length-set, length-map, length-replicate, get_or-replicate}
use lib.Seq.{set-set, set-get_or, get_or-set_same}
use lib.IntN.{ℤ, pos, neg_ℤ, ◌+ℤ◌, ◌-ℤ◌, ◌*ℤ◌, +ℤ_idl, +ℤ_idr}
use Rattle.whole.proofs.Reify.{reify, ring}
use Rattle.rows.specs.Row.{at, dot, values, zeros, unit_row, scaled, less, gathered}
use Rattle.rows.specs.Table.{Wide}

-- ---- a row less a multiple of another

pub length-less : (row : List ℤ) (q : ℤ) (other : List ℤ) → length (less row q other) ≡ length row
unfolding less
length-less [] q other = refl
length-less (a ∷ row) q [] = refl
length-less (a ∷ row) q (b ∷ other) = ap suc (length-less row q other)

pub dot-less : (row : List ℤ) (q : ℤ) (other x : List ℤ) → length other ≤ length row → dot (less row q other) x ≡ dot row x -ℤ q *ℤ dot other x
unfolding dot less
dot-less [] q [] x h = ring (q ∷ []) (search reify) (search reify) refl
dot-less [] q (b ∷ other) x h = absurd (not-suc-le-zero h)
dot-less (a ∷ row) q [] x h = ring (q ∷ dot (a ∷ row) x ∷ []) (search reify) (search reify) refl
dot-less (a ∷ row) q (b ∷ other) [] h = ring (q ∷ []) (search reify) (search reify) refl
dot-less (a ∷ row) q (b ∷ other) (c ∷ x) h =
    ap (λ z. (a -ℤ q *ℤ b) *ℤ c +ℤ z) (dot-less row q other x (le_of_suc-le-suc h))
    ∙ ring (a ∷ b ∷ c ∷ q ∷ dot row x ∷ dot other x ∷ []) (search reify depth 8) (search reify depth 8) refl

pub at_less : (row : List ℤ) (q : ℤ) (other : List ℤ) (i : ℕ) → i < length row → at (less row q other) i ≡ at row i -ℤ q *ℤ at other i
unfolding less
at_less [] q other i h = absurd (not-suc-le-zero h)
at_less (a ∷ row) q [] i h = ring (q ∷ at (a ∷ row) i ∷ []) (search reify) (search reify) refl
at_less (a ∷ row) q (b ∷ other) zero h = refl
at_less (a ∷ row) q (b ∷ other) (suc i) h = at_less row q other i (le_of_suc-le-suc h)

-- ---- one number changed, of the point or of the row

pub dot-set : (row x : List ℤ) (k : ℕ) (v : ℤ) → k < length x → dot row (set x k v) ≡ dot row x +ℤ at row k *ℤ (v -ℤ at x k)
unfolding dot
dot-set row [] k v h = absurd (not-suc-le-zero h)
dot-set [] (b ∷ x) k v h = ring (v ∷ at (b ∷ x) k ∷ []) (search reify) (search reify) refl
dot-set (a ∷ row) (b ∷ x) zero v h = ring (a ∷ b ∷ v ∷ dot row x ∷ []) (search reify) (search reify) refl
dot-set (a ∷ row) (b ∷ x) (suc k) v h =
    ap (λ z. a *ℤ b +ℤ z) (dot-set row x k v (le_of_suc-le-suc h))
    ∙ ring ((a *ℤ b) ∷ dot row x ∷ at row k ∷ v ∷ at x k ∷ []) (search reify) (search reify) refl

pub dot-set-row : (row x : List ℤ) (k : ℕ) (v : ℤ) → k < length row → dot (set row k v) x ≡ dot row x +ℤ (v -ℤ at row k) *ℤ at x k
unfolding dot
dot-set-row [] x k v h = absurd (not-suc-le-zero h)
dot-set-row (a ∷ row) [] zero v h = ring (v ∷ a ∷ []) (search reify) (search reify) refl
dot-set-row (a ∷ row) [] (suc k) v h = ring (v ∷ at row k ∷ []) (search reify) (search reify) refl
dot-set-row (a ∷ row) (b ∷ x) zero v h = ring (a ∷ b ∷ v ∷ dot row x ∷ []) (search reify) (search reify) refl
dot-set-row (a ∷ row) (b ∷ x) (suc k) v h =
    ap (λ z. a *ℤ b +ℤ z) (dot-set-row row x k v (le_of_suc-le-suc h))
    ∙ ring ((a *ℤ b) ∷ dot row x ∷ at row k ∷ v ∷ at x k ∷ []) (search reify) (search reify) refl

-- ---- rows of zeros, of a single 1, and multiples

pub dot-zeros : (width : ℕ) (x : List ℤ) → dot (zeros width) x ≡ pos 0
unfolding dot zeros
dot-zeros zero x = refl
dot-zeros (suc width) [] = refl
dot-zeros (suc width) (b ∷ x) = ap (λ z. pos 0 *ℤ b +ℤ z) (dot-zeros width x) ∙ ring (b ∷ []) (search reify) (search reify) refl

pub length-unit : (width i : ℕ) → length (unit_row width i) ≡ width
unfolding unit_row zeros
length-unit width i = length-set (zeros width) i (pos 1) ∙ length-replicate width (pos 0)

pub units-wide : (width : ℕ) (l : List ℕ) → Wide width (map (unit_row width) l)
units-wide width [] = tt
units-wide width (i ∷ l) = (length-unit width i, units-wide width l)

pub dot-unit : (width i : ℕ) (x : List ℤ) → i < width → dot (unit_row width i) x ≡ at x i
unfolding unit_row zeros
dot-unit width i x h =
    dot-set-row (zeros width) x i (pos 1) long
    ∙ ap₂ (λ u v. u +ℤ (pos 1 -ℤ v) *ℤ at x i) (dot-zeros width x) zero-at
    ∙ ring (at x i ∷ []) (search reify) (search reify) refl
  where
    long : i < length (zeros width)
    long = rw (length-replicate width (pos 0)) h

    zero-at : at (zeros width) i ≡ pos 0
    zero-at = get_or-replicate width i (pos 0) (pos 0) h

pub length-scaled : (c : ℤ) (row : List ℤ) → length (scaled c row) ≡ length row
unfolding scaled
length-scaled c row = length-map row (λ z. c *ℤ z)

pub dot-scaled : (c : ℤ) (row x : List ℤ) → dot (scaled c row) x ≡ c *ℤ dot row x
unfolding dot scaled
dot-scaled c [] x = ring (c ∷ []) (search reify) (search reify) refl
dot-scaled c (a ∷ row) [] = ring (c ∷ []) (search reify) (search reify) refl
dot-scaled c (a ∷ row) (b ∷ x) =
    ap (λ z. c *ℤ a *ℤ b +ℤ z) (dot-scaled c row x)
    ∙ ring (c ∷ a ∷ b ∷ dot row x ∷ []) (search reify) (search reify) refl

-- ---- rows gathered to one

pub length-gathered : (row cs : List ℤ) (rows : List (List ℤ)) → length (gathered row cs rows) ≡ length row
unfolding gathered
length-gathered row [] rows = refl
length-gathered row (c ∷ cs) [] = refl
length-gathered row (c ∷ cs) (r ∷ rows) = length-gathered (less row (neg_ℤ c) r) cs rows ∙ length-less row (neg_ℤ c) r

pub dot-gathered : (row cs : List ℤ) (rows : List (List ℤ)) (x : List ℤ) → Wide (length row) rows → dot (gathered row cs rows) x ≡ dot row x +ℤ dot cs (values rows x)
unfolding dot gathered values
dot-gathered row [] rows x w = sym (+ℤ_idr (dot row x))
dot-gathered row (c ∷ cs) [] x w = sym (+ℤ_idr (dot row x))
dot-gathered row (c ∷ cs) (r ∷ rows) x w =
    dot-gathered (less row (neg_ℤ c) r) cs rows x (rw (length-less row (neg_ℤ c) r) w.1)
    ∙ ap (λ z. z +ℤ dot cs (values rows x)) (dot-less row (neg_ℤ c) r x (omega (arith, w.0)))
    ∙ ring (dot row x ∷ c ∷ dot r x ∷ dot cs (values rows x) ∷ []) (search reify) (search reify) refl

-- ---- the substitution of (c) and its way back: with no entry of q at k, the two undo each other

abbrev pub into : List ℤ → ℕ → List ℤ → List ℤ
into q k y = set y k (at y k -ℤ dot q y)

abbrev pub back : List ℤ → ℕ → List ℤ → List ℤ
back q k x = set x k (at x k +ℤ dot q x)

-- the row after the substitution, at y, is the row before it, at what y stands for
pub substitution : (q row y : List ℤ) (k : ℕ) → k < length y → length q ≤ length row → dot (less row (at row k) q) y ≡ dot row (into q k y)
substitution q row y k h l =
    dot-less row (at row k) q y l
    ∙ ring (dot row y ∷ at row k ∷ dot q y ∷ at y k ∷ []) (search reify) (search reify) refl
    ∙ sym (dot-set row y k (at y k -ℤ dot q y) h)

-- a row with no entry at k does not see variable k
dot-unseen : (q x : List ℤ) (k : ℕ) (v : ℤ) → at q k ≡ pos 0 → k < length x → dot q (set x k v) ≡ dot q x
dot-unseen q x k v e h =
    dot-set q x k v h ∙ ap (λ z. dot q x +ℤ z *ℤ (v -ℤ at x k)) e ∙ ring (dot q x ∷ v ∷ at x k ∷ []) (search reify) (search reify) refl

-- both ways at once: variable k moved by c, and then back by the same
there_and_back : (q x : List ℤ) (k : ℕ) (c d : ℤ) → at q k ≡ pos 0 → k < length x → at x k +ℤ c *ℤ dot q x +ℤ d *ℤ dot q x ≡ at x k → let y = set x k (at x k +ℤ c *ℤ dot q x) in set y k (at y k +ℤ d *ℤ dot q y) ≡ x
there_and_back q x k c d e h z =
    let v = at x k +ℤ c *ℤ dot q x in
    set-set x k v (at (set x k v) k +ℤ d *ℤ dot q (set x k v))
    ∙ ap (λ u. set x k u) (ap₂ (λ a b. a +ℤ d *ℤ b) (get_or-set_same x k v (pos 0) h) (dot-unseen q x k v e h) ∙ z)
    ∙ set-get_or x k (pos 0)

minus_one : (a b : ℤ) → a -ℤ b ≡ a +ℤ neg_ℤ (pos 1) *ℤ b
minus_one a b = ring (a ∷ b ∷ []) (search reify) (search reify) refl

plus_one : (a b : ℤ) → a +ℤ b ≡ a +ℤ pos 1 *ℤ b
plus_one a b = ring (a ∷ b ∷ []) (search reify) (search reify) refl

pub into_back : (q x : List ℤ) (k : ℕ) → at q k ≡ pos 0 → k < length x → into q k (back q k x) ≡ x
into_back q x k e h =
    let y = back q k x in
    ap (λ v. set y k v) (minus_one (at y k) (dot q y))
    ∙ ap (λ v. set (set x k v) k (at (set x k v) k +ℤ neg_ℤ (pos 1) *ℤ dot q (set x k v))) (plus_one (at x k) (dot q x))
    ∙ there_and_back q x k (pos 1) (neg_ℤ (pos 1)) e h (ring (at x k ∷ dot q x ∷ []) (search reify) (search reify) refl)

pub back-into : (q y : List ℤ) (k : ℕ) → at q k ≡ pos 0 → k < length y → back q k (into q k y) ≡ y
back-into q y k e h =
    let x = into q k y in
    ap (λ v. set x k v) (plus_one (at x k) (dot q x))
    ∙ ap (λ v. set (set y k v) k (at (set y k v) k +ℤ pos 1 *ℤ dot q (set y k v))) (minus_one (at y k) (dot q y))
    ∙ there_and_back q y k (neg_ℤ (pos 1)) (pos 1) e h (ring (at y k ∷ dot q y ∷ []) (search reify) (search reify) refl)

-- ---- a point is y_1..y_n and then 1: the coefficients' value and the constant

pub dot-append : (row more x y : List ℤ) → length row ≡ length x → dot (row ++ more) (x ++ y) ≡ dot row x +ℤ dot more y
unfolding dot
dot-append [] more [] y h = sym (+ℤ_idl (dot more y))
dot-append [] more (b ∷ x) y h = let z : ⊥ = omega arith in absurd z
dot-append (a ∷ row) more [] y h = let z : ⊥ = omega arith in absurd z
dot-append (a ∷ row) more (b ∷ x) y h =
    ap (λ z. a *ℤ b +ℤ z) (dot-append row more x y (suc_inj h))
    ∙ ring ((a *ℤ b) ∷ dot row x ∷ dot more y ∷ []) (search reify) (search reify) refl
