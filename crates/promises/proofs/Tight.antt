-- The row of an inequality: the substitution put in, closed columns set to zero, tightened. Where each closed column has 0 as its sum or
-- as its parameter, the tightened row holds exactly when the inequality does.
use mathlib.Core.Path.{◌≡◌, refl, sym, ap, ap₂, ◌∙◌, subst}
use mathlib.Core.Logic.{◌↔◌}
use mathlib.Core.Bool.{Bool, true, false, not, ◌&&◌, cond}
use mathlib.Core.List.{List, [], ◌∷◌, ◌++◌}
use Prim.Native.Nat.{ℕ, zero, suc, ◌*◌, ◌<◌}
use native.Mathlib.Nat.{suc-mul, zero-mul}
use native.Mathlib.Numerals.{add-one}
use native.Mathlib.Decide.{dec_lt}
use native.Mathlib.Omega.{arith}
use borrow.Author.Tests.{eqb-true, eq-eqb, leb-true}
use lib.Dec.{eqb, leb}
use lib.ListN.{length, set, take, length-append, length-set, length-replicate, get_or-replicate, get_or-append, get_or-eq_default}
use lib.Seq.{take_at, length-take-le, get_or-take}
use lib.IntN.{ℤ, pos, negsuc, ◌+ℤ◌, ◌-ℤ◌, ◌*ℤ◌}
use lib.Signed.{◌≤ℤ◌, ◌<ℤ◌}
use Rattle.whole.specs.Gcd.{divides}
use Rattle.whole.specs.Quotient.{ceiling, exactly}
use Rattle.whole.proofs.Order.{orders, pz-neg}
use Rattle.whole.proofs.Reify.{reify, ring}
use Rattle.whole.proofs.Linear.{le-by, lt_by, le_on, lt-on}
use Rattle.whole.proofs.QuotientLaws.{ceiling-is, exactly-zero}
use Rattle.rows.specs.Row.{at, dot, values, zeros, gcd_of, divided}
use Rattle.rows.specs.Table.{Wide}
use Rattle.rows.proofs.Algebra.{dot-append, dot-zeros, dot-set-row, dot-gathered, length-gathered}
use Rattle.rows.proofs.Bounded.{and_left}
use Rattle.rows.proofs.Divisors.{gcd_of-divides, at-divided, length-divided, dot-divided}
use Rattle.rules.specs.Elimination.{State}
use Rattle.rules.specs.Inequalities.{sums, only_open, tighten, tightened_row}
use Rattle.rules.proofs.Lengths.{length-only_open}
use Rattle.promises.specs.Meaning.{point, Meets, Closed, substituted}
use Rattle.promises.proofs.Checked.{length-point, point-end}
use Rattle.promises.proofs.Values.{dot-split}
use Rattle.promises.proofs.Image.{length-values}
use Rattle.promises.proofs.Invariant.{Shut}

-- ---- a row at a point: the value of its coefficients, and the constant

constant-row : (c : ℤ) → dot (c ∷ []) (pos 1 ∷ []) ≡ c
unfolding dot
constant-row c = ring (c ∷ []) (search reify) (search reify) refl

dot-ends : (coefficients y : List ℤ) (c : ℤ) → length coefficients ≡ length y → dot (coefficients ++ c ∷ []) (point y) ≡ dot coefficients y +ℤ c
dot-ends coefficients y c h = dot-append coefficients (c ∷ []) y (pos 1 ∷ []) h ∙ ap (λ z. dot coefficients y +ℤ z) (constant-row c)

pub dot-point : (n : ℕ) (row y : List ℤ) → length row ≡ suc n → length y ≡ n → dot row (point y) ≡ dot (take n row) y +ℤ at row n
dot-point n row y l h =
    dot-split n row (point y) l (length-point n y h)
    ∙ ap₂ (λ u v. dot (take n row) u +ℤ at row n *ℤ v) (take_at y (pos 1 ∷ []) n h) (point-end n y h)
    ∙ ring (dot (take n row) y ∷ at row n ∷ []) (search reify) (search reify) refl

-- ---- the sums: the inequality at what the parameters stand for

module _ (n : ℕ) (substitution : List (List ℤ)) (inequality : List ℤ) where
  -- what the sums start from: the constant alone
  base : List ℤ
  base = set (zeros (suc n)) n (at inequality n)

  length-base : length base ≡ suc n
  unfolding base zeros
  length-base = length-set (zeros (suc n)) n (at inequality n) ∙ length-replicate (suc n) (pos 0)

  pub length-sums : length (sums n substitution inequality) ≡ suc n
  unfolding sums base
  length-sums = length-gathered base (take n inequality) substitution ∙ length-base

  dot-sums : length inequality ≡ suc n → length substitution ≡ n → Wide (suc n) substitution → (y : List ℤ) → length y ≡ n
      → dot (sums n substitution inequality) (point y) ≡ dot inequality (point (values substitution (point y)))
  unfolding sums base
  dot-sums l k w y h =
      dot-gathered base (take n inequality) substitution (point y) (subst (λ width. Wide width substitution) (sym length-base) w)
      ∙ ap (λ z. z +ℤ dot (take n inequality) x)
      (dot-set-row (zeros (suc n)) (point y) n (at inequality n) (omega (arith, length-replicate (suc n) (pos 0)))
      ∙ ap₂ (λ u v. u +ℤ (at inequality n -ℤ v) *ℤ at (point y) n) (dot-zeros (suc n) (point y)) (get_or-replicate (suc n) n (pos 0) (pos 0) (omega arith))
      ∙ ap (λ z. pos 0 +ℤ (at inequality n -ℤ pos 0) *ℤ z) (point-end n y h))
      ∙ ring (at inequality n ∷ dot (take n inequality) x ∷ []) (search reify) (search reify) refl
      ∙ sym (dot-point n inequality x l (length-values substitution (point y) ∙ k))
    where
      x : List ℤ
      x = values substitution (point y)

-- ---- closed columns set to zero

-- which changes no value where each closed column has nothing to add
dot-open : (marks : List ℕ) (row p : List ℤ) → ((c : ℕ) → Shut marks c → at row c *ℤ at p c ≡ pos 0) → dot (only_open marks row) p ≡ dot row p
unfolding only_open dot
dot-open [] row p f = refl
dot-open (mark ∷ marks) [] p f = refl
dot-open (mark ∷ marks) (a ∷ row) [] f = refl
dot-open (mark ∷ marks) (a ∷ row) (b ∷ p) f = ap₂ (λ u v. u +ℤ v) (go (eqb mark 0) refl) (dot-open marks row p (λ c. f (suc c)))
  where
    go : (shut : Bool) → eqb mark 0 ≡ shut → cond shut (pos 0) a *ℤ b ≡ a *ℤ b
    go true e = ring (b ∷ []) {b = pos 0} (search reify) (search reify) refl ∙ sym (f 0 (eqb-true mark 0 e))
    go false e = refl

at_open : (marks : List ℕ) (row : List ℤ) (c : ℕ) → Shut marks c → at (only_open marks row) c ≡ pos 0
unfolding only_open
at_open [] row c s = let bad : ⊥ = omega arith in absurd bad
at_open (mark ∷ marks) [] c s = refl
at_open (mark ∷ marks) (a ∷ row) zero s = rw (eq-eqb mark 0 s)
at_open (mark ∷ marks) (a ∷ row) (suc c) s = at_open marks row c s

-- ---- tightened

-- t·g below g says that t ≤ 0, and t ≤ 0 says that t·g ≤ 0
below : (t : ℤ) (g : ℕ) → (t *ℤ pos g) <ℤ pos g → t ≤ℤ pos 0
below (pos zero) g h = omega (arith, orders)
below (pos (suc k)) g h = let z : ⊥ = omega (arith, orders, suc-mul k g) in absurd z
below (negsuc k) g h = omega (arith, orders)

not-above : (t : ℤ) (g : ℕ) → t ≤ℤ pos 0 → (t *ℤ pos g) ≤ℤ pos 0
not-above (pos zero) g h = omega (arith, orders, zero-mul g)
not-above (pos (suc k)) g h = let z : ⊥ = omega (arith, orders) in absurd z
not-above (negsuc k) g h = omega (arith, orders, pz-neg (pos (suc k * g)))

-- v·g + c ≤ 0 exactly when v + u ≤ 0, where u·g is the first multiple of g that is not below c
module _ (v c u : ℤ) (g : ℕ) (low : c ≤ℤ (u *ℤ pos g)) (high : (u *ℤ pos g) <ℤ (c +ℤ pos g)) where
  both : (v +ℤ u) *ℤ pos g ≡ v *ℤ pos g +ℤ u *ℤ pos g
  both = ring (v ∷ u ∷ pos g ∷ []) (search reify) (search reify) refl

  rounded : ((v *ℤ pos g +ℤ c) ≤ℤ pos 0) ↔ ((v +ℤ u) ≤ℤ pos 0)
  rounded = (
    λ h.
        let ρ = (v *ℤ pos g) ∷ (u *ℤ pos g) ∷ c ∷ pos g ∷ [] in
        let a = le_on ρ (search reify) (search reify) h in
        let b = lt-on ρ (search reify) (search reify) high in
        below (v +ℤ u) g (subst (λ z. z <ℤ pos g) (sym both) (lt_by ρ (search reify) (search reify) (omega arith))),
    λ h.
        let ρ = (v *ℤ pos g) ∷ (u *ℤ pos g) ∷ c ∷ [] in
        let a = le_on ρ (search reify) (search reify) (subst (λ z. z ≤ℤ pos 0) both (not-above (v +ℤ u) g h)) in
        let b = le_on ρ (search reify) (search reify) low in
        le-by ρ (search reify) (search reify) (omega arith),
  )

tighten-exactly : (n : ℕ) (row y : List ℤ) → length row ≡ suc n → length y ≡ n → Meets y row ↔ Meets y (tighten n row)
unfolding tighten
tighten-exactly n row y l h = go (leb 2 g && not (divides g (at row n))) refl
  where
    g : ℕ
    g = gcd_of (take n row)

    coefficients : List ℤ
    coefficients = divided (pos g) (take n row)

    -- the values before and after
    before : dot row (point y) ≡ dot coefficients y *ℤ pos g +ℤ at row n
    before = dot-point n row y l h ∙ ap (λ z. z +ℤ at row n) (sym (dot-divided g (take n row) y (gcd_of-divides (take n row))))

    after : dot (coefficients ++ ceiling (at row n) (pos g) ∷ []) (point y) ≡ dot coefficients y +ℤ ceiling (at row n) (pos g)
    after = dot-ends coefficients y (ceiling (at row n) (pos g)) (length-divided (pos g) (take n row) ∙ length-take-le n row (omega arith) ∙ sym h)

    go : (b : Bool) → leb 2 g && not (divides g (at row n)) ≡ b
        → Meets y row ↔ Meets y (elim b [ true ↦ coefficients ++ ceiling (at row n) (pos g) ∷ [] | false ↦ row ])
    go true e =
        let two = leb-true 2 g (and_left (leb 2 g) (not (divides g (at row n))) e) in
        let (low, high) = ceiling-is (at row n) (pos g) (omega (arith, orders)) in
        let same = rounded (dot coefficients y) (at row n) (ceiling (at row n) (pos g)) g low high in (
          λ meets. subst (λ z. z ≤ℤ pos 0) (sym after) (same.0 (subst (λ z. z ≤ℤ pos 0) before meets)),
          λ meets. subst (λ z. z ≤ℤ pos 0) (sym before) (same.1 (subst (λ z. z ≤ℤ pos 0) after meets)),
        )
    go false e = (λ meets. meets, λ meets. meets)

length-tighten : (n : ℕ) (row : List ℤ) → length row ≡ suc n → length (tighten n row) ≡ suc n
unfolding tighten
length-tighten n row l = go (leb 2 (gcd_of (take n row)) && not (divides (gcd_of (take n row)) (at row n)))
  where
    coefficients : List ℤ
    coefficients = divided (pos (gcd_of (take n row))) (take n row)

    go : (b : Bool) → length {A = ℤ} (elim b [ true ↦ coefficients ++ ceiling (at row n) (pos (gcd_of (take n row))) ∷ [] | false ↦ row ]) ≡ suc n
    go true =
        length-append coefficients (ceiling (at row n) (pos (gcd_of (take n row))) ∷ [])
        ∙ add-one (length coefficients)
        ∙ ap suc (length-divided (pos (gcd_of (take n row))) (take n row) ∙ length-take-le n row (omega arith))
    go false = l

-- a coefficient that is 0 stays 0
tighten-zero : (n : ℕ) (row : List ℤ) (c : ℕ) → length row ≡ suc n → c < n → at row c ≡ pos 0 → at (tighten n row) c ≡ pos 0
unfolding tighten
tighten-zero n row c l h e = go (leb 2 g && not (divides g (at row n)))
  where
    g : ℕ
    g = gcd_of (take n row)

    go : (b : Bool) → at (elim b [ true ↦ divided (pos g) (take n row) ++ ceiling (at row n) (pos g) ∷ [] | false ↦ row ]) c ≡ pos 0
    go true =
        get_or-append (divided (pos g) (take n row)) (ceiling (at row n) (pos g) ∷ []) (pos 0) c
        (omega (arith, length-divided (pos g) (take n row), length-take-le n row (omega arith)))
        ∙ at-divided (pos g) (take n row) c
        ∙ ap (λ z. exactly z (pos g)) (get_or-take n row c (pos 0) h ∙ e)
        ∙ exactly-zero (pos g)
    go false = e

-- ---- all three
module _ (n : ℕ) (s : State) (inequality : List ℤ) where
  row : List ℤ
  row = sums n s.substitution inequality

  length-row : length (only_open s.marks row) ≡ suc n
  unfolding row
  length-row = length-only_open s.marks row ∙ length-sums n s.substitution inequality

  pub length-tightened : length (tightened_row n s inequality) ≡ suc n
  unfolding tightened_row row
  length-tightened = length-tighten n (only_open s.marks row) length-row

  -- closed columns are zero
  pub closed-zero : (c : ℕ) → c < n → Closed s c → at (tightened_row n s inequality) c ≡ pos 0
  unfolding tightened_row row
  closed-zero c h z = tighten-zero n (only_open s.marks row) c length-row h (at_open s.marks row c z)

  pub row-exactly : length inequality ≡ suc n → length s.substitution ≡ n → Wide (suc n) s.substitution → length s.marks ≡ n
      → (y : List ℤ) → length y ≡ n → ((c : ℕ) → c < n → Closed s c → at (sums n s.substitution inequality) c *ℤ at y c ≡ pos 0)
      → Meets (substituted s y) inequality ↔ Meets y (tightened_row n s inequality)
  unfolding tightened_row row
  row-exactly l k w marks y h f =
      let same = tighten-exactly n (only_open s.marks row) y length-row h in (
        λ meets. same.0 (subst (λ z. z ≤ℤ pos 0) (sym value) meets),
        λ meets. subst (λ z. z ≤ℤ pos 0) value (same.1 meets),
      )
    where
      nothing : (c : ℕ) → Closed s c → at row c *ℤ at (point y) c ≡ pos 0
      nothing c z = go (dec_lt c n)
        where
          go : Dec (c < n) → at row c *ℤ at (point y) c ≡ pos 0
          go (yes p) = ap (λ v. at row c *ℤ v) (get_or-append y (pos 1 ∷ []) (pos 0) c (omega arith)) ∙ f c p z
          go (no p) =
              let e : ◌≡◌ {A = ℕ} 1 0 = sym (get_or-eq_default s.marks 1 {n = c} (omega arith)) ∙ z in
              let bad : ⊥ = omega arith in absurd bad

      value : dot (only_open s.marks row) (point y) ≡ dot inequality (point (substituted s y))
      value = dot-open s.marks row (point y) nothing ∙ dot-sums n s.substitution inequality l k w y h
