-- Step (a) and lowest terms keep what holds of a carried row: both sides are divided by a number that is not 0.
use mathlib.Core.Path.{◌≡◌, refl, sym, ap, ◌∙◌}
use mathlib.Core.Bool.{Bool, true, false}
use mathlib.Core.List.{List, [], ◌∷◌}
use Prim.Native.Nat.{ℕ, ◌/◌, ◌<◌}
use native.Mathlib.Nat.{mul-pos, div-mul_cancel, dvd_trans}
use native.Mathlib.Omega.{arith}
use borrow.Author.Tests.{leb-false}
use lib.Dec.{leb}
use lib.IntN.{ℤ, pos, ◌*ℤ◌}
use Rattle.whole.specs.Gcd.{gcd}
use Rattle.whole.specs.Quotient.{exactly}
use Rattle.whole.proofs.Integers.{*ℤ-cancel-r}
use Rattle.whole.proofs.GcdLaws.{gcd-l, gcd-r, gcd-nonzero-r}
use Rattle.whole.proofs.QuotientLaws.{exactly-zero}
use Rattle.whole.proofs.Reify.{reify, ring}
use Rattle.rows.specs.Row.{dot, values, gcd_of, divided}
use Rattle.rows.proofs.Divisors.{gcd_of-divides, gcd_of-divided, at-divided, length-divided, dot-divided}
use Rattle.rules.specs.Elimination.{Carried, shared, lowest_terms, by_gcd, reduced}
use Rattle.rules.proofs.Within.{quotient-least}
use Rattle.promises.proofs.Image.{image}
use Rattle.promises.proofs.Invariant.{Carries}

pub pos-nonzero : {n : ℕ} → 0 < n → pos n ≡ pos 0 → ⊥
pos-nonzero {n} h e = let z : n ≡ 0 = cc in omega arith

-- D·R ≡ S, with D = d·g and S = s·g, is d·R ≡ s
cancelled : (D R S d s g : ℤ) → (g ≡ pos 0 → ⊥) → D *ℤ R ≡ S → d *ℤ g ≡ D → s *ℤ g ≡ S → d *ℤ R ≡ s
cancelled D R S d s g n e x y =
    *ℤ-cancel-r g n
    (ring (d ∷ R ∷ g ∷ []) {b = d *ℤ g *ℤ R} (search reify) (search reify) refl ∙ ap (λ z. z *ℤ R) x ∙ e ∙ sym y)

-- a factor g taken out of R and put to d
regrouped : (d g r R : ℤ) → r *ℤ g ≡ R → (d *ℤ g) *ℤ r ≡ d *ℤ R
regrouped d g r R e = ring (d ∷ g ∷ r ∷ []) {b = d *ℤ (r *ℤ g)} (search reify) (search reify) refl ∙ ap (λ z. d *ℤ z) e

module _ (n m : ℕ) (equations X : List (List ℤ)) (marks : List ℕ) (equation : List ℤ) where
  -- the multipliers and d, by what they have in common
  pub carries-lowest : (e : Carried) → Carries n m equations X marks equation e → Carries n m equations X marks equation (lowest_terms e)
  unfolding lowest_terms shared
  carries-lowest e c = record {
    wide = c.wide;
    long = length-divided (pos g) e.multipliers ∙ c.long;
    least = quotient-least e.divisor g (gcd-r (gcd_of e.multipliers) e.divisor) c.least;
    value = λ p h.
        let v = values equations (image n X p) in
        cancelled (pos e.divisor) (dot e.row p) (dot e.multipliers v) (pos (e.divisor / g)) (dot (divided (pos g) e.multipliers) v) (pos g)
        (pos-nonzero (gcd-nonzero-r (gcd_of e.multipliers) e.divisor c.least))
        (c.value p h)
        (ap pos (div-mul_cancel g (gcd-r (gcd_of e.multipliers) e.divisor)))
        (dot-divided g e.multipliers v
        (λ i. record { dvd = dvd_trans g (gcd-l (gcd_of e.multipliers) e.divisor) (gcd_of-divides e.multipliers i).dvd }));
    none = c.none;
    factor = c.factor;
    stands = c.stands;
  }
    where
      g : ℕ
      g = gcd (gcd_of e.multipliers) e.divisor

  -- the row, by its gcd: d grows by it, and so does the factor by which the equation is a multiple of the row
  carries-by : (e : Carried) → 0 < gcd_of e.row → Carries n m equations X marks equation e
      → Carries n m equations X marks equation (by_gcd (gcd_of e.row) e)
  unfolding by_gcd
  carries-by e z c = record {
    wide = length-divided (pos g) e.row ∙ c.wide;
    long = c.long;
    least = mul-pos c.least z;
    value = λ p h. regrouped (pos e.divisor) (pos g) (dot (divided (pos g) e.row) p) (dot e.row p) (whole p) ∙ c.value p h;
    none = λ i h s. at-divided (pos g) e.row i ∙ ap (λ x. exactly x (pos g)) (c.none i h s) ∙ exactly-zero (pos g);
    factor = c.factor *ℤ pos g;
    stands = λ p h s. c.stands p h s ∙ sym (regrouped c.factor (pos g) (dot (divided (pos g) e.row) p) (dot e.row p) (whole p));
  }
    where
      g : ℕ
      g = gcd_of e.row

      whole : (p : List ℤ) → dot (divided (pos g) e.row) p *ℤ pos g ≡ dot e.row p
      whole p = dot-divided g e.row p (gcd_of-divides e.row)

  pub carries-reduced : (e : Carried) → 0 < gcd_of e.row → Carries n m equations X marks equation e
      → Carries n m equations X marks equation (reduced (gcd_of e.row) e)
  unfolding reduced
  carries-reduced e z c = go (leb 2 (gcd_of e.row))
    where
      go : (b : Bool) → Carries n m equations X marks equation (elim b [ true ↦ lowest_terms (by_gcd (gcd_of e.row) e) | false ↦ e ])
      go true = carries-lowest (by_gcd (gcd_of e.row) e) (carries-by e z c)
      go false = c

-- after (a) the gcd of all numbers of the row is 1
pub gcd-reduced : (e : Carried) → 0 < gcd_of e.row → gcd_of (reduced (gcd_of e.row) e).row ≡ 1
unfolding reduced lowest_terms by_gcd
gcd-reduced e z = go (leb 2 (gcd_of e.row)) refl
  where
    go : (b : Bool) → leb 2 (gcd_of e.row) ≡ b
        → gcd_of (elim b as (λ x. Carried) [ true ↦ lowest_terms (by_gcd (gcd_of e.row) e) | false ↦ e ]).row ≡ 1
    go true h = gcd_of-divided e.row z
    go false h = omega (arith, leb-false 2 (gcd_of e.row) h)
