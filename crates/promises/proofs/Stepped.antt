-- Step (c) keeps what holds: what the new substitution takes p to, the old one took `into q k p` to, and there all holds already.
use mathlib.Core.Path.{◌≡◌, refl, sym, ap, ap₂, ◌∙◌, subst}
use mathlib.Core.List.{List, [], ◌∷◌, map}
use Prim.Native.Nat.{ℕ, suc, ◌<◌}
use native.Mathlib.Omega.{arith}
use lib.ListN.{length, get_or, set, take, length-set, length-map}
use lib.Seq.{get_or-set_other}
use lib.IntN.{ℤ, pos, ◌-ℤ◌, ◌*ℤ◌}
use Rattle.whole.proofs.Reify.{reify, ring}
use Rattle.rows.specs.Row.{at, dot, values, less}
use Rattle.rows.specs.Table.{Wide}
use Rattle.rows.proofs.Algebra.{at_less, into, back, substitution, into_back, back-into}
use Rattle.rules.specs.Elimination.{Step, Carried, put_in, put_into, way_back_row}
use Rattle.rules.proofs.Lengths.{length-put_in}
use Rattle.promises.proofs.Image.{image, length-image, image-put, image-back, wide-put, wide_back}
use Rattle.promises.proofs.Invariant.{Shut, Still, Sound, Carries, Settled, Standing, through}

-- what is asked of a step: an open column, no quotient there, and no quotient in a closed column
pub record Apt (n : ℕ) (marks : List ℕ) (t : Step) : Type 0 where
  pub column : t.column < n
  pub not_shut : Shut marks t.column → ⊥
  pub long : length t.quotients ≡ suc n
  pub here : at t.quotients t.column ≡ pos 0
  pub none : (c : ℕ) → c < n → Shut marks c → at t.quotients c ≡ pos 0

module _ {n : ℕ} {marks : List ℕ} {t : Step} (apt : Apt n marks t) (p : List ℤ) where
  -- a closed parameter stays
  into-shut : (c : ℕ) → Shut marks c → at (into t.quotients t.column p) c ≡ at p c
  into-shut c s = get_or-set_other p t.column c _ (pos 0) (λ e. apt.not_shut (subst (Shut marks) e s))

  still-into : Still n marks p → Still n marks (into t.quotients t.column p)
  still-into f c h s = into-shut c s ∙ f c h s

module _ (n m : ℕ) (equations X : List (List ℤ)) (marks : List ℕ) (t : Step) (apt : Apt n marks t) (wide : Wide (suc n) X) where
  -- the old parameters of p, and where they lead
  into-long : (p : List ℤ) → length p ≡ suc n → length (into t.quotients t.column p) ≡ suc n
  into-long p h = length-set p t.column _ ∙ h

  moved : (p : List ℤ) → length p ≡ suc n → image n (map (put_in t) X) p ≡ image n X (into t.quotients t.column p)
  moved p h = image-put n t apt.column apt.long X p wide h

  settled-put : (equation : List ℤ) → Settled n X marks equation → Settled n (map (put_in t) X) marks equation
  settled-put equation f p h s = ap (dot equation) (moved p h) ∙ f (into t.quotients t.column p) (into-long p h) (still-into apt p s)

  carries-put : (equation : List ℤ) (e : Carried) → Carries n m equations X marks equation e
      → Carries n m equations (map (put_in t) X) marks equation (put_into t e)
  unfolding put_into put_in
  carries-put equation e c = record {
    wide = length-put_in t e.row ∙ c.wide;
    long = c.long;
    least = c.least;
    value = λ p h. ap (λ z. pos e.divisor *ℤ z) (same p h) ∙ c.value (into t.quotients t.column p) (into-long p h)
        ∙ ap (λ x. dot e.multipliers (values equations x)) (sym (moved p h));
    none = λ i h s.
        at_less e.row (at e.row t.column) t.quotients i (omega (arith, c.wide))
        ∙ ap₂ (λ a b. a -ℤ at e.row t.column *ℤ b) (c.none i h s) (apt.none i h s)
        ∙ ring (at e.row t.column ∷ []) (search reify) (search reify) refl;
    factor = c.factor;
    stands = λ p h s. ap (dot equation) (moved p h) ∙ c.stands (into t.quotients t.column p) (into-long p h) (still-into apt p s)
        ∙ ap (λ z. c.factor *ℤ z) (sym (same p h));
  }
    where
      same : (p : List ℤ) → length p ≡ suc n
          → dot (less e.row (at e.row t.column) t.quotients) p ≡ dot e.row (into t.quotients t.column p)
      same p h = substitution t.quotients e.row p t.column (omega (arith, apt.column)) (omega (arith, apt.long, c.wide))

  pub standing-put : {rest : List (List ℤ)} {es : List Carried} → Standing n m equations X marks rest es
      → Standing n m equations (map (put_in t) X) marks rest (map (put_into t) es)
  standing-put s = through (put_into t) settled-put carries-put s

  pub sound-put : {Y reasons : List (List ℤ)} → Sound n m equations X Y marks reasons
      → Sound n m equations (map (put_in t) X) (set Y t.column (way_back_row n t Y)) marks reasons
  sound-put {Y} {reasons} s = record {
    long_x = length-map X (put_in t) ∙ s.long_x;
    wide_x = wide-put n t X s.wide_x;
    long_y = length-set Y t.column _ ∙ s.long_y;
    wide_y = wide_back n t apt.column apt.long Y s.long_y s.wide_y;
    long_marks = s.long_marks;
    long_reasons = s.long_reasons;
    mark = s.mark;
    there = λ p h.
        let y = image n Y p in
        let l : length y ≡ suc n = length-image n Y s.long_y p in
        ap (image n (map (put_in t) X)) (backs p)
        ∙ moved (back q k y) (length-set y k _ ∙ l)
        ∙ ap (image n X) (into_back q y k apt.here (omega (arith, apt.column)))
        ∙ s.there p h;
    again = λ p h.
        backs (image n (map (put_in t) X) p)
        ∙ ap (back q k) (ap (image n Y) (moved p h) ∙ s.again (into q k p) (into-long p h))
        ∙ back-into q p k apt.here (omega (arith, apt.column));
    divisor = s.divisor;
    reason = λ c h z p l.
        ap (λ u. at (get_or reasons c []) m *ℤ u) (sym (into-shut apt p c z))
        ∙ s.reason c h z (into q k p) (into-long p l)
        ∙ ap (λ x. dot (take m (get_or reasons c [])) (values equations x)) (sym (moved p l));
    zero_open = s.zero_open;
  }
    where
      k : ℕ
      k = t.column

      q : List ℤ
      q = t.quotients

      backs : (p : List ℤ) → image n (set Y k (way_back_row n t Y)) p ≡ back q k (image n Y p)
      backs p = image-back n t apt.column apt.long Y s.long_y s.wide_y p
