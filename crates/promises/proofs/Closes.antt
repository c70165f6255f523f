-- Step (d) keeps what holds: column k closes with its reason, and every row loses its number there.
use mathlib.Core.Path.{◌≡◌, refl, sym, ap, ap₂, ◌∙◌, subst}
use mathlib.Core.Logic.{◌≢◌, ◌⊎◌, inl, inr, ⊎_elim}
use mathlib.Core.Bool.{Bool, true, false}
use mathlib.Core.List.{List, [], ◌∷◌, ◌++◌, map}
use Prim.Native.Nat.{ℕ, zero, suc, ◌*◌, ◌/◌, ◌<◌}
use native.Mathlib.Nat.{mul-pos, mul_assoc, mul_comm, div-mul_cancel}
use native.Mathlib.Decide.{ℕ_discrete}
use native.Mathlib.Omega.{arith}
use borrow.Author.Tests.{eqb-true}
use lib.Dec.{eqb}
use lib.ListN.{length, get_or, set, take, length-set}
use lib.Seq.{get_or-set_same, get_or-set_other, get_or_at, take_at}
use lib.IntN.{ℤ, pos, nat_abs, ◌+ℤ◌, ◌-ℤ◌, ◌*ℤ◌}
use Rattle.whole.specs.Gcd.{gcd}
use Rattle.whole.proofs.Integers.{nat_abs-zero}
use Rattle.whole.proofs.GcdLaws.{gcd-l, gcd-r}
use Rattle.whole.proofs.Reify.{reify, ring}
use Rattle.rows.specs.Row.{at, dot, values, scaled}
use Rattle.rows.proofs.Algebra.{length-less, length-scaled, dot-less, dot-set-row, dot-scaled}
use Rattle.rules.specs.Elimination.{Carried, lowest_terms, factor, lost, corrected}
use Rattle.rules.proofs.Within.{quotient-least}
use Rattle.promises.proofs.Image.{image}
use Rattle.promises.proofs.Invariant.{Shut, Still, Sound, Carries, Settled, Standing, through}
use Rattle.promises.proofs.Reduced.{carries-lowest}

-- a·(b/e) = (a/e)·b for e = gcd a b
crosswise : (a b : ℕ) → a * (b / gcd a b) ≡ a / gcd a b * b
crosswise a b =
    let e = gcd a b in
    ap (λ x. x * (b / e)) (sym (div-mul_cancel e (gcd-l a b)))
    ∙ mul_assoc (a / e) e (b / e)
    ∙ ap (λ x. a / e * x) (mul_comm e (b / e) ∙ div-mul_cancel e (gcd-r a b))

-- the row's value R less b times the parameter P, by D·R ≡ M and d·P ≡ S
loses : (D share part d b R P M S : ℤ) → D *ℤ share ≡ part *ℤ d → D *ℤ R ≡ M → d *ℤ P ≡ S
    → (D *ℤ share) *ℤ (R +ℤ (pos 0 -ℤ b) *ℤ P) ≡ share *ℤ M -ℤ (b *ℤ part) *ℤ S
loses D share part d b R P M S x y z =
    ring (D ∷ share ∷ b ∷ R ∷ P ∷ []) {b = share *ℤ (D *ℤ R) -ℤ b *ℤ (D *ℤ share) *ℤ P} (search reify depth 8) (search reify depth 8) refl
    ∙ ap₂ (λ u v. share *ℤ u -ℤ b *ℤ v *ℤ P) y x
    ∙ ring (share ∷ M ∷ b ∷ part ∷ d ∷ P ∷ []) {b = share *ℤ M -ℤ (b *ℤ part) *ℤ (d *ℤ P)} (search reify depth 8) (search reify depth 8) refl
    ∙ ap (λ u. share *ℤ M -ℤ (b *ℤ part) *ℤ u) z

-- ---- which columns are closed then
module _ (marks : List ℕ) (k : ℕ) (k-fits : k < length marks) where
  shut-here : Shut (set marks k 0) k
  shut-here = get_or-set_same marks k 0 1 k-fits

  shut-more : (c : ℕ) → Shut marks c → Shut (set marks k 0) c
  shut-more c s = go (ℕ_discrete c k)
    where
      go : Dec (c ≡ k) → Shut (set marks k 0) c
      go (yes e) = subst (Shut (set marks k 0)) (sym e) shut-here
      go (no e) = get_or-set_other marks k c 0 1 e ∙ s

  shut-cases : (c : ℕ) → Shut (set marks k 0) c → (c ≡ k) ⊎ ((c ≢ k) × Shut marks c)
  shut-cases c s = go (ℕ_discrete c k)
    where
      go : Dec (c ≡ k) → (c ≡ k) ⊎ ((c ≢ k) × Shut marks c)
      go (yes e) = inl e
      go (no e) = inr (e, sym (get_or-set_other marks k c 0 1 e) ∙ s)

-- ---- the rows and the state, where the reason of k, not yet written, says how parameter k comes from the equations
module _ (n m : ℕ) (equations X : List (List ℤ)) (marks : List ℕ) (k d : ℕ) (reason : List ℤ) (k-fits : k < n) (long : length marks ≡ n)
    (least : 0 < d) (reason-long : length reason ≡ m)
    (says : (p : List ℤ) → length p ≡ suc n → pos d *ℤ at p k ≡ dot reason (values equations (image n X p))) where
  inside : k < length marks
  inside = omega arith

  still_before : (p : List ℤ) → Still n (set marks k 0) p → Still n marks p
  still_before p f c h s = f c h (shut-more marks k inside c s)

  module _ (equation : List ℤ) where
    settled-closed : Settled n X marks equation → Settled n X (set marks k 0) equation
    settled-closed f p h s = f p h (still_before p s)

    -- a row with 0 in column k is not touched
    carries_same : (h : Carried) → at h.row k ≡ pos 0 → Carries n m equations X marks equation h
        → Carries n m equations X (set marks k 0) equation h
    carries_same h z c = record {
      wide = c.wide;
      long = c.long;
      least = c.least;
      value = c.value;
      none = λ i l s. ⊎_elim (λ e. ap (at h.row) e ∙ z) (λ o. c.none i l o.1) (shut-cases marks k inside i s);
      factor = c.factor;
      stands = λ p l s. c.stands p l (still_before p s);
    }

    -- a later row h loses its number there: the reason of k, times f, is taken from its multipliers
    carries-lost : (h : Carried) → Carries n m equations X marks equation h
        → Carries n m equations X (set marks k 0) equation (lost k d reason h)
    unfolding lost factor
    carries-lost h c = record {
      wide = length-set h.row k (pos 0) ∙ c.wide;
      long = length-less (scaled (pos share) h.multipliers) f reason ∙ length-scaled (pos share) h.multipliers ∙ c.long;
      least = mul-pos c.least (quotient-least d (gcd h.divisor d) (gcd-r h.divisor d) least);
      value = λ p l.
          let v = values equations (image n X p) in
          ap (λ z. pos (h.divisor * share) *ℤ z) (dot-set-row h.row p k (pos 0) (omega (arith, c.wide)))
          ∙ loses (pos h.divisor) (pos share) (pos part) (pos d) (at h.row k) (dot h.row p) (at p k) (dot h.multipliers v) (dot reason v)
          (ap pos (crosswise h.divisor d)) (c.value p l) (says p l)
          ∙ ap (λ z. z -ℤ f *ℤ dot reason v) (sym (dot-scaled (pos share) h.multipliers v))
          ∙ sym (dot-less (scaled (pos share) h.multipliers) f reason v (omega (arith, length-scaled (pos share) h.multipliers, c.long)));
      none = λ i l s.
          ⊎_elim (λ e. ap (at (set h.row k (pos 0))) e ∙ get_or-set_same h.row k (pos 0) (pos 0) (omega (arith, c.wide)))
          (λ o. get_or-set_other h.row k i (pos 0) (pos 0) o.0 ∙ c.none i l o.1)
          (shut-cases marks k inside i s);
      factor = c.factor;
      stands = λ p l s.
          c.stands p l (still_before p s)
          ∙ ap (λ z. c.factor *ℤ z)
          (ring (dot h.row p ∷ at h.row k ∷ []) {b = dot h.row p +ℤ (pos 0 -ℤ at h.row k) *ℤ pos 0} (search reify) (search reify) refl
          ∙ ap (λ z. dot h.row p +ℤ (pos 0 -ℤ at h.row k) *ℤ z) (sym (s k k-fits (shut-here marks k inside)))
          ∙ sym (dot-set-row h.row p k (pos 0) (omega (arith, c.wide))));
    }
      where
        share : ℕ
        share = d / gcd h.divisor d

        part : ℕ
        part = h.divisor / gcd h.divisor d

        f : ℤ
        f = at h.row k *ℤ pos part

    carries-corrected : (h : Carried) → Carries n m equations X marks equation h
        → Carries n m equations X (set marks k 0) equation (corrected k d reason h)
    unfolding corrected
    carries-corrected h c = go (eqb (nat_abs (at h.row k)) 0) refl
      where
        go : (b : Bool) → eqb (nat_abs (at h.row k)) 0 ≡ b
            → Carries n m equations X (set marks k 0) equation (elim b [ true ↦ h | false ↦ lowest_terms (lost k d reason h) ])
        go true e = carries_same h (nat_abs-zero (at h.row k) (eqb-true (nat_abs (at h.row k)) 0 e)) c
        go false e = carries-lowest n m equations X (set marks k 0) equation (lost k d reason h) (carries-lost h c)

  pub standing-corrected : {rest : List (List ℤ)} {es : List Carried} → Standing n m equations X marks rest es
      → Standing n m equations X (set marks k 0) rest (map (corrected k d reason) es)
  standing-corrected s = through (corrected k d reason) settled-closed carries-corrected s

  -- the reason of k is that one; the other columns keep theirs
  pub sound-closed : {Y reasons : List (List ℤ)} → Sound n m equations X Y marks reasons
      → Sound n m equations X Y (set marks k 0) (set reasons k (reason ++ pos d ∷ []))
  sound-closed {Y} {reasons} s = record {
    long_x = s.long_x;
    wide_x = s.wide_x;
    long_y = s.long_y;
    wide_y = s.wide_y;
    long_marks = length-set marks k 0 ∙ s.long_marks;
    long_reasons = length-set reasons k _ ∙ s.long_reasons;
    mark = λ c h. marked c (s.mark c h);
    there = s.there;
    again = s.again;
    divisor = λ c h z.
        ⊎_elim (λ e. let (i, f) = above in (i, ap (λ r. at r m) (new-here c e) ∙ divisor-here ∙ ap pos f))
        (λ o. let (i, f) = s.divisor c h o.1 in (i, ap (λ r. at r m) (new-other c o.0) ∙ f))
        (shut-cases marks k inside c z);
    reason = λ c h z p l.
        ⊎_elim
        (λ e. ap₂ (λ a b. a *ℤ b) (ap (λ r. at r m) (new-here c e) ∙ divisor-here) (ap (at p) e) ∙ says p l
        ∙ ap (λ r. dot r (values equations (image n X p))) (sym (ap (take m) (new-here c e) ∙ take_at reason (pos d ∷ []) m reason-long)))
        (λ o. ap (λ r. at r m *ℤ at p c) (new-other c o.0) ∙ s.reason c h o.1 p l
        ∙ ap (λ r. dot (take m r) (values equations (image n X p))) (sym (new-other c o.0)))
        (shut-cases marks k inside c z);
    zero_open = λ c h z.
        new-other c (λ e. z (subst (Shut (set marks k 0)) (sym e) (shut-here marks k inside)))
        ∙ s.zero_open c h (λ x. z (shut-more marks k inside c x));
  }
    where
      above : (i : ℕ) × (d ≡ suc i)
      above = go d least
        where
          go : (x : ℕ) → 0 < x → (i : ℕ) × (x ≡ suc i)
          go zero h = let z : ⊥ = omega arith in absurd z
          go (suc i) h = (i, refl)

      marked : (c : ℕ) → (get_or marks c 0 ≡ 1) ⊎ Shut marks c → (get_or (set marks k 0) c 0 ≡ 1) ⊎ Shut (set marks k 0) c
      marked c (inl other) = go (ℕ_discrete c k)
        where
          go : Dec (c ≡ k) → (get_or (set marks k 0) c 0 ≡ 1) ⊎ Shut (set marks k 0) c
          go (yes e) = inr (subst (Shut (set marks k 0)) (sym e) (shut-here marks k inside))
          go (no e) = inl (get_or-set_other marks k c 0 0 e ∙ other)
      marked c (inr shut) = inr (shut-more marks k inside c shut)

      divisor-here : at (reason ++ pos d ∷ []) m ≡ pos d
      divisor-here = get_or_at reason (pos d) [] (pos 0) m reason-long

      new-here : (c : ℕ) → c ≡ k → get_or (set reasons k (reason ++ pos d ∷ [])) c [] ≡ reason ++ pos d ∷ []
      new-here c e = ap (λ i. get_or (set reasons k (reason ++ pos d ∷ [])) i []) e ∙ get_or-set_same reasons k _ [] (omega (arith, s.long_reasons))

      new-other : (c : ℕ) → c ≢ k → get_or (set reasons k (reason ++ pos d ∷ [])) c [] ≡ get_or reasons c []
      new-other c e = get_or-set_other reasons k c _ [] e
