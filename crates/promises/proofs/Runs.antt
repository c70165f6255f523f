-- What holds between two steps holds throughout the run, for whatever test of the listed numbers.
use mathlib.Core.Path.{◌≡◌, refl, sym, ap, ◌∙◌, subst}
use mathlib.Core.Logic.{◌≢◌}
use mathlib.Core.Bool.{Bool, true, false}
use mathlib.Core.List.{List, [], ◌∷◌, map}
use Prim.Native.Nat.{ℕ, zero, suc, ◌*◌, ◌<◌}
use native.Mathlib.Nat.{suc_inj}
use native.Mathlib.Omega.{arith}
use borrow.Author.Tests.{eqb-true, eqb-false}
use lib.Dec.{eqb}
use lib.ListN.{length, take, length-map}
use lib.IntN.{ℤ, pos, negsuc, nat_abs, ◌*ℤ◌}
use Rattle.whole.proofs.Reify.{reify, ring}
use Rattle.rows.specs.Row.{at, dot, values, gcd_of, smallest}
use Rattle.rows.specs.Table.{Wide}
use Rattle.rows.proofs.Algebra.{length-scaled, dot-scaled}
use Rattle.rows.proofs.Divisors.{gcd_of-zero}
use Rattle.rules.specs.Checker.{refutes}
use Rattle.rules.specs.Elimination.{State, Carried, Step, Worked, passed, unmet, large, Ended, finished, conflicting, too_large}
use Rattle.rules.specs.Elimination.{step_of, put_into, stepped, reason_of, corrected, lost, lowest_terms, closed, one_more, reduced, gcd_of_coefficients}
use Rattle.rules.specs.Elimination.{closing, stepping, step_bound, from_b, work, in_order, run, start, carried}
use Rattle.rules.proofs.RowInHand.{lead-stays, gcd-kept}
use Rattle.promises.proofs.Values.{dot-nothing, dot-single, nothing_left}
use Rattle.promises.proofs.Image.{image}
use Rattle.promises.proofs.Invariant.{Sound, Standing, in_hand, changed, settle}
use Rattle.promises.proofs.Stepped.{Apt, standing-put, sound-put}
use Rattle.promises.proofs.InHand.{step-apt, only-lead}
use Rattle.promises.proofs.Reduced.{carries-reduced, gcd-reduced}
use Rattle.promises.proofs.Closes.{standing-corrected, sound-closed}
use Rattle.promises.proofs.Conflict.{row-refutes}
use Rattle.promises.proofs.Begins.{sound-start, standing-start, length-carried}

-- ---- the reason of a column
square-one : (a : ℤ) → nat_abs a ≡ 1 → a *ℤ a ≡ pos 1
square-one (pos n) e = ap (λ x. pos (x * x)) e
square-one (negsuc n) e = ap (λ x. pos (x * x)) e

-- the parameter P by a row of value a·P, a being 1 or -1
signed : (a d P : ℤ) → a *ℤ a ≡ pos 1 → d *ℤ P ≡ a *ℤ (d *ℤ (a *ℤ P))
signed a d P e =
    ring (d ∷ P ∷ []) {b = pos 1 *ℤ (d *ℤ P)} (search reify) (search reify) refl ∙ ap (λ z. z *ℤ (d *ℤ P)) (sym e)
    ∙ ring (a ∷ d ∷ P ∷ []) (search reify) (search reify) refl

-- ---- what holds of a state with the rows still to be worked, and of what the work on a row or the whole run ends in
module _ (n m : ℕ) (equations : List (List ℤ)) where
  abbrev pub Held : State → List Carried → Type 0
  Held s es =
      Sound n m equations s.substitution s.way_back s.marks s.reasons
      × Standing n m equations s.substitution s.marks equations es

  -- with how many rows are left
  abbrev pub Good : ℕ → Worked → Type 0
  Good count (passed later s) = Held s later × (length later ≡ count)
  Good count (unmet multipliers d steps) = refutes n multipliers d equations ≡ true
  Good count (large steps) = Unit {0}

  abbrev pub Right : Ended → Type 0
  Right (finished s) = Held s []
  Right (conflicting j multipliers d steps) = refutes n multipliers d equations ≡ true
  Right (too_large j steps) = Unit {0}

  -- a row of zeros is done
  done-zeros : {X : List (List ℤ)} {marks : List ℕ} {e : Carried} {es : List Carried} → ((i : ℕ) → at e.row i ≡ pos 0)
      → Standing n m equations X marks equations (e ∷ es) → Standing n m equations X marks equations es
  done-zeros {e} f s =
      settle
      (λ equation c p h z. c.stands p h z ∙ ap (λ v. c.factor *ℤ v) (dot-nothing e.row p f)
      ∙ ring (c.factor ∷ []) (search reify) (search reify) refl)
      s

  -- at the start
  pub held_start : Wide (suc n) equations → length equations ≡ m → Held (start n m) (carried m 0 equations)
  unfolding start
  held_start w l = (sound-start n m equations, standing-start n m equations l w)

module _ (fits : List ℤ → Bool) (n m : ℕ) (equations : List (List ℤ)) (w : Wide (suc n) equations) where
  -- ---- (d)
  module _ (t : Step) (e : Carried) (later : List Carried) (s : State) (held : Held n m equations s (e ∷ later)) (column : t.column < n)
      (one : nat_abs t.lead ≡ 1) (here : at e.row t.column ≡ t.lead) (rest : (i : ℕ) → i ≢ t.column → at e.row i ≡ pos 0) where
    wide : length e.row ≡ suc n
    wide = (in_hand held.1).1.wide

    says : (p : List ℤ) → length p ≡ suc n
        → pos e.divisor *ℤ at p t.column ≡ dot (reason_of t e) (values equations (image n s.substitution p))
    unfolding reason_of
    says p h =
        let (equation, c) = in_hand held.1 in
        signed t.lead (pos e.divisor) (at p t.column) (square-one t.lead one)
        ∙ ap (λ z. t.lead *ℤ z)
        (ap (λ z. pos e.divisor *ℤ z)
        (ap (λ z. z *ℤ at p t.column) (sym here) ∙ sym (dot-single e.row p t.column (omega (arith, wide)) rest))
        ∙ c.value p h)
        ∙ sym (dot-scaled t.lead e.multipliers (values equations (image n s.substitution p)))

    -- corrected like the others, the row in hand has nothing left
    nothing : (i : ℕ) → at (corrected t.column e.divisor (reason_of t e) e).row i ≡ pos 0
    unfolding corrected lost lowest_terms
    nothing i = go (eqb (nat_abs (at e.row t.column)) 0) refl
      where
        go : (b : Bool) → eqb (nat_abs (at e.row t.column)) 0 ≡ b
            → at (elim b as (λ x. Carried) [ true ↦ e | false ↦ lowest_terms (lost t.column e.divisor (reason_of t e) e) ]).row i ≡ pos 0
        go true z = let bad : ⊥ = omega (arith, eqb-true (nat_abs (at e.row t.column)) 0 z, ap nat_abs here) in absurd bad
        go false z = nothing_left e.row t.column (omega (arith, wide)) rest i

    closing-good : Good n m equations (length later) (closing fits n t e later s)
    unfolding closing closed one_more reason_of
    closing-good = go (fits _)
      where
        reason : List ℤ
        reason = reason_of t e

        go : (b : Bool) → Good n m equations (length later) (elim b [
          | true ↦ passed (map (corrected t.column e.divisor reason) later) (one_more (closed t.column e.divisor reason s))
          | false ↦ large s.steps
        ])
        go true =
            let (equation, c) = in_hand held.1 in
            let long : length reason ≡ m = length-scaled t.lead e.multipliers ∙ c.long in
            let X = s.substitution in
            let marks = s.marks in
            let k = t.column in
            let d = e.divisor in
            let all = standing-corrected n m equations X marks k d reason column held.0.long_marks c.least long says held.1 in (
              (
                sound-closed n m equations X marks k d reason column held.0.long_marks c.least long says held.0,
                done-zeros n m equations nothing all,
              ),
              length-map later (corrected k d reason),
            )
        go false = tt

  -- ---- (c), again and again
  stepping-good : (most : ℕ) (e : Carried) (later : List Carried) (s : State) → Held n m equations s (e ∷ later) → 0 < gcd_of (take n e.row)
      → Good n m equations (length later) (stepping fits n most e later s)
  unfolding stepping stepped one_more put_into
  stepping-good zero e later s held live = tt
  stepping-good (suc most) e later s held live =
      go (fits _) (eqb (nat_abs t.lead) 1) refl
      (stepping-good most (put_into t e) (map (put_into t) later) (one_more (stepped n t s)) next (rw (gcd-kept n e.row wide live) live))
    where
      t : Step
      t = step_of n e.row

      wide : length e.row ≡ suc n
      wide = (in_hand held.1).1.wide

      apt : Apt n s.marks t
      apt = step-apt n e.row wide live s.marks (in_hand held.1).1.none

      next : Held n m equations (stepped n t s) (put_into t e ∷ map (put_into t) later)
      next = (
        sound-put n m equations s.substitution s.marks t apt held.0.wide_x held.0,
        standing-put n m equations s.substitution s.marks t apt held.0.wide_x held.1,
      )

      shorter : (r : Worked) → Good n m equations (length (map (put_into t) later)) r → Good n m equations (length later) r
      shorter r g = subst (λ count. Good n m equations count r) (length-map later (put_into t)) g

      go : (b b' : Bool) → eqb (nat_abs t.lead) 1 ≡ b'
          → Good n m equations (length (map (put_into t) later)) (stepping fits n most (put_into t e) (map (put_into t) later) (one_more (stepped n t s)))
          → Good n m equations (length later) (elim b [
            | true ↦ elim b' [
              | true ↦ closing fits n t (put_into t e) (map (put_into t) later) (stepped n t s)
              | false ↦ stepping fits n most (put_into t e) (map (put_into t) later) (one_more (stepped n t s))
            ]
            | false ↦ large s.steps
          ])
      go true true z ih =
          let one = eqb-true (nat_abs t.lead) 1 z in
          shorter (closing fits n t (put_into t e) (map (put_into t) later) (stepped n t s))
          (closing-good t (put_into t e) (map (put_into t) later) (stepped n t s) next apt.column one
          (lead-stays n e.row wide live) (only-lead n e.row wide live one))
      go true false z ih = shorter (stepping fits n most (put_into t e) (map (put_into t) later) (one_more (stepped n t s))) ih
      go false b' z ih = tt

  -- ---- (b)
  from_b-good : (e : Carried) (later : List Carried) (s : State) → Held n m equations s (e ∷ later) → gcd_of e.row ≡ 1
      → Good n m equations (length later) (from_b fits n e later s)
  unfolding from_b gcd_of_coefficients
  from_b-good e later s held whole = go (eqb (gcd_of_coefficients n e) 1) refl
    where
      most : ℕ
      most = step_bound (nat_abs (at e.row (smallest (take n e.row))))

      go : (b : Bool) → eqb (gcd_of_coefficients n e) 1 ≡ b → Good n m equations (length later) (elim b [
        | true ↦ stepping fits n most e later s
        | false ↦ unmet e.multipliers (e.divisor * gcd_of_coefficients n e) s.steps
      ])
      go true z =
          let h : 0 < gcd_of (take n e.row) = omega (arith, eqb-true (gcd_of_coefficients n e) 1 z) in
          stepping-good most e later s held h
      go false z =
          let (equation, c) = in_hand held.1 in
          row-refutes n m equations s.substitution s.way_back s.marks s.reasons w held.0 equation e c whole
          (eqb-false (gcd_of_coefficients n e) 1 z)

  -- ---- (a)
  pub work-good : (e : Carried) (later : List Carried) (s : State) → Held n m equations s (e ∷ later)
      → Good n m equations (length later) (work fits n e later s)
  unfolding work
  work-good e later s held = go (eqb (gcd_of e.row) 0) refl (fits _)
    where
      go : (b : Bool) → eqb (gcd_of e.row) 0 ≡ b → (b' : Bool) → Good n m equations (length later) (elim b [
        | true ↦ passed later s
        | false ↦ elim b' [ true ↦ from_b fits n (reduced (gcd_of e.row) e) later s | false ↦ large s.steps ]
      ])
      go true z b' = ((held.0, done-zeros n m equations (gcd_of-zero e.row (eqb-true (gcd_of e.row) 0 z)) held.1), refl)
      go false z true =
          let h : 0 < gcd_of e.row = let other = eqb-false (gcd_of e.row) 0 z in omega arith in
          from_b-good (reduced (gcd_of e.row) e) later s
          (held.0, changed (λ equation c. carries-reduced n m equations s.substitution s.marks equation e h c) held.1) (gcd-reduced e h)
      go false z false = tt

  -- ---- the rows in order
  in_order-right : (left j : ℕ) (rows : List Carried) (s : State) → Held n m equations s rows → length rows ≡ left
      → Right n m equations (in_order fits n left j rows s)
  unfolding in_order
  in_order-right zero j [] s held l = held
  in_order-right zero j (e ∷ later) s held l = let z : ⊥ = omega arith in absurd z
  in_order-right (suc left) j [] s held l = held
  in_order-right (suc left) j (e ∷ later) s held l = go (in_order-right left (suc j)) (work fits n e later s) (work-good e later s held)
    where
      go : ((rows : List Carried) (s : State) → Held n m equations s rows → length rows ≡ left → Right n m equations (in_order fits n left (suc j) rows s))
          → (r : Worked) → Good n m equations (length later) r → Right n m equations (elim r [
            | passed later' s' ↦ in_order fits n left (suc j) later' s'
            | unmet multipliers d steps ↦ conflicting j multipliers d steps
            | large steps ↦ too_large j steps
          ])
      go ih (passed later' s') g = ih later' s' g.0 (g.1 ∙ suc_inj l)
      go ih (unmet multipliers d steps) g = g
      go ih (large steps) g = tt

  pub run-right : length equations ≡ m → Right n m equations (run fits n m equations)
  unfolding run
  run-right l =
      in_order-right m 1 (carried m 0 equations) (start n m) (held_start n m equations w l) (length-carried n m equations 0 equations ∙ l)
