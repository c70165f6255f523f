-- What stays within the limit while the run passes: every row with its multipliers and divisor, the substitution and the way back.
use mathlib.Core.Path.{◌≡◌, refl, sym, ap, ◌∙◌, subst}
use mathlib.Core.Bool.{Bool, true, false, ◌&&◌}
use mathlib.Core.List.{List, [], ◌∷◌, ◌++◌, map}
use Prim.Native.Nat.{ℕ, zero, suc, ◌*◌, ◌/◌, ◌≤◌, ◌<◌, ◌∣◌}
use native.Mathlib.Nat.{zero-mul, div-mul_cancel, pos_of_ne-zero, mul-pos}
use native.Mathlib.Omega.{arith}
use borrow.Author.Tests.{leb-true, eqb-false}
use lib.Dec.{eqb, leb}
use lib.ListN.{set, take}
use lib.IntN.{ℤ, pos, nat_abs}
use Rattle.whole.specs.Limit.{W}
use Rattle.whole.specs.Gcd.{gcd}
use Rattle.whole.proofs.GcdLaws.{gcd-r}
use Rattle.rows.specs.Row.{at, gcd_of, smallest, all_within}
use Rattle.rows.specs.Table.{flat}
use Rattle.rows.proofs.Bounded.{and_left, and_right, and_both, bounded-append, bounded-cons, bounded-nil}
use Rattle.rules.specs.Elimination.{State, Carried, Step, shared, lowest_terms, by_gcd, reduced, gcd_of_coefficients, step_of, put_in, put_into, way_back_row, stepped, one_more, closed, reason_of, factor, lost, corrected, numbers_of, listed_a, listed_c, listed_d, step_bound, closing, stepping, from_b, work, Worked, passed, unmet, large}

-- a divisor of a number above 0 leaves a quotient above 0
pub quotient-least : (d g : ℕ) → g ∣ d → 0 < d → 0 < d / g
quotient-least d g p h = pos_of_ne-zero (λ e. let z : 0 ≡ d = sym (zero-mul g) ∙ ap (λ x. x * g) (sym e) ∙ div-mul_cancel g p in omega arith)

pub record Within (e : Carried) : Type 0 where
  pub row : all_within e.row ≡ true
  pub multipliers : all_within e.multipliers ≡ true
  pub least : 0 < e.divisor
  pub most : e.divisor ≤ W

abbrev pub AllWithin : List Carried → Type 0
AllWithin [] = Unit {0}
AllWithin (e ∷ es) = Within e × AllWithin es

pub record StateWithin (s : State) : Type 0 where
  pub substitution : all_within (flat s.substitution) ≡ true
  pub way_back : all_within (flat s.way_back) ≡ true

-- ---- parts of a list that is within the limit
pub left-part : (r s : List ℤ) → all_within (r ++ s) ≡ true → all_within r ≡ true
left-part r s h = and_left (all_within r) (all_within s) (sym (bounded-append W r s) ∙ h)

pub right-part : (r s : List ℤ) → all_within (r ++ s) ≡ true → all_within s ≡ true
right-part r s h = and_right (all_within r) (all_within s) (sym (bounded-append W r s) ∙ h)

-- what is listed of a row with a divisor above 0
listed-within : (e : Carried) → 0 < e.divisor → all_within (numbers_of e) ≡ true → Within e
unfolding numbers_of
listed-within e h w =
    let more = right-part e.row (e.multipliers ++ pos e.divisor ∷ []) w in
    record {
      row = left-part e.row (e.multipliers ++ pos e.divisor ∷ []) w;
      multipliers = left-part e.multipliers (pos e.divisor ∷ []) more;
      least = h;
      most =
          leb-true e.divisor W
          (and_left (leb e.divisor W) true
          (sym (bounded-cons W (pos e.divisor) [] ∙ ap (λ b. leb e.divisor W && b) (bounded-nil W)) ∙ right-part e.multipliers (pos e.divisor ∷ []) more));
    }

-- ---- (c)
put_into-within : (t : Step) (e : Carried) → Within e → all_within (put_into t e).row ≡ true → Within (put_into t e)
unfolding put_into
put_into-within t e w h = record { row = h; multipliers = w.multipliers; least = w.least; most = w.most }

later-within : (t : Step) (later : List Carried) → AllWithin later → all_within (flat (map (λ h. (put_into t h).row) later)) ≡ true → AllWithin (map (put_into t) later)
unfolding flat
later-within t [] w h = tt
later-within t (e ∷ later) w h =
    let more = flat (map (λ h. (put_into t h).row) later) in
    (put_into-within t e w.0 (left-part (put_into t e).row more h), later-within t later w.1 (right-part (put_into t e).row more h))

pub set-within : (rows : List (List ℤ)) (k : ℕ) (row : List ℤ) → all_within (flat rows) ≡ true → all_within row ≡ true → all_within (flat (set rows k row)) ≡ true
unfolding flat
set-within [] k row w h = w
set-within (r ∷ rows) zero row w h = bounded-append W row (flat rows) ∙ and_both h (right-part r (flat rows) w)
set-within (r ∷ rows) (suc k) row w h = bounded-append W r (flat (set rows k row)) ∙ and_both (left-part r (flat rows) w) (set-within rows k row (right-part r (flat rows) w) h)

module _ (n : ℕ) (t : Step) (e : Carried) (later : List Carried) (s : State) (h : all_within (listed_c n t e later s) ≡ true) where
  rest : List ℤ
  rest = flat (map (put_in t) s.substitution) ++ way_back_row n t s.way_back

  behind : List ℤ
  unfolding rest
  behind = flat (map (λ h. (put_into t h).row) later) ++ rest

  hand-stepped : Within e → Within (put_into t e)
  unfolding listed_c behind
  hand-stepped w = put_into-within t e w (left-part (put_into t e).row behind h)

  listed-behind : all_within behind ≡ true
  unfolding listed_c behind
  listed-behind = right-part (put_into t e).row behind h

  later-stepped : AllWithin later → AllWithin (map (put_into t) later)
  unfolding behind
  later-stepped w = later-within t later w (left-part (flat (map (λ h. (put_into t h).row) later)) rest listed-behind)

  listed-rest : all_within rest ≡ true
  unfolding behind
  listed-rest = right-part (flat (map (λ h. (put_into t h).row) later)) rest listed-behind

  state-stepped : StateWithin s → StateWithin (stepped n t s)
  unfolding stepped rest
  state-stepped w = record {
    substitution = left-part (flat (map (put_in t) s.substitution)) (way_back_row n t s.way_back) listed-rest;
    way_back = set-within s.way_back t.column (way_back_row n t s.way_back) w.way_back (right-part (flat (map (put_in t) s.substitution)) (way_back_row n t s.way_back) listed-rest);
  }

counted-within : (s : State) → StateWithin s → StateWithin (one_more s)
unfolding one_more
counted-within s w = record { substitution = w.substitution; way_back = w.way_back }

-- ---- lowest terms, (a) and (d)
lowest-least : (e : Carried) → 0 < e.divisor → 0 < (lowest_terms e).divisor
unfolding lowest_terms shared
lowest-least e h = quotient-least e.divisor (gcd (gcd_of e.multipliers) e.divisor) (gcd-r (gcd_of e.multipliers) e.divisor) h

by-least : (e : Carried) (g : ℕ) → 0 < e.divisor → 0 < g → 0 < (by_gcd g e).divisor
unfolding by_gcd
by-least e g p q = mul-pos p q

pub reduced-within : (g : ℕ) (e : Carried) → 0 < g → Within e → all_within (listed_a g e) ≡ true → Within (reduced g e)
unfolding reduced listed_a
reduced-within g e p w h = go (leb 2 g) h
  where
    go : (b : Bool) → all_within (elim b [ true ↦ numbers_of (by_gcd g e) ++ numbers_of (lowest_terms (by_gcd g e)) | false ↦ [] ]) ≡ true
        → Within (elim b [ true ↦ lowest_terms (by_gcd g e) | false ↦ e ])
    go true h = listed-within (lowest_terms (by_gcd g e)) (lowest-least (by_gcd g e) (by-least e g w.least p)) (right-part (numbers_of (by_gcd g e)) (numbers_of (lowest_terms (by_gcd g e))) h)
    go false h = w

module _ (k d : ℕ) (reason : List ℤ) (least : 0 < d) where
  lost-least : (h : Carried) → 0 < h.divisor → 0 < (lost k d reason h).divisor
  unfolding lost
  lost-least h p = mul-pos p (quotient-least d (gcd h.divisor d) (gcd-r h.divisor d) least)

  corrected-within : (h : Carried) → Within h → all_within (listed_d k d reason h) ≡ true → Within (corrected k d reason h)
  unfolding corrected listed_d
  corrected-within h w l = go (eqb (nat_abs (at h.row k)) 0) l
    where
      go : (b : Bool) → all_within (elim b [ true ↦ [] | false ↦ factor k d h ∷ (numbers_of (lost k d reason h) ++ numbers_of (lowest_terms (lost k d reason h))) ]) ≡ true
          → Within (elim b [ true ↦ h | false ↦ lowest_terms (lost k d reason h) ])
      go true l = w
      go false l =
          listed-within (lowest_terms (lost k d reason h)) (lowest-least (lost k d reason h) (lost-least h w.least))
          (right-part (factor k d h ∷ numbers_of (lost k d reason h)) (numbers_of (lowest_terms (lost k d reason h))) l)

  all-corrected : (later : List Carried) → AllWithin later → all_within (flat (map (listed_d k d reason) later)) ≡ true → AllWithin (map (corrected k d reason) later)
  unfolding flat
  all-corrected [] w l = tt
  all-corrected (h ∷ later) w l =
      let more = flat (map (listed_d k d reason) later) in
      (corrected-within h w.0 (left-part (listed_d k d reason h) more l), all-corrected later w.1 (right-part (listed_d k d reason h) more l))

closed-within : (k d : ℕ) (reason : List ℤ) (s : State) → StateWithin s → StateWithin (closed k d reason s)
unfolding closed
closed-within k d reason s w = record { substitution = w.substitution; way_back = w.way_back }

-- ---- the work on one row
pub record Passes (later : List Carried) (s : State) : Type 0 where
  pub rows : AllWithin later
  pub state : StateWithin s

-- what a row leaves behind where it passes
Leaves : Worked → Type 0
Leaves (passed later s) = Passes later s
Leaves (unmet multipliers d steps) = Unit {0}
Leaves (large steps) = Unit {0}

closing-leaves : (n : ℕ) (t : Step) (e : Carried) (later : List Carried) (s : State) → 0 < e.divisor → AllWithin later → StateWithin s → Leaves (closing all_within n t e later s)
unfolding closing Leaves
closing-leaves n t e later s p w v = go (all_within (flat (map (listed_d t.column e.divisor (reason_of t e)) later))) refl
  where
    go : (fit : Bool) → all_within (flat (map (listed_d t.column e.divisor (reason_of t e)) later)) ≡ fit
        → Leaves (elim fit [ true ↦ passed (map (corrected t.column e.divisor (reason_of t e)) later) (one_more (closed t.column e.divisor (reason_of t e) s)) | false ↦ large s.steps ])
    go true h = record { rows = all-corrected t.column e.divisor (reason_of t e) p later w h; state = counted-within (closed t.column e.divisor (reason_of t e) s) (closed-within t.column e.divisor (reason_of t e) s v) }
    go false h = tt

stepping-leaves : (n most : ℕ) (e : Carried) (later : List Carried) (s : State) → Within e → AllWithin later → StateWithin s → Leaves (stepping all_within n most e later s)
unfolding stepping Leaves
stepping-leaves n zero e later s u w v = tt
stepping-leaves n (suc most) e later s u w v = go (all_within (listed_c n t e later s)) (eqb (nat_abs t.lead) 1) refl (stepping-leaves n most)
  where
    t : Step
    t = step_of n e.row

    e' : Carried
    e' = put_into t e

    later' : List Carried
    later' = map (put_into t) later

    s' : State
    s' = stepped n t s

    go : (fit closes : Bool) → all_within (listed_c n t e later s) ≡ fit
        → ((e : Carried) (later : List Carried) (s : State) → Within e → AllWithin later → StateWithin s → Leaves (stepping all_within n most e later s))
        → Leaves (elim fit [ true ↦ elim closes [ true ↦ closing all_within n t e' later' s' | false ↦ stepping all_within n most e' later' (one_more s') ] | false ↦ large s.steps ])
    go true true h again = closing-leaves n t e' later' s' (hand-stepped n t e later s h u).least (later-stepped n t e later s h w) (state-stepped n t e later s h v)
    go true false h again = again e' later' (one_more s') (hand-stepped n t e later s h u) (later-stepped n t e later s h w) (counted-within s' (state-stepped n t e later s h v))
    go false closes h again = tt

work-leaves : (n : ℕ) (e : Carried) (later : List Carried) (s : State) → Within e → AllWithin later → StateWithin s → Leaves (work all_within n e later s)
unfolding work from_b Leaves
work-leaves n e later s u w v = go (eqb g 0) (all_within (listed_a g e)) (eqb (gcd_of_coefficients n e') 1) refl refl
  where
    g : ℕ
    g = gcd_of e.row

    e' : Carried
    e' = reduced g e

    most : ℕ
    most = step_bound (nat_abs (at e'.row (smallest (take n e'.row))))

    go : (none fit one : Bool) → eqb g 0 ≡ none → all_within (listed_a g e) ≡ fit
        → Leaves (elim none [
          | true ↦ passed later s
          | false ↦ elim fit [
            | true ↦ elim one [ true ↦ stepping all_within n most e' later s | false ↦ unmet e'.multipliers (e'.divisor * gcd_of_coefficients n e') s.steps ]
            | false ↦ large s.steps
          ]
        ])
    go true fit one z h = record { rows = w; state = v }
    go false true true z h = stepping-leaves n most e' later s (reduced-within g e (let p = eqb-false g 0 z in omega arith) u h) w v
    go false true false z h = tt
    go false false one z h = tt

-- where a row passes, all that it leaves is within the limit
pub work-within : (n : ℕ) (e : Carried) (later : List Carried) (s : State) → Within e → AllWithin later → StateWithin s
    → (later' : List Carried) (s' : State) → work all_within n e later s ≡ passed later' s' → Passes later' s'
unfolding Leaves
work-within n e later s u w v later' s' p = subst Leaves p (work-leaves n e later s u w v)
