-- What (a) and (d) make of one row with its multipliers and divisor, and when the numbers that they list are within the limit.
use mathlib.Core.Path.{◌≡◌, refl, sym, ap, ap₂, ◌∙◌}
use mathlib.Core.Bool.{Bool, true, false, ◌&&◌, and-true}
use mathlib.Core.List.{List, [], ◌∷◌, ◌++◌}
use Prim.Native.Nat.{ℕ, ◌*◌, ◌/◌, ◌≤◌, ◌<◌}
use native.Mathlib.Nat.{le_trans, le_of_dvd, le-div_iff_mul-le, div-le_self}
use native.Mathlib.Omega.{arith}
use borrow.Author.Tests.{leb-true, le-leb, ne_eqb}
use lib.Dec.{leb, eqb}
use lib.ListN.{set}
use lib.IntN.{ℤ, pos, nat_abs}
use Rattle.whole.specs.Limit.{W, within}
use Rattle.whole.specs.Gcd.{gcd}
use Rattle.whole.proofs.Integers.{nat_abs-zero}
use Rattle.whole.proofs.GcdLaws.{gcd-one-r, gcd-r, gcd-nonzero-r}
use Rattle.whole.proofs.QuotientLaws.{exactly-one}
use Rattle.rows.specs.Row.{at, less, scaled, gcd_of, divided, all_within}
use Rattle.rows.proofs.Bounded.{and_left, and_right, and_both, bounded-nil, bounded-cons, bounded-append, bounded-set, bounded-divided}
use Rattle.rules.specs.Elimination.{Carried, shared, lowest_terms, by_gcd, reduced, factor, lost, corrected, numbers_of, listed_a, listed_d}
use Rattle.steps.specs.Shown.{made, beyond, tried, carry}
use Rattle.steps.proofs.Attempts.{tried-fits, tried-made as tried-same-made}

-- ---- what an attempt tells that is known to be made, or to be refused
pub tried-made : {A : Type 0} (fits : Bool) (a b : A) → made a ≡ tried fits b → (fits ≡ true) × (a ≡ b)
tried-made fits a b e = (sym (tried-fits true fits a b e), tried-same-made true fits a b refl e)

pub tried-beyond : {A : Type 0} (fits : Bool) (b : A) → beyond ≡ tried fits b → fits ≡ false
tried-beyond fits b e = sym (tried-fits false fits b b e)

-- ---- lowest terms
pub shared-nonzero : (multipliers : List ℤ) (d : ℕ) → 1 ≤ d → 0 < shared multipliers d
unfolding shared
shared-nonzero multipliers d h = gcd-nonzero-r (gcd_of multipliers) d h

pub shared-one : (multipliers : List ℤ) → shared multipliers 1 ≡ 1
unfolding shared
shared-one multipliers = gcd-one-r (gcd_of multipliers)

pub shared-le : (multipliers : List ℤ) (d : ℕ) → 1 ≤ d → shared multipliers d ≤ d
unfolding shared
shared-le multipliers d h = le_of_dvd h (gcd-r (gcd_of multipliers) d)

pub divided-one : (row : List ℤ) → divided (pos 1) row ≡ row
unfolding divided
divided-one [] = refl
divided-one (a ∷ row) = ap₂ ◌∷◌ (exactly-one a) (divided-one row)

-- ---- the numbers of a row are within the limit where the row, the multipliers and the divisor are
numbers-within : (e : Carried) → all_within (numbers_of e) ≡ all_within e.row && (all_within e.multipliers && leb e.divisor W)
unfolding numbers_of
numbers-within e =
    let d = pos e.divisor in
    let last : all_within (d ∷ []) ≡ within d = bounded-cons W d [] ∙ ap (λ (b : Bool). within d && b) (bounded-nil W) ∙ and-true (within d) in
    bounded-append W e.row (e.multipliers ++ d ∷ [])
    ∙ ap (λ (b : Bool). all_within e.row && b) (bounded-append W e.multipliers (d ∷ []) ∙ ap (λ (b : Bool). all_within e.multipliers && b) last)

-- lowest terms lead no number further from 0, so they decide nothing
lowest-within : (e : Carried) → all_within (numbers_of e) ≡ true → all_within (numbers_of (lowest_terms e)) ≡ true
unfolding lowest_terms
lowest-within e h =
    let g = shared e.multipliers e.divisor in
    let all = sym (numbers-within e) ∙ h in
    let rest = and_right (all_within e.row) (all_within e.multipliers && leb e.divisor W) all in
    let d : e.divisor ≤ W = leb-true e.divisor W (and_right (all_within e.multipliers) (leb e.divisor W) rest) in
    numbers-within (lowest_terms e)
    ∙ and_both (and_left (all_within e.row) (all_within e.multipliers && leb e.divisor W) all)
    (and_both (bounded-divided W (pos g) e.multipliers (and_left (all_within e.multipliers) (leb e.divisor W) rest))
    (le-leb (e.divisor / g) W (le_trans (div-le_self e.divisor g) d)))

absorbed : (a b : Bool) → (a ≡ true → b ≡ true) → a && b ≡ a
absorbed true b f = f refl
absorbed false b f = refl

both-within : (e : Carried) → all_within (numbers_of e ++ numbers_of (lowest_terms e)) ≡ all_within (numbers_of e)
both-within e =
    bounded-append W (numbers_of e) (numbers_of (lowest_terms e))
    ∙ absorbed (all_within (numbers_of e)) (all_within (numbers_of (lowest_terms e))) (lowest-within e)

-- the same where the row is known to be within the limit
with_row : (e : Carried) → all_within e.row ≡ true → all_within (numbers_of e ++ numbers_of (lowest_terms e)) ≡ all_within e.multipliers && leb e.divisor W
with_row e h = both-within e ∙ numbers-within e ∙ ap (λ (b : Bool). b && (all_within e.multipliers && leb e.divisor W)) h

-- ---- (a), for g of 2 or more: the divisor alone decides
module _ (g : ℕ) (e : Carried) (many : 2 ≤ g) where
  pub reduced-is : let product = e.divisor * g in let s = shared e.multipliers product in
      reduced g e ≡ carry (divided (pos g) e.row) (divided (pos s) e.multipliers) (product / s)
  unfolding reduced lowest_terms by_gcd
  reduced-is = rw (le-leb 2 g many, reduced)

  pub reduced-fits : all_within e.row ≡ true → all_within e.multipliers ≡ true → all_within (listed_a g e) ≡ leb (e.divisor * g) W
  unfolding listed_a by_gcd
  reduced-fits h k =
      rw (le-leb 2 g many, listed_a)
      (with_row (by_gcd g e) (bounded-divided W (pos g) e.row h) ∙ ap (λ (b : Bool). b && leb (e.divisor * g) W) k)

-- ---- (d), for one later row: d / e, which lies between 1 and d, and the multipliers before lowest terms
abbrev pub share_of : ℕ → Carried → ℕ
share_of d e = d / gcd e.divisor d

abbrev pub blended : ℕ → ℕ → List ℤ → Carried → List ℤ
blended k d reason e = less (scaled (pos (share_of d e)) e.multipliers) (factor k d e) reason

pub share-nonzero : (d : ℕ) (e : Carried) → 1 ≤ d → 1 ≤ share_of d e
share-nonzero d e h =
    let l = le_of_dvd h (gcd-r e.divisor d) in
    (le-div_iff_mul-le (gcd-nonzero-r e.divisor d h)).1 (omega arith)

module _ (k d : ℕ) (reason : List ℤ) (e : Carried) where
  -- a row with 0 at k is left alone, and nothing of it is listed
  module _ (none : at e.row k ≡ pos 0) where
    pub corrected-none : corrected k d reason e ≡ e
    unfolding corrected
    corrected-none = rw (none, corrected)

    pub listed-none : all_within (listed_d k d reason e) ≡ true
    unfolding listed_d
    listed-none = rw (none, listed_d) (bounded-nil W)

  module _ (some : at e.row k ≡ pos 0 → ⊥) where
    nonzero : eqb (nat_abs (at e.row k)) 0 ≡ false
    nonzero = ne_eqb (nat_abs (at e.row k)) 0 (λ z. some (nat_abs-zero (at e.row k) z))

    pub corrected-some : let product = e.divisor * share_of d e in let s = shared (blended k d reason e) product in
        corrected k d reason e ≡ carry (set e.row k (pos 0)) (divided (pos s) (blended k d reason e)) (product / s)
    unfolding corrected lowest_terms lost
    corrected-some = rw (nonzero, corrected)

    -- f, the new multipliers and the new divisor decide
    pub listed-some : all_within e.row ≡ true
        → all_within (listed_d k d reason e) ≡ within (factor k d e) && (all_within (blended k d reason e) && leb (e.divisor * share_of d e) W)
    unfolding listed_d lost
    listed-some h =
        let f = factor k d e in
        let l = lost k d reason e in
        rw (nonzero, listed_d)
        (bounded-cons W f (numbers_of l ++ numbers_of (lowest_terms l))
        ∙ ap (λ (b : Bool). within f && b) (with_row l (bounded-set W e.row k (pos 0) h (omega arith))))
