-- The tables after (a): the row in hand is reduced, the rows behind it are as they were.
use mathlib.Core.Path.{◌≡◌, refl, sym, ap, ap₂, ◌∙◌}
use mathlib.Core.Bool.{true}
use mathlib.Core.List.{List, [], ◌∷◌, ◌++◌}
use Prim.Native.Nat.{ℕ, suc, ◌≤◌, ◌<◌, ◌*◌, ◌/◌}
use native.Mathlib.Nat.{pos_of_ne-zero}
use native.Mathlib.Omega.{arith}
use lib.ListN.{length, get_or, set, take, drop, length-append, length-drop, length-set}
use lib.Seq.{take_at, drop_at}
use lib.IntN.{ℤ}
use Rattle.whole.specs.Limit.{W}
use Rattle.rows.specs.Row.{gcd_of, all_within}
use Rattle.rows.proofs.Lists.{row-end}
use Rattle.rows.proofs.Bounded.{and_both, bounded-append, bounded-take, bounded-drop}
use Rattle.rules.specs.Elimination.{State, Carried, reduced, listed_a, gcd_of_coefficients, from_b, work, unmet}
use Rattle.rules.proofs.Within.{Within, reduced-within}
use Rattle.steps.specs.Shown.{tried, carry, kept_row, later_of, Divisors}
use Rattle.std.specs.Prelude.{Some}
use Rattle.stepping.specs.Worked.{in_hand, steps_from, Working3}
use Rattle.stepping.proofs.Turns.{tried-true, tried-made}
use Rattle.one_row.proofs.Gcds.{coefficients-left}
use Rattle.one_row.proofs.Works.{one-reduced, one-listed, work-reduced, work-unmet, work-steps, coefficients-gcd}

pub record Starts (n m : ℕ) (rows multipliers : List ℤ) (divisors : List ℕ) (rows' multipliers' : List ℤ) (divisors' : List ℕ) : Type 0 where
  pub working : Working3 n m rows' multipliers' divisors'
  pub some : 1 ≤ length divisors'
  pub many : length divisors' ≡ length divisors
  pub fits : all_within (listed_a (gcd_of (take (suc n) rows)) (in_hand n m rows multipliers divisors)) ≡ true
  pub hand : in_hand n m rows' multipliers' divisors' ≡ reduced (gcd_of (take (suc n) rows)) (in_hand n m rows multipliers divisors)
  pub later : later_of n m rows' multipliers' divisors' ≡ later_of n m rows multipliers divisors

module _ (n m : ℕ) (rows multipliers : List ℤ) (divisors : List ℕ) (w : Working3 n m rows multipliers divisors) (some : 1 ≤ length divisors) where
  -- the row's gcd is 1: nothing is done
  pub starts-same : gcd_of (take (suc n) rows) < 2 → Starts n m rows multipliers divisors rows multipliers divisors
  starts-same h = record {
    working = w;
    some = some;
    many = refl;
    fits = one-listed (gcd_of (take (suc n) rows)) (in_hand n m rows multipliers divisors) h;
    hand = sym (one-reduced (gcd_of (take (suc n) rows)) (in_hand n m rows multipliers divisors) h);
    later = refl;
  }

  -- the row in hand is within the limit
  pub rows-enough : suc n ≤ length rows
  rows-enough = omega (arith, w.rows_long, row-end (length divisors) (suc n) 0 some)

  pub multipliers-enough : m ≤ length multipliers
  multipliers-enough = omega (arith, w.multipliers_long, row-end (length divisors) m 0 some)

  first-divisor : (l : List ℕ) → 1 ≤ length l → Divisors l → (1 ≤ get_or l 0 0) × (get_or l 0 0 ≤ W)
  first-divisor [] h d = absurd (omega arith)
  first-divisor (x ∷ l) h d = d.0

  pub hand-within : Within (in_hand n m rows multipliers divisors)
  hand-within = let d = first-divisor divisors some w.divisors_good in record {
    row = bounded-take W (suc n) rows w.rows_within;
    multipliers = bounded-take W m multipliers w.multipliers_within;
    least = d.0;
    most = d.1;
  }

  module _ (row multipliers' : List ℤ) (d : ℕ) (row-long : length row ≡ suc n) (multipliers-long : length multipliers' ≡ m)
      (alive : 0 < gcd_of (take (suc n) rows))
      (e : kept_row (Some d) row multipliers' ≡ tried (all_within (listed_a (gcd_of (take (suc n) rows)) (in_hand n m rows multipliers divisors))) (reduced (gcd_of (take (suc n) rows)) (in_hand n m rows multipliers divisors))) where
    fit : all_within (listed_a (gcd_of (take (suc n) rows)) (in_hand n m rows multipliers divisors)) ≡ true
    fit = tried-true (carry row multipliers' d) _ (reduced (gcd_of (take (suc n) rows)) (in_hand n m rows multipliers divisors)) e

    is : carry row multipliers' d ≡ reduced (gcd_of (take (suc n) rows)) (in_hand n m rows multipliers divisors)
    is = tried-made (carry row multipliers' d) (all_within (listed_a (gcd_of (take (suc n) rows)) (in_hand n m rows multipliers divisors))) _ e

    good : Within (carry row multipliers' d)
    good = rw is (reduced-within (gcd_of (take (suc n) rows)) (in_hand n m rows multipliers divisors) alive hand-within fit)

    set-divisors : (l : List ℕ) → 1 ≤ length l → Divisors l → Divisors (set l 0 d)
    set-divisors [] h g = g
    set-divisors (x ∷ l) h g = ((good.least, good.most), g.1)

    rest-same : (l : List ℕ) → drop 1 (set l 0 d) ≡ drop 1 l
    rest-same [] = refl
    rest-same (x ∷ l) = refl

    first-set : (l : List ℕ) → 1 ≤ length l → get_or (set l 0 d) 0 0 ≡ d
    first-set [] h = absurd (omega arith)
    first-set (x ∷ l) h = refl

    pub starts-reduced : Starts n m rows multipliers divisors (row ++ drop (suc n) rows) (multipliers' ++ drop m multipliers) (set divisors 0 d)
    starts-reduced = record {
      working = record {
        rows_long = simp (length-append, length-drop, length-set) (omega (arith, w.rows_long, rows-enough));
        multipliers_long = simp (length-append, length-drop, length-set) (omega (arith, w.multipliers_long, multipliers-enough));
        rows_within = bounded-append W row (drop (suc n) rows) ∙ and_both good.row (bounded-drop W (suc n) rows w.rows_within);
        multipliers_within = bounded-append W multipliers' (drop m multipliers) ∙ and_both good.multipliers (bounded-drop W m multipliers w.multipliers_within);
        divisors_good = set-divisors divisors some w.divisors_good;
      };
      some = rw (length-set divisors 0 d) some;
      many = length-set divisors 0 d;
      fits = fit;
      hand = rw (take_at row (drop (suc n) rows) (suc n) row-long, take_at multipliers' (drop m multipliers) m multipliers-long, first-set divisors some) is;
      later = rw (drop_at row (drop (suc n) rows) (suc n) row-long, drop_at multipliers' (drop m multipliers) m multipliers-long, rest-same divisors) refl;
    }

-- ---- the work goes on from the tables after (a)
module _ {n m : ℕ} {rows multipliers : List ℤ} {divisors : List ℕ} {rows' multipliers' : List ℤ} {divisors' : List ℕ}
    (z : Starts n m rows multipliers divisors rows' multipliers' divisors') (alive : gcd_of (take (suc n) rows) ≡ 0 → ⊥) (s : State) where
  hand' : Carried
  hand' = in_hand n m rows' multipliers' divisors'

  later' : List Carried
  later' = later_of n m rows' multipliers' divisors'

  goes_on : work all_within n (in_hand n m rows multipliers divisors) (later_of n m rows multipliers divisors) s ≡ from_b all_within n hand' later' s
  unfolding hand' later'
  goes_on =
      work-reduced n (in_hand n m rows multipliers divisors) (later_of n m rows multipliers divisors) s alive z.fits
      ∙ ap₂ (λ (e : Carried) (later : List Carried). from_b all_within n e later s) (sym z.hand) (sym z.later)

  -- the gcd of the coefficients after (a), from those before it
  pub left_is : gcd_of (take n rows) / gcd_of (take (suc n) rows) ≡ gcd_of (take n rows')
  unfolding hand'
  left_is =
      let g = gcd_of (take (suc n) rows) in
      let some : 0 < g = pos_of_ne-zero alive in
      sym
      (sym (coefficients-gcd n rows' (take m multipliers') (get_or divisors' 0 0)) ∙ ap (gcd_of_coefficients n) z.hand
      ∙ coefficients-left n (in_hand n m rows multipliers divisors) some
      ∙ ap (λ (c : ℕ). c / g) (coefficients-gcd n rows (take m multipliers) (get_or divisors 0 0)))

  pub goes-unmet : (c : ℕ) → c ≡ gcd_of (take n rows') → (c ≡ 1 → ⊥)
      → unmet (take m multipliers') (get_or divisors' 0 0 * c) s.steps ≡ work all_within n (in_hand n m rows multipliers divisors) (later_of n m rows multipliers divisors) s
  unfolding hand' later'
  goes-unmet c is other =
      let g : gcd_of_coefficients n hand' ≡ c = coefficients-gcd n rows' (take m multipliers') (get_or divisors' 0 0) ∙ sym is in
      ap (λ (x : ℕ). unmet (take m multipliers') (get_or divisors' 0 0 * x) s.steps) (sym g)
      ∙ sym (goes_on ∙ work-unmet n hand' later' s (λ e. other (sym g ∙ e)))

  pub goes-steps : gcd_of (take n rows') ≡ 1
      → steps_from n (in_hand n m rows' multipliers' divisors') (later_of n m rows' multipliers' divisors') s
      ≡ work all_within n (in_hand n m rows multipliers divisors) (later_of n m rows multipliers divisors) s
  unfolding hand' later'
  goes-steps one =
      let g : gcd_of_coefficients n hand' ≡ 1 = coefficients-gcd n rows' (take m multipliers') (get_or divisors' 0 0) ∙ one in
      sym (goes_on ∙ work-steps n hand' later' s g)
