-- What holds of the tables after `turn` has made a step: they are as good as before, and show the step that the definitions make.
use mathlib.Core.Path.{◌≡◌, sym, ap, ap₂, ◌∙◌}
use mathlib.Core.Bool.{true}
use mathlib.Core.List.{List, ◌++◌, map}
use Prim.Native.Nat.{ℕ, suc, ◌≤◌, ◌<◌}
use native.Mathlib.Omega.{arith}
use lib.ListN.{length, set, take}
use lib.Seq.{take-take, length-take-le}
use lib.IntN.{ℤ}
use Rattle.rows.specs.Row.{at, gcd_of, smallest, all_within}
use Rattle.rows.specs.Table.{rows_of, flat}
use Rattle.rows.proofs.Lists.{row-end}
use Rattle.rows.proofs.TableLaws.{flat-rows_of}
use Rattle.rules.specs.Elimination.{Carried, Step, step_of, put_in, put_into, way_back_row, stepped, listed_c}
use Rattle.rules.proofs.Within.{left-part, right-part, set-within}
use Rattle.rules.proofs.RowInHand.{gcd-kept}
use Rattle.steps.specs.Shown.{tried, later_of}
use Rattle.turning.specs.Turned.{Turned, turned, listed_turn, turned_tables, turn_of}
use Rattle.turning.proofs.TurnedStep.{step_is}
use Rattle.stepping.specs.Worked.{state_of, in_hand, Working3, Results4}
use Rattle.stepping.proofs.Turns.{tried-true, tried-made, listed-turned, hand-turned, later-turned}

-- the step that the first row of the table asks for
abbrev pub first_step : ℕ → List ℤ → Step
first_step n rows = step_of n (take (suc n) rows)

pub record Steps (n m : ℕ) (rows multipliers : List ℤ) (divisors : List ℕ) (substitution : List ℤ) (marks : List ℕ) (back reasons : List ℤ)
    (column : ℕ) (lead : ℤ) (rows' substitution' back' : List ℤ) : Type 0 where
  pub working : Working3 n m rows' multipliers divisors
  pub results : Results4 n m substitution' marks back' reasons
  pub alive : 0 < gcd_of (take n rows')
  pub column_is : column ≡ (first_step n rows).column
  pub lead_is : lead ≡ (first_step n rows).lead
  pub listed : (count : ℕ)
      → all_within (listed_c n (first_step n rows) (in_hand n m rows multipliers divisors) (later_of n m rows multipliers divisors) (state_of n m substitution marks back reasons count)) ≡ true
  pub hand : in_hand n m rows' multipliers divisors ≡ put_into (first_step n rows) (in_hand n m rows multipliers divisors)
  pub later : later_of n m rows' multipliers divisors ≡ map (put_into (first_step n rows)) (later_of n m rows multipliers divisors)
  pub state : (count : ℕ) → state_of n m substitution' marks back' reasons count ≡ stepped n (first_step n rows) (state_of n m substitution marks back reasons count)

module _ (n m : ℕ) (rows multipliers : List ℤ) (divisors : List ℕ) (substitution : List ℤ) (marks : List ℕ) (back reasons : List ℤ)
    (w : Working3 n m rows multipliers divisors) (r : Results4 n m substitution marks back reasons) (some : 1 ≤ length divisors)
    (live : 0 < gcd_of (take n rows)) where
  t : Step
  t = first_step n rows

  count : ℕ
  count = length divisors

  wanted : Turned
  unfolding t count
  wanted = turned n t (rows_of (suc n) count rows) (rows_of (suc n) n substitution) (rows_of (suc n) n back)

  numbers : List ℤ
  unfolding t count
  numbers = listed_turn n t (rows_of (suc n) count rows) (rows_of (suc n) n substitution) (rows_of (suc n) n back)

  module _ (k : ℕ) (found : k ≡ smallest (take n rows)) (inside : k ≤ n) (rows' substitution' back' : List ℤ)
      (rows_long : length rows' ≡ length rows) (substitution-long : length substitution' ≡ length substitution) (back_long : length back' ≡ length back)
      (e : tried true (turned_tables n (length divisors) rows' substitution' back') ≡ turn_of n (length divisors) rows substitution back) where
    shown : Turned
    shown = turned_tables n (length divisors) rows' substitution' back'

    fit : all_within numbers ≡ true
    unfolding numbers t count shown wanted
    fit = tried-true shown (all_within numbers) wanted e

    is : shown ≡ wanted
    unfolding wanted t count shown numbers
    is = tried-made shown (all_within numbers) wanted e

    rows_are : rows_of (suc n) (length divisors) rows' ≡ map (put_in (first_step n rows)) (rows_of (suc n) (length divisors) rows)
    unfolding wanted t count shown
    rows_are = ap (λ (x : Turned). x.rows) is

    substitution-is : rows_of (suc n) n substitution' ≡ map (put_in (first_step n rows)) (rows_of (suc n) n substitution)
    unfolding wanted t count shown
    substitution-is = ap (λ (x : Turned). x.substitution) is

    back_is : rows_of (suc n) n back' ≡ set (rows_of (suc n) n back) (first_step n rows).column (way_back_row n (first_step n rows) (rows_of (suc n) n back))
    unfolding wanted t count shown
    back_is = ap (λ (x : Turned). x.way_back) is

    -- the three parts of what was listed
    rest : List ℤ
    rest = flat (map (put_in (first_step n rows)) (rows_of (suc n) n substitution)) ++ way_back_row n (first_step n rows) (rows_of (suc n) n back)

    rows_fit : all_within rows' ≡ true
    unfolding numbers t count rest
    rows_fit =
        ap all_within (sym (flat-rows_of (suc n) (length divisors) rows' (rows_long ∙ w.rows_long)) ∙ ap flat rows_are)
        ∙ left-part (flat (map (put_in (first_step n rows)) (rows_of (suc n) (length divisors) rows))) rest fit

    rest-fit : all_within rest ≡ true
    unfolding numbers t count rest
    rest-fit = right-part (flat (map (put_in (first_step n rows)) (rows_of (suc n) (length divisors) rows))) rest fit

    substitution-fit : all_within substitution' ≡ true
    unfolding rest
    substitution-fit =
        ap all_within (sym (flat-rows_of (suc n) n substitution' (substitution-long ∙ r.substitution_long)) ∙ ap flat substitution-is)
        ∙ left-part (flat (map (put_in (first_step n rows)) (rows_of (suc n) n substitution))) (way_back_row n (first_step n rows) (rows_of (suc n) n back)) rest-fit

    back-fit : all_within back' ≡ true
    unfolding rest
    back-fit =
        ap all_within (sym (flat-rows_of (suc n) n back' (back_long ∙ r.way_back_long)) ∙ ap flat back_is)
        ∙ set-within (rows_of (suc n) n back) (first_step n rows).column (way_back_row n (first_step n rows) (rows_of (suc n) n back))
        (ap all_within (flat-rows_of (suc n) n back r.way_back_long) ∙ r.way_back_within)
        (right-part (flat (map (put_in (first_step n rows)) (rows_of (suc n) n substitution))) (way_back_row n (first_step n rows) (rows_of (suc n) n back)) rest-fit)

    -- the first row keeps the gcd of its coefficients
    first : take (suc n) rows' ≡ put_in (first_step n rows) (take (suc n) rows)
    unfolding put_into
    first = ap (λ (e : Carried). e.row) (hand-turned n m (first_step n rows) rows rows' multipliers divisors some rows_are)

    long : length (take (suc n) rows) ≡ suc n
    long = length-take-le (suc n) rows (omega (arith, w.rows_long, row-end (length divisors) (suc n) 0 some))

    coefficients : (l : List ℤ) → take n (take (suc n) l) ≡ take n l
    coefficients l = take-take n (suc n) l (omega arith)

    alive' : 0 < gcd_of (take n rows')
    alive' =
        let same : gcd_of (take n rows') ≡ gcd_of (take n rows) =
        ap gcd_of (sym (coefficients rows') ∙ ap (take n) first)
        ∙ gcd-kept n (take (suc n) rows) long (rw (coefficients rows) live)
        ∙ ap gcd_of (coefficients rows) in
        rw same live

    listed-fit : all_within (listed_turn n (first_step n rows) (rows_of (suc n) (length divisors) rows) (rows_of (suc n) n substitution) (rows_of (suc n) n back)) ≡ true
    unfolding numbers t count
    listed-fit = fit

    shows : (steps : ℕ) → state_of n m substitution' marks back' reasons steps ≡ stepped n (first_step n rows) (state_of n m substitution marks back reasons steps)
    unfolding stepped
    shows steps =
        ap₂ (λ (x y : List (List ℤ)). record { substitution = x; way_back = y; marks = marks; reasons = rows_of (suc m) n reasons; steps = steps })
        substitution-is
        back_is

    pub made-steps : Steps n m rows multipliers divisors substitution marks back reasons k (at rows k) rows' substitution' back'
    unfolding wanted t count shown
    made-steps = record {
      working = record { rows_long = rows_long ∙ w.rows_long; multipliers_long = w.multipliers_long; rows_within = rows_fit; multipliers_within = w.multipliers_within; divisors_good = w.divisors_good };
      results = record {
        small = r.small;
        substitution_long = substitution-long ∙ r.substitution_long;
        marks_long = r.marks_long;
        way_back_long = back_long ∙ r.way_back_long;
        reasons_long = r.reasons_long;
        substitution_within = substitution-fit;
        way_back_within = back-fit;
      };
      alive = alive';
      column_is = ap (λ (x : Step). x.column) (sym (step_is n k rows found inside));
      lead_is = ap (λ (x : Step). x.lead) (sym (step_is n k rows found inside));
      listed = λ steps. ap all_within (listed-turned n m (first_step n rows) rows multipliers divisors (state_of n m substitution marks back reasons steps) some) ∙ listed-fit;
      hand = hand-turned n m (first_step n rows) rows rows' multipliers divisors some rows_are;
      later = later-turned n m (first_step n rows) rows rows' multipliers divisors some rows_are;
      state = shows;
    }
