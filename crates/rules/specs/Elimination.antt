-- Document 01, "The elimination run". Columns count from 0 here; a row in a field counts from 1.
use Rattle.std.specs.Prelude.{Bool, List, [], ◌∷◌, ◌++◌, map, eqb, leb, get_or, set, take, replicate, ℤ, pos, nat_abs, ◌*ℤ◌}
use Rattle.std.proofs.Math.Bool.{true, false}
use Prim.Native.Nat.{ℕ, zero, suc, ◌*◌, ◌-◌, ◌/◌}
use Rattle.whole.specs.Gcd.{gcd}
use Rattle.whole.specs.BitLength.{bit_length}
use Rattle.rows.specs.Row.{at, less, zeros, unit_row, scaled, gathered, gcd_of, smallest, quotients, divided, bounded, all_within}
use Rattle.rows.specs.Table.{flat}

-- ---- "Start: x_i = y_i, the way back is y_i = x_i, all columns open, steps 0."

pub record State : Type 0 where
  pub substitution : List (List ℤ)
  pub way_back : List (List ℤ)
  pub marks : List ℕ
  pub reasons : List (List ℤ)
  pub steps : ℕ

-- "Equation j carries multipliers (1 for itself, else 0) and divisor d = 1."
pub record Carried : Type 0 where
  pub row : List ℤ
  pub multipliers : List ℤ
  pub divisor : ℕ

-- the numbers from i on, as many as are named
unfoldable pub counted : ℕ → ℕ → List ℕ
counted i zero = []
counted i (suc more) = i ∷ counted (suc i) more

unfoldable pub identity : ℕ → List (List ℤ)
unfolding counted unit_row
identity n = map (unit_row (suc n)) (counted 0 n)

unfoldable pub start : ℕ → ℕ → State
unfolding identity zeros
start n m = record {
  substitution = identity n;
  way_back = identity n;
  marks = replicate n 1;
  reasons = replicate n (zeros (suc m));
  steps = 0;
}

unfoldable pub carried : ℕ → ℕ → List (List ℤ) → List Carried
unfolding unit_row
carried m j [] = []
carried m j (row ∷ rows) = record { row = row; multipliers = unit_row m j; divisor = 1 } ∷ carried m (suc j) rows

-- ---- (a) "If g >= 2, divide the row by g, multiply d by g, then bring the multipliers and d to lowest terms together."

-- what the multipliers and d have in common
unfoldable pub shared : List ℤ → ℕ → ℕ
unfolding gcd gcd_of
shared multipliers d = gcd (gcd_of multipliers) d

unfoldable pub lowest_terms : Carried → Carried
unfolding shared divided
lowest_terms e =
    let g = shared e.multipliers e.divisor in
    record { row = e.row; multipliers = divided (pos g) e.multipliers; divisor = e.divisor / g }

unfoldable pub by_gcd : ℕ → Carried → Carried
unfolding divided
by_gcd g e = record { row = divided (pos g) e.row; multipliers = e.multipliers; divisor = e.divisor * g }

unfoldable pub reduced : ℕ → Carried → Carried
unfolding lowest_terms by_gcd
reduced g e = elim (leb 2 g) [ true ↦ lowest_terms (by_gcd g e) | false ↦ e ]

-- ---- (b) "Let g be the gcd of its coefficients (0 if all are zero)."

unfoldable pub gcd_of_coefficients : ℕ → Carried → ℕ
unfolding gcd_of
gcd_of_coefficients n e = gcd_of (take n e.row)

-- ---- (c) "Let a be the non-zero coefficient of smallest absolute value, lowest column k on a tie. Divide every other coefficient
-- and the constant by a": the quotient at k is 0, the last is q_c.

pub record Step : Type 0 where
  pub column : ℕ
  pub lead : ℤ
  pub quotients : List ℤ

unfoldable pub step_of : ℕ → List ℤ → Step
unfolding smallest quotients
step_of n row =
    let k = smallest (take n row) in
    record { column = k; lead = at row k; quotients = set (quotients (at row k) row) k (pos 0) }

-- "the old y_k becomes y_k - sum q_i y_i - q_c .. This is put into the row, all later rows and the substitution."
unfoldable pub put_in : Step → List ℤ → List ℤ
unfolding less
put_in t row = less row (at row t.column) t.quotients

unfoldable pub put_into : Step → Carried → Carried
unfolding put_in
put_into t e = record { row = put_in t e.row; multipliers = e.multipliers; divisor = e.divisor }

-- "Way back: row k becomes row k + sum q_i·row i + q_c."
unfoldable pub way_back_row : ℕ → Step → List (List ℤ) → List ℤ
unfolding gathered unit_row
way_back_row n t rows = gathered (get_or rows t.column []) t.quotients (rows ++ unit_row (suc n) n ∷ [])

unfoldable pub stepped : ℕ → Step → State → State
unfolding put_in way_back_row
stepped n t s = record {
  substitution = map (put_in t) s.substitution;
  way_back = set s.way_back t.column (way_back_row n t s.way_back);
  marks = s.marks;
  reasons = s.reasons;
  steps = s.steps;
}

-- ---- (d) "If |a| = 1, column k is closed: with s the sign of a, the reason of k is s times the row's multipliers, and d."

unfoldable pub reason_of : Step → Carried → List ℤ
unfolding scaled
reason_of t e = scaled t.lead e.multipliers

-- "With e = gcd(d_h, d), f = b·(d_h/e), its multipliers become (d/e)·m_h - f·(reason of k), its divisor d_h·(d/e)"
unfoldable pub factor : ℕ → ℕ → Carried → ℤ
unfolding gcd
factor k d h = at h.row k *ℤ pos (h.divisor / gcd h.divisor d)

unfoldable pub lost : ℕ → ℕ → List ℤ → Carried → Carried
unfolding gcd factor less scaled
lost k d reason h =
    let share = d / gcd h.divisor d in
    record { row = set h.row k (pos 0); multipliers = less (scaled (pos share) h.multipliers) (factor k d h) reason; divisor = h.divisor * share }

-- "Each later row h with a non-zero coefficient b at k loses it (the multipliers and divisor of a row with zero there are not touched)."
unfoldable pub corrected : ℕ → ℕ → List ℤ → Carried → Carried
unfolding lost lowest_terms
corrected k d reason h = elim (eqb (nat_abs (at h.row k)) 0) [ true ↦ h | false ↦ lowest_terms (lost k d reason h) ]

unfoldable pub closed : ℕ → ℕ → List ℤ → State → State
closed k d reason s = record {
  substitution = s.substitution;
  way_back = s.way_back;
  marks = set s.marks k 0;
  reasons = set s.reasons k (reason ++ pos d ∷ []);
  steps = s.steps;
}

-- "the step counts"
unfoldable pub one_more : State → State
one_more s = record { substitution = s.substitution; way_back = s.way_back; marks = s.marks; reasons = s.reasons; steps = suc s.steps }

-- ---- "The listed numbers are: every new entry of a row, of the substitution and of the way back; each multiplier and divisor made
-- in (a) or (d), before and after lowest terms; and each f."

unfoldable pub numbers_of : Carried → List ℤ
numbers_of e = e.row ++ (e.multipliers ++ pos e.divisor ∷ [])

unfoldable pub listed_a : ℕ → Carried → List ℤ
unfolding numbers_of lowest_terms by_gcd
listed_a g e = elim (leb 2 g) [ true ↦ numbers_of (by_gcd g e) ++ numbers_of (lowest_terms (by_gcd g e)) | false ↦ [] ]

unfoldable pub listed_c : ℕ → Step → Carried → List Carried → State → List ℤ
unfolding put_into put_in way_back_row flat
listed_c n t e later s =
    (put_into t e).row
    ++ (flat (map (λ h. (put_into t h).row) later) ++ (flat (map (put_in t) s.substitution) ++ way_back_row n t s.way_back))

unfoldable pub listed_d : ℕ → ℕ → List ℤ → Carried → List ℤ
unfolding numbers_of lowest_terms lost factor
listed_d k d reason h =
    elim (eqb (nat_abs (at h.row k)) 0) [
      | true ↦ []
      | false ↦ factor k d h ∷ (numbers_of (lost k d reason h) ++ numbers_of (lowest_terms (lost k d reason h)))
    ]

-- ---- The work on one row, with the rows behind it: passed, a conflict with its multipliers and D, or a listed number too large.

pub data Worked : Type 0 where
  passed : List Carried → State → Worked
  unmet : List ℤ → ℕ → ℕ → Worked
  large : ℕ → Worked

-- "The steps spent on one row are at most twice the bit length of that number, less one"
unfoldable pub step_bound : ℕ → ℕ
unfolding bit_length
step_bound least = 2 * bit_length least - 1

-- `fits` tests the listed numbers of a step: `all_within` in the run of document 01
module _ (fits : List ℤ → Bool) (n : ℕ) where
  -- (d) where |a| = 1, on the rows and the state that (c) made
  unfoldable pub closing : Step → Carried → List Carried → State → Worked
  unfolding reason_of listed_d corrected closed one_more flat
  closing t e later s =
      let reason = reason_of t e in
      elim (fits (flat (map (listed_d t.column e.divisor reason) later))) [
        | true ↦ passed (map (corrected t.column e.divisor reason) later) (one_more (closed t.column e.divisor reason s))
        | false ↦ large s.steps
      ]

  -- (c) and (d), again and again, for at most the steps of the bound
  unfoldable pub stepping : ℕ → Carried → List Carried → State → Worked
  unfolding step_of put_into stepped listed_c closing one_more
  stepping zero e later s = large s.steps
  stepping (suc most) e later s =
      let t = step_of n e.row in
      elim (fits (listed_c n t e later s)) [
        | true ↦ elim (eqb (nat_abs t.lead) 1) [
          | true ↦ closing t (put_into t e) (map (put_into t) later) (stepped n t s)
          | false ↦ stepping most (put_into t e) (map (put_into t) later) (one_more (stepped n t s))
        ]
        | false ↦ large s.steps
      ]

  -- "If g is not 1: equation conflict, with the row's multipliers and D = d·g."
  unfoldable pub from_b : Carried → List Carried → State → Worked
  unfolding gcd_of_coefficients stepping step_bound smallest
  from_b e later s =
      let g = gcd_of_coefficients n e in
      elim (eqb g 1) [
        | true ↦ stepping (step_bound (nat_abs (at e.row (smallest (take n e.row))))) e later s
        | false ↦ unmet e.multipliers (e.divisor * g) s.steps
      ]

  -- "Let g be the gcd of all its n+1 numbers. If g = 0 the row is done."
  unfoldable pub work : Carried → List Carried → State → Worked
  unfolding gcd_of listed_a reduced from_b
  work e later s =
      let g = gcd_of e.row in
      elim (eqb g 0) [
        | true ↦ passed later s
        | false ↦ elim (fits (listed_a g e)) [ true ↦ from_b (reduced g e) later s | false ↦ large s.steps ]
      ]

-- ---- "Rows are taken in order, 1 to m." j is the number of the row in hand.

pub data Ended : Type 0 where
  finished : State → Ended
  conflicting : ℕ → List ℤ → ℕ → ℕ → Ended
  too_large : ℕ → ℕ → Ended

unfoldable pub in_order : (List ℤ → Bool) → ℕ → ℕ → ℕ → List Carried → State → Ended
unfolding work
in_order fits n zero j rows s = finished s
in_order fits n (suc left) j [] s = finished s
in_order fits n (suc left) j (e ∷ later) s =
    elim (work fits n e later s) [
      | passed later' s' ↦ in_order fits n left (suc j) later' s'
      | unmet multipliers d steps ↦ conflicting j multipliers d steps
      | large steps ↦ too_large j steps
    ]

unfoldable pub run : (List ℤ → Bool) → ℕ → ℕ → List (List ℤ) → Ended
unfolding in_order carried start
run fits n m equations = in_order fits n m 1 (carried m 0 equations) (start n m)

-- "A listed number outside -W..W is refusal 4."
unfoldable pub elimination : ℕ → ℕ → List (List ℤ) → Ended
unfolding run bounded
elimination n m equations = run all_within n m equations
