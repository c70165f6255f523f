-- Refusal 4 is given exactly when a listed number passes the limit: the run is the run without a limit, cut off at the first group of
-- listed numbers that has one beyond it.
use mathlib.Core.Path.{◌≡◌, refl, sym, ap, ap₂, ◌∙◌}
use mathlib.Core.Bool.{Bool, true, false}
use mathlib.Core.List.{List, [], ◌∷◌, ◌++◌, map}
use Prim.Native.Nat.{ℕ, zero, suc, ◌*◌}
use lib.Dec.{eqb}
use lib.ListN.{take}
use lib.IntN.{ℤ, nat_abs}
use Rattle.rows.specs.Row.{at, gcd_of, smallest, all_within}
use Rattle.rows.specs.Table.{flat}
use Rattle.rules.specs.Elimination.{State, Carried, Step, Worked, passed, unmet, large, Ended, conflicting, too_large}
use Rattle.rules.specs.Elimination.{step_of, put_into, stepped, one_more, reason_of, reduced, gcd_of_coefficients, step_bound, listed_a, listed_c, listed_d}
use Rattle.rules.specs.Elimination.{closing, stepping, from_b, work, in_order, run, elimination, carried, start}
use Rattle.promises.specs.Listed.{no_limit, Group, listed_stepping, listed_work, listed_rows, listed_run, limited}

-- the work on one row, cut off in the same way
cut : List Group → Worked → Worked
cut [] worked = worked
cut (group ∷ groups) worked = elim (all_within group.numbers) [ true ↦ cut groups worked | false ↦ large group.steps ]

-- what is made where the numbers fit, else too large
abbrev unless : Bool → Worked → ℕ → Worked
unless fit worked steps = elim fit [ true ↦ worked | false ↦ large steps ]

module _ (n : ℕ) where
  stepping-cut : (most : ℕ) (e : Carried) (later : List Carried) (s : State)
      → stepping all_within n most e later s ≡ cut (listed_stepping n most e later s) (stepping no_limit n most e later s)
  unfolding stepping listed_stepping closing stepped cut
  stepping-cut zero e later s = refl
  stepping-cut (suc most) e later s =
      go (all_within (listed_c n t e later s)) (eqb (nat_abs t.lead) 1) (stepping-cut most e' later' (one_more s'))
    where
      t : Step
      t = step_of n e.row

      e' : Carried
      e' = put_into t e

      later' : List Carried
      later' = map (put_into t) later

      s' : State
      s' = stepped n t s

      -- what follows where all numbers of (c) fit, by whether the column closes
      next : (List ℤ → Bool) → Bool → Worked
      next fits closes = elim closes [ true ↦ closing fits n t e' later' s' | false ↦ stepping fits n most e' later' (one_more s') ]

      groups : Bool → List Group
      groups closes =
          elim closes [
            | true ↦ record { steps = s.steps; numbers = flat (map (listed_d t.column e.divisor (reason_of t e')) later') } ∷ []
            | false ↦ listed_stepping n most e' later' (one_more s')
          ]

      go : (fit closes : Bool)
          → stepping all_within n most e' later' (one_more s')
          ≡ cut (listed_stepping n most e' later' (one_more s')) (stepping no_limit n most e' later' (one_more s'))
          → unless fit (next all_within closes) s.steps ≡ unless fit (cut (groups closes) (next no_limit closes)) s.steps
      go true true again = refl
      go true false again = again
      go false closes again = refl

  work-cut : (e : Carried) (later : List Carried) (s : State)
      → work all_within n e later s ≡ cut (listed_work n e later s) (work no_limit n e later s)
  unfolding work listed_work from_b cut
  work-cut e later s = go (eqb g 0) (all_within (listed_a g e)) (eqb (gcd_of_coefficients n e') 1) (stepping-cut most e' later s) ∙ pull (eqb g 0)
    where
      g : ℕ
      g = gcd_of e.row

      e' : Carried
      e' = reduced g e

      most : ℕ
      most = step_bound (nat_abs (at e'.row (smallest (take n e'.row))))

      -- what follows where all numbers of (a) fit, by whether the coefficients' gcd is 1
      next : (List ℤ → Bool) → Bool → Worked
      next fits one = elim one [ true ↦ stepping fits n most e' later s | false ↦ unmet e'.multipliers (e'.divisor * gcd_of_coefficients n e') s.steps ]

      groups : Bool → List Group
      groups one = elim one [ true ↦ listed_stepping n most e' later s | false ↦ [] ]

      go : (none fit one : Bool) → stepping all_within n most e' later s ≡ cut (listed_stepping n most e' later s) (stepping no_limit n most e' later s)
          → ◌≡◌ {A = Worked} (elim none [ true ↦ passed later s | false ↦ unless fit (next all_within one) s.steps ])
          (elim none [ true ↦ passed later s | false ↦ unless fit (cut (groups one) (next no_limit one)) s.steps ])
      go true fit one again = refl
      go false true true again = again
      go false true false again = refl
      go false false one again = refl

      -- a row that is done lists nothing
      pull : (none : Bool) → let one = eqb (gcd_of_coefficients n e') 1 in
          ◌≡◌ {A = Worked}
          (elim none [ true ↦ passed later s | false ↦ unless (all_within (listed_a g e)) (cut (groups one) (next no_limit one)) s.steps ])
          (cut (elim none [ true ↦ [] | false ↦ record { steps = s.steps; numbers = listed_a g e } ∷ groups one ])
          (elim none [ true ↦ passed later s | false ↦ next no_limit one ]))
      pull true = refl
      pull false = refl

-- ---- all rows

module _ (n left j : ℕ) where
  -- what follows the work on row j
  after : (List ℤ → Bool) → Worked → Ended
  after fits (passed later s) = in_order fits n left (suc j) later s
  after fits (unmet multipliers d steps) = conflicting j multipliers d steps
  after fits (large steps) = too_large j steps

  groups_after : Worked → List (ℕ × Group)
  groups_after (passed later s) = listed_rows n left (suc j) later s
  groups_after (unmet multipliers d steps) = []
  groups_after (large steps) = []

  -- the definitions say the same by an `elim`
  is-after : (fits : List ℤ → Bool) (worked : Worked)
      → elim worked as (λ x. Ended) [
        | passed later s ↦ in_order fits n left (suc j) later s
        | unmet multipliers d steps ↦ conflicting j multipliers d steps
        | large steps ↦ too_large j steps
      ]
      ≡ after fits worked
  unfolding after
  is-after fits (passed later s) = refl
  is-after fits (unmet multipliers d steps) = refl
  is-after fits (large steps) = refl

  is-groups : (worked : Worked)
      → elim worked as (λ x. List (ℕ × Group)) [
        | passed later s ↦ listed_rows n left (suc j) later s
        | unmet multipliers d steps ↦ []
        | large steps ↦ []
      ]
      ≡ groups_after worked
  unfolding groups_after
  is-groups (passed later s) = refl
  is-groups (unmet multipliers d steps) = refl
  is-groups (large steps) = refl

  -- a row's groups first, then those of the rows behind it
  rows_cut : ((later : List Carried) (s : State)
      → in_order all_within n left (suc j) later s ≡ limited (listed_rows n left (suc j) later s) (in_order no_limit n left (suc j) later s))
      → (groups : List Group) (worked : Worked)
      → after all_within (cut groups worked) ≡ limited (map (λ group. (j, group)) groups ++ groups_after worked) (after no_limit worked)
  unfolding after groups_after cut limited
  rows_cut again [] (passed later s) = again later s
  rows_cut again [] (unmet multipliers d steps) = refl
  rows_cut again [] (large steps) = refl
  rows_cut again (group ∷ groups) worked = go (all_within group.numbers) (rows_cut again groups worked)
    where
      rest : Ended
      rest = limited (map (λ g. (j, g)) groups ++ groups_after worked) (after no_limit worked)

      go : (fit : Bool) → after all_within (cut groups worked) ≡ rest
          → after all_within (unless fit (cut groups worked) group.steps) ≡ elim fit as (λ x. Ended) [ true ↦ rest | false ↦ too_large j group.steps ]
      go true e = e
      go false e = refl

  in_order-more : (fits : List ℤ → Bool) (e : Carried) (later : List Carried) (s : State)
      → in_order fits n (suc left) j (e ∷ later) s ≡ after fits (work fits n e later s)
  unfolding in_order
  in_order-more fits e later s = is-after fits (work fits n e later s)

  listed_rows-more : (e : Carried) (later : List Carried) (s : State)
      → listed_rows n (suc left) j (e ∷ later) s ≡ map (λ group. (j, group)) (listed_work n e later s) ++ groups_after (work no_limit n e later s)
  unfolding listed_rows
  listed_rows-more e later s = ap (λ groups. map (λ group. (j, group)) (listed_work n e later s) ++ groups) (is-groups (work no_limit n e later s))

-- where no row is left, nothing is listed
no_row : (n j : ℕ) (rows : List Carried) (s : State)
    → in_order all_within n zero j rows s ≡ limited (listed_rows n zero j rows s) (in_order no_limit n zero j rows s)
unfolding in_order listed_rows limited
no_row n j rows s = refl

no_more : (n left j : ℕ) (s : State)
    → in_order all_within n (suc left) j [] s ≡ limited (listed_rows n (suc left) j [] s) (in_order no_limit n (suc left) j [] s)
unfolding in_order listed_rows limited
no_more n left j s = refl

in_order-limited : (n left j : ℕ) (rows : List Carried) (s : State)
    → in_order all_within n left j rows s ≡ limited (listed_rows n left j rows s) (in_order no_limit n left j rows s)
in_order-limited n zero j rows s = no_row n j rows s
in_order-limited n (suc left) j [] s = no_more n left j s
in_order-limited n (suc left) j (e ∷ later) s =
    in_order-more n left j all_within e later s
    ∙ ap (after n left j all_within) (work-cut n e later s)
    ∙ rows_cut n left j (in_order-limited n left (suc j)) (listed_work n e later s) (work no_limit n e later s)
    ∙ ap₂ limited (sym (listed_rows-more n left j e later s)) (sym (in_order-more n left j no_limit e later s))

-- "A listed number outside -W..W is refusal 4."
pub too_large_lem : (n m : ℕ) (equations : List (List ℤ)) → elimination n m equations ≡ limited (listed_run n m equations) (run no_limit n m equations)
unfolding elimination run listed_run
too_large_lem n m equations = in_order-limited n m 1 (carried m 0 equations) (start n m)
