-- "A listed number outside -W..W is refusal 4." The run without a limit, and the numbers that it lists, in the order in which they are
-- made.
use Rattle.std.specs.Prelude.{◌≡◌, Bool, eqb, take, ℤ, nat_abs}
use Rattle.std.proofs.Math.Bool.{true, false}
use mathlib.Core.List.{List, [], ◌∷◌, ◌++◌, map}
use Prim.Native.Nat.{ℕ, zero, suc}
use Rattle.rows.specs.Row.{at, gcd_of, smallest, all_within, bounded}
use Rattle.rows.specs.Table.{flat}
use Rattle.rules.specs.Elimination.{State, Carried, step_of, put_into, stepped, one_more, reason_of, reduced, gcd_of_coefficients, step_bound}
use Rattle.rules.specs.Elimination.{listed_a, listed_c, listed_d, work, passed, unmet, large, Ended, too_large, carried, start}

-- no number is too large
abbrev pub no_limit : List ℤ → Bool
no_limit numbers = true

-- numbers listed together, and the steps completed before them
pub record Group : Type 0 where
  pub steps : ℕ
  pub numbers : List ℤ

module _ (n : ℕ) where
  -- those of (c) and (d), step by step
  unfoldable pub listed_stepping : ℕ → Carried → List Carried → State → List Group
  unfolding step_of put_into stepped one_more reason_of listed_c listed_d flat
  listed_stepping zero e later s = []
  listed_stepping (suc most) e later s =
      let t = step_of n e.row in
      record { steps = s.steps; numbers = listed_c n t e later s }
      ∷ elim (eqb (nat_abs t.lead) 1) [
        | true ↦
            record { steps = s.steps; numbers = flat (map (listed_d t.column e.divisor (reason_of t (put_into t e))) (map (put_into t) later)) }
            ∷ []
        | false ↦ listed_stepping most (put_into t e) (map (put_into t) later) (one_more (stepped n t s))
      ]

  -- those of (a), and then of the steps
  unfoldable pub listed_work : Carried → List Carried → State → List Group
  unfolding gcd_of reduced gcd_of_coefficients step_bound smallest listed_a listed_stepping
  listed_work e later s =
      let g = gcd_of e.row in
      let e' = reduced g e in
      elim (eqb g 0) [
        | true ↦ []
        | false ↦
            record { steps = s.steps; numbers = listed_a g e }
            ∷ elim (eqb (gcd_of_coefficients n e') 1) [
              | true ↦ listed_stepping (step_bound (nat_abs (at e'.row (smallest (take n e'.row))))) e' later s
              | false ↦ []
            ]
      ]

-- those of all rows, each group with the row in hand, while the run without a limit goes on
unfoldable pub listed_rows : ℕ → ℕ → ℕ → List Carried → State → List (ℕ × Group)
unfolding listed_work work
listed_rows n zero j rows s = []
listed_rows n (suc left) j [] s = []
listed_rows n (suc left) j (e ∷ later) s =
    map (λ group. (j, group)) (listed_work n e later s)
    ++ elim (work no_limit n e later s) [
      | passed later' s' ↦ listed_rows n left (suc j) later' s'
      | unmet multipliers d steps ↦ []
      | large steps ↦ []
    ]

unfoldable pub listed_run : ℕ → ℕ → List (List ℤ) → List (ℕ × Group)
unfolding listed_rows carried start
listed_run n m equations = listed_rows n m 1 (carried m 0 equations) (start n m)

-- the answer of the run without a limit, unless a group has a number beyond it: then the first such group's row and steps
unfoldable pub limited : List (ℕ × Group) → Ended → Ended
unfolding bounded
limited [] ended = ended
limited (group ∷ groups) ended = elim (all_within group.1.numbers) [ true ↦ limited groups ended | false ↦ too_large group.0 group.1.steps ]

-- the first group with a number beyond the limit is that of this row, after so many steps
pub data FirstLarge (row steps : ℕ) : List (ℕ × Group) → Type 0 where
  here : {numbers : List ℤ} {groups : List (ℕ × Group)}
      → all_within numbers ≡ false → FirstLarge row steps ((row, record { steps = steps; numbers = numbers }) ∷ groups)
  later : {group : ℕ × Group} {groups : List (ℕ × Group)}
      → all_within group.1.numbers ≡ true → FirstLarge row steps groups → FirstLarge row steps (group ∷ groups)
