-- A finished run and its inequalities: what the answer of the work on all rows tells, and the answer of the call that it leads to.
use mathlib.Core.Path.{◌≡◌, refl, sym, ap}
use mathlib.Core.Bool.{Bool, true, false, not}
use mathlib.Core.List.{List, map}
use Prim.Native.Nat.{ℕ, suc}
use borrow.Author.Tests.{eq-eqb, ne_eqb, eqb-true, eqb-false}
use lib.Dec.{eqb}
use lib.IntN.{ℤ}
use Rattle.std.specs.Prelude.{Ok, Err}
use Rattle.rows.specs.Row.{all_within}
use Rattle.rows.specs.Table.{rows_of}
use Rattle.rules.specs.declared.Outcome.TheVariants.{Refused}
use Rattle.rules.specs.declared.Refusal.TheVariants.{LargeSum}
use Rattle.rules.specs.Elimination.{State}
use Rattle.rules.specs.Inequalities.{sums, used_by, tightened_row, first_row}
use Rattle.rules.specs.Outcomes.{Answer, blank, all_filled, looked_at, with_inequalities}
use Rattle.inequalities.specs.Worked.{all_worked, first_large, rows_shown, rows_worked}

module _ (n m k : ℕ) (s : State) (inequalities : List (List ℤ)) where
  -- the sums, the first row with one beyond the limit, the rows tightened, and the sets that they use
  abbrev all : List (List ℤ)
  all = map (sums n s.substitution) inequalities

  abbrev pub bad : ℕ
  bad = first_row (λ row. not (all_within row)) all

  abbrev pub rows : List (List ℤ)
  rows = map (tightened_row n s) inequalities

  abbrev sets : List ℕ
  sets = map (used_by m s) all

  -- ---- what the answer tells
  pub record Told (tightened : List ℤ) (used : List ℕ) : Type 0 where
    pub none : bad ≡ 0
    pub made : rows_of (suc n) k tightened ≡ rows
    pub noted : used ≡ sets

  pub worked-all : (tightened : List ℤ) (used : List ℕ) → rows_shown n k (Ok tt) tightened used ≡ rows_worked n m s inequalities → Told tightened used
  worked-all tightened used = go (eqb bad 0) refl
    where
      go : (b : Bool) → eqb bad 0 ≡ b
          → all_worked (rows_of (suc n) k tightened) used ≡ elim b [ true ↦ all_worked rows sets | false ↦ first_large bad ] → Told tightened used
      go true e h = record { none = eqb-true bad 0 e; made = cc; noted = cc }
      go false e h = absurd (cc)

  pub worked-large : (found : ℕ) (tightened : List ℤ) (used : List ℕ)
      → rows_shown n k (Err found) tightened used ≡ rows_worked n m s inequalities → (found ≡ bad) × (bad ≡ 0 → ⊥)
  worked-large found tightened used = go (eqb bad 0) refl
    where
      go : (b : Bool) → eqb bad 0 ≡ b → first_large found ≡ elim b [ true ↦ all_worked rows sets | false ↦ first_large bad ]
          → (found ≡ bad) × (bad ≡ 0 → ⊥)
      go true e h = absurd (cc)
      go false e h = (cc, eqb-false bad 0 e)

  -- ---- the answer of the call
  answered : Bool → Answer
  answered none =
      elim none [
        | true ↦ record { outcome = looked_at n m k s.steps rows; results = all_filled n m k s rows sets }
        | false ↦ record { outcome = Refused (LargeSum bad); results = blank n m k }
      ]

  answered-by : (none : Bool) → eqb bad 0 ≡ none → answered none ≡ with_inequalities n m k inequalities s
  unfolding with_inequalities answered
  answered-by none e = sym (ap answered e)

  pub after-all : bad ≡ 0
      → record { outcome = looked_at n m k s.steps rows; results = all_filled n m k s rows sets } ≡ with_inequalities n m k inequalities s
  unfolding answered
  after-all e = answered-by true (eq-eqb bad 0 e)

  pub after-large : (bad ≡ 0 → ⊥) → record { outcome = Refused (LargeSum bad); results = blank n m k } ≡ with_inequalities n m k inequalities s
  unfolding answered
  after-large some = answered-by false (ne_eqb bad 0 some)
