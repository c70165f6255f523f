-- The three answers of the looks for a conflict among the tightened rows, which do not depend on how many equations there are.
use mathlib.Core.Path.{◌≡◌, refl, sym, ap, ap₂, ◌∙◌}
use mathlib.Core.Bool.{Bool, true, false}
use mathlib.Core.List.{List}
use Prim.Native.Nat.{ℕ, zero, suc}
use native.Mathlib.Omega.{arith}
use borrow.Author.Tests.{eq-eqb, ne_eqb}
use lib.Dec.{eqb}
use lib.IntN.{ℤ}
use Rattle.std.specs.Prelude.{Option, Some, None}
use Rattle.looks.specs.declared.Pair.{Pair}
use Rattle.looks.specs.Found.{row_found, pair_found}
use Rattle.looks.proofs.FirstRows.{found-some, found-none}
use Rattle.rules.specs.declared.Outcome.{Outcome}
use Rattle.rules.specs.declared.Outcome.TheVariants.{Open, OneRowConflict, TwoRowConflict}
use Rattle.rules.specs.Inequalities.{first_row, alone, first_pair}
use Rattle.rules.specs.Outcomes.{looked_at}

-- what the answer of the second look tells of the pair
pair-some : (p : ℕ × ℕ) {r : Pair} → pair_found p ≡ Some r → (p.0 ≡ r.i) × (p.1 ≡ r.j) × (p.0 ≡ 0 → ⊥)
pair-some p {r} = go p.0
  where
    go : (a : ℕ) → ◌≡◌ {A = Option Pair} (elim a [ zero ↦ None | suc i ↦ Some (record { i = suc i; j = p.1 }) ]) (Some r)
        → (a ≡ r.i) × (p.1 ≡ r.j) × (a ≡ 0 → ⊥)
    go zero e = absurd (cc)
    go (suc i) e =
        let same : record { i = suc i; j = p.1 } ≡ r = cc in
        (ap (λ (x : Pair). x.i) same, ap (λ (x : Pair). x.j) same, λ z. omega arith)

pair-none : (p : ℕ × ℕ) → pair_found p ≡ None → p.0 ≡ 0
pair-none p = go p.0
  where
    go : (a : ℕ) → ◌≡◌ {A = Option Pair} (elim a [ zero ↦ None | suc i ↦ Some (record { i = suc i; j = p.1 }) ]) None → a ≡ 0
    go zero e = refl
    go (suc i) e = absurd (cc)

module _ (n k steps : ℕ) (rows : List (List ℤ)) where
  abbrev one : ℕ
  one = first_row (alone n) rows

  abbrev pair : ℕ × ℕ
  pair = first_pair n 1 rows

  -- by whether the first look finds none, and the second
  answered : Bool → Bool → Outcome
  answered none no_pair =
      elim none [
        | true ↦ elim no_pair [ true ↦ Open steps | false ↦ TwoRowConflict pair.0 pair.1 steps ]
        | false ↦ OneRowConflict one steps
      ]

  looked-by : (none no_pair : Bool) → eqb one 0 ≡ none → eqb pair.0 0 ≡ no_pair → answered none no_pair ≡ looked_at n 0 k steps rows
  unfolding answered looked_at
  looked-by none no_pair e h = sym (ap₂ answered e h)

  -- by what the looks answer
  pub looked-one : {i : ℕ} → row_found one ≡ Some i → OneRowConflict i steps ≡ looked_at n 0 k steps rows
  unfolding answered
  looked-one e =
      let f = found-some one e in
      ap (λ (i : ℕ). OneRowConflict i steps) (sym f.0) ∙ looked-by false (eqb pair.0 0) (ne_eqb one 0 f.1) refl

  module _ (none : row_found one ≡ None) where
    pub looked-two : {r : Pair} → pair_found pair ≡ Some r → TwoRowConflict r.i r.j steps ≡ looked_at n 0 k steps rows
    unfolding answered
    looked-two e =
        let f = pair-some pair e in
        ap₂ (λ (i j : ℕ). TwoRowConflict i j steps) (sym f.0) (sym f.1)
        ∙ looked-by true false (eq-eqb one 0 (found-none one none)) (ne_eqb pair.0 0 f.2)

    pub looked-open : pair_found pair ≡ None → Open steps ≡ looked_at n 0 k steps rows
    unfolding answered
    looked-open e = looked-by true true (eq-eqb one 0 (found-none one none)) (eq-eqb pair.0 0 (pair-none pair e))

  pub looked-same : (m : ℕ) → looked_at n 0 k steps rows ≡ looked_at n m k steps rows
  unfolding looked_at
  looked-same m = refl
