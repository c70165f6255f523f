-- The checker says yes exactly where it takes its input and the multipliers and D refute the equations. That "means no whole numbers
-- satisfy the equations, whoever made the multipliers".
use mathlib.Core.Path.{◌≡◌, refl, ap, ◌∙◌}
use mathlib.Core.Logic.{◌↔◌}
use mathlib.Core.Bool.{Bool, true, false, ◌&&◌}
use mathlib.Core.List.{List, [], ◌∷◌}
use Prim.Native.Nat.{ℕ, suc, ◌*◌}
use native.Mathlib.Omega.{arith}
use borrow.Author.Tests.{eqb-true, eq-eqb}
use lib.Dec.{eqb}
use lib.ListN.{length, take}
use lib.IntN.{ℤ, nat_abs}
use Rattle.rows.specs.Row.{at, all_within, first_beyond}
use Rattle.rows.specs.Table.{rows_of}
use Rattle.rows.proofs.Bounded.{and_left, and_right, and_both}
use Rattle.rows.proofs.TableLaws.{wide-rows_of}
use Rattle.rules.specs.declared.Refusal.{Refusal}
use Rattle.rules.specs.declared.Refusal.TheVariants.{OutOfRange, WrongLength, BadEntry}
use Rattle.std.specs.Prelude.{Result, Ok, Err}
use Rattle.rules.specs.declared.Table.TheVariants.{Equations, Multipliers}
use Rattle.rules.specs.Numbers.{kind, of_verdict}
use Rattle.rules.specs.Outcomes.{in_range, bad_entry}
use Rattle.rules.specs.Checker.{refutes, good_d, judged, check}
use Rattle.promises.specs.Solutions.{Unsolvable}
use Rattle.promises.specs.Verdicts.{Checkable}
use Rattle.promises.proofs.Chosen.{chosen}
use Rattle.promises.proofs.Checked.{checked}

answered : Bool → Result Bool Refusal
answered b = Ok b

-- a refusal is no yes
no-yes : {A : Type 0} {refusal : List ℕ} → 4 ∷ refusal ≡ 1 ∷ [] → A
no-yes e = let z : ◌≡◌ {A = ℕ} 4 1 = ap kind e in let bad : ⊥ = omega arith in absurd bad

module _ (n m : ℕ) (equations table : List ℤ) where
  abbrev long : Bool
  long = eqb (length equations) (m * suc n) && eqb (length table) (suc m)

  abbrev refuted : Bool
  refuted = refutes n (take m table) (nat_abs (at table m)) (rows_of (suc n) m equations)

  -- every test is passed
  passed : of_verdict (check n m equations table) ≡ 1 ∷ []
      → (in_range n m 0 ≡ true) × (long ≡ true) × (all_within equations ≡ true) × (all_within (take m table) ≡ true) × (good_d (at table m) ≡ true)
      × (refuted ≡ true)
  unfolding check judged of_verdict
  passed = go (in_range n m 0) long (all_within equations) (all_within (take m table)) (good_d (at table m)) refuted
    where
      go : (a b c d e f : Bool)
          → of_verdict (elim a [
            | true ↦ elim b [
              | true ↦ elim c [
                | true ↦ elim d [
                  | true ↦ elim e [ true ↦ Ok f | false ↦ Err (BadEntry Multipliers 1 (suc m)) ]
                  | false ↦ Err (BadEntry Multipliers 1 (suc (first_beyond (take m table))))
                ]
                | false ↦ Err (bad_entry (suc n) Equations equations)
              ]
              | false ↦ Err WrongLength
            ]
            | false ↦ Err OutOfRange
          ])
          ≡ 1 ∷ []
          → (a ≡ true) × (b ≡ true) × (c ≡ true) × (d ≡ true) × (e ≡ true) × (f ≡ true)
      go true true true true true true y = (refl, refl, refl, refl, refl, refl)
      go true true true true true false y = let z : ◌≡◌ {A = ℕ} 0 1 = ap kind y in let bad : ⊥ = omega arith in absurd bad
      go true true true true false f y = no-yes y
      go true true true false e f y = no-yes y
      go true true false d e f y = no-yes y
      go true false c d e f y = no-yes y
      go false b c d e f y = no-yes y

  pub yes-exactly : (of_verdict (check n m equations table) ≡ 1 ∷ [])
      ↔ (Checkable n m equations table × (refutes n (take m table) (nat_abs (at table m)) (rows_of (suc n) m equations) ≡ true))
  unfolding check judged of_verdict answered
  yes-exactly = (
    λ y.
        let (range, lengths, entries, multipliers, d, refuted) = passed y in (
          record {
            range = range;
            lengths = (
              eqb-true (length equations) (m * suc n) (and_left (eqb (length equations) (m * suc n)) (eqb (length table) (suc m)) lengths),
              eqb-true (length table) (suc m) (and_right (eqb (length equations) (m * suc n)) (eqb (length table) (suc m)) lengths),
            );
            entries = entries;
            multipliers = multipliers;
            d = d;
          },
          refuted,
        ),
    λ h.
        let c = h.0 in
        ap of_verdict
        (chosen _ _ c.range
        ∙ chosen _ _ (and_both (eq-eqb (length equations) (m * suc n) c.lengths.0) (eq-eqb (length table) (suc m) c.lengths.1))
        ∙ chosen _ _ c.entries ∙ chosen _ _ c.multipliers ∙ chosen _ _ c.d ∙ ap answered h.1),
  )

  pub yes-means : of_verdict (check n m equations table) ≡ 1 ∷ [] → Unsolvable n (rows_of (suc n) m equations)
  yes-means y =
      let (c, refuted) = yes-exactly.0 y in
      checked n (take m table) (nat_abs (at table m)) (rows_of (suc n) m equations) (wide-rows_of (suc n) m equations c.lengths.0) refuted
