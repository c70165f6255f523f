-- The cases of `check`, and what the answers of the checks before them tell.
use mathlib.Core.Path.{◌≡◌, refl, sym, ap, ap₂, ◌∙◌}
use mathlib.Core.Bool.{Bool, true, false, ◌&&◌}
use mathlib.Core.List.{List}
use Prim.Native.Nat.{ℕ, suc, ◌*◌, ◌≤◌}
use borrow.Author.Tests.{leb-true, eq-eqb, ne_eqb}
use lib.Dec.{eqb, leb}
use lib.ListN.{length}
use lib.IntN.{ℤ}
use Rattle.rows.specs.Row.{all_within}
use Rattle.rows.proofs.Bounded.{and_left, and_right}
use Rattle.rules.specs.declared.Refusal.{Refusal}
use Rattle.rules.specs.declared.Refusal.TheVariants.{OutOfRange, WrongLength}
use Rattle.std.specs.Prelude.{Result, Ok, Err}
use Rattle.rules.specs.declared.Table.{Table}
use Rattle.rules.specs.declared.Table.TheVariants.{Equations}
use Rattle.rules.specs.Outcomes.{in_range, bad_entry}
use Rattle.rules.specs.Checker.{judged, check}
use Rattle.limits.specs.Checked.{table_checked}
use Rattle.checker.proofs.Judged.{Verdict, pick}

-- ---- the numbers that are in range
pub record InRange (n m : ℕ) : Type 0 where
  pub some : 1 ≤ n
  pub few : n ≤ 32
  pub rows : m ≤ 32

pub in-range : (n m : ℕ) → in_range n m 0 ≡ true → InRange n m
unfolding in_range
in-range n m e =
    let variables = and_left (leb 1 n && leb n 32) _ e in
    record {
      some = leb-true 1 n (and_left (leb 1 n) (leb n 32) variables);
      few = leb-true n 32 (and_right (leb 1 n) (leb n 32) variables);
      rows = leb-true m 32 (and_left (leb m 32) (leb 0 64) (and_right (leb 1 n && leb n 32) (leb m 32 && leb 0 64) e));
    }

-- ---- what the check of a table answers tells of its entries
abbrev answer : Bool → Refusal → Result (Unit {0}) Refusal
answer b x = elim b [ true ↦ Ok tt | false ↦ Err x ]

answer-good : (b : Bool) (x : Refusal) → Ok tt ≡ answer b x → b ≡ true
answer-good true x e = refl
answer-good false x e = cc

answer-bad : (b : Bool) (x r : Refusal) → Err r ≡ answer b x → (b ≡ false) × (r ≡ x)
answer-bad true x r e = (cc, cc)
answer-bad false x r e = (refl, cc)

-- ---- the cases, in the order of the checks
module _ (n m : ℕ) (equations table : List ℤ) where
  of_entries : Bool → Verdict
  of_entries b = pick b (judged n m equations table) (Err (bad_entry (suc n) Equations equations))

  of_lengths : Bool → Bool → Verdict
  unfolding of_entries
  of_lengths a b = pick (a && b) (of_entries (all_within equations)) (Err WrongLength)

  of_range : Bool → Verdict
  unfolding of_lengths
  of_range b = pick b (of_lengths (eqb (length equations) (m * suc n)) (eqb (length table) (suc m))) (Err OutOfRange)

  check-is : check n m equations table ≡ of_range (in_range n m 0)
  unfolding check of_range of_lengths of_entries
  check-is = refl

  pub out_of_range : in_range n m 0 ≡ false → Err OutOfRange ≡ check n m equations table
  unfolding of_range
  out_of_range h = sym (check-is ∙ ap of_range h)

  module _ (range : in_range n m 0 ≡ true) where
    past-range : check n m equations table ≡ of_lengths (eqb (length equations) (m * suc n)) (eqb (length table) (suc m))
    unfolding of_range
    past-range = check-is ∙ ap of_range range

    pub equations-wrong : (length equations ≡ m * suc n → ⊥) → Err WrongLength ≡ check n m equations table
    unfolding of_lengths
    equations-wrong h = sym (past-range ∙ ap (λ (a : Bool). of_lengths a (eqb (length table) (suc m))) (ne_eqb (length equations) (m * suc n) h))

    module _ (long : length equations ≡ m * suc n) where
      pub table-wrong : (length table ≡ suc m → ⊥) → Err WrongLength ≡ check n m equations table
      unfolding of_lengths
      table-wrong h = sym (past-range ∙ ap₂ of_lengths (eq-eqb (length equations) (m * suc n) long) (ne_eqb (length table) (suc m) h))

      module _ (last : length table ≡ suc m) where
        past-lengths : check n m equations table ≡ of_entries (all_within equations)
        unfolding of_lengths
        past-lengths = past-range ∙ ap₂ of_lengths (eq-eqb (length equations) (m * suc n) long) (eq-eqb (length table) (suc m) last)

        pub entry-bad : (refusal : Refusal) → Err refusal ≡ table_checked (suc n) Equations equations → Err refusal ≡ check n m equations table
        unfolding of_entries
        entry-bad refusal e =
            let told = answer-bad (all_within equations) (bad_entry (suc n) Equations equations) refusal e in
            ap Err told.1 ∙ sym (past-lengths ∙ ap of_entries told.0)

        pub entries-good : all_within equations ≡ true → judged n m equations table ≡ check n m equations table
        unfolding of_entries
        entries-good h = sym (past-lengths ∙ ap of_entries h)

-- a table that is good is within the limit
pub good-within : (width : ℕ) (which : Table) (table : List ℤ) → Ok tt ≡ table_checked width which table → all_within table ≡ true
good-within width which table e = answer-good (all_within table) (bad_entry width which table) e
