-- What the first entry beyond the limit says of a table.
use mathlib.Core.Path.{◌≡◌, sym, ap, ◌∙◌}
use mathlib.Core.Bool.{Bool, true, false, cond}
use mathlib.Core.List.{List, [], ◌∷◌}
use Prim.Native.Nat.{ℕ, suc, ◌<◌, ◌≤◌}
use native.Mathlib.Omega.{arith}
use borrow.Author.Tests.{eq-eqb, ne_eqb}
use lib.ListN.{length}
use lib.IntN.{ℤ}
use Rattle.std.specs.Prelude.{Result, Ok, Err, Some, None}
use Rattle.whole.specs.Limit.{within}
use Rattle.rows.specs.Row.{all_within, first_beyond, found}
use Rattle.rows.proofs.Bounded.{bounded-first}
use Rattle.rules.specs.declared.Table.{Table}
use Rattle.rules.specs.declared.Refusal.{Refusal}
use Rattle.rules.specs.Outcomes.{bad_entry}
use Rattle.limits.specs.Checked.{table_checked}

pub one-bad : (table : List ℤ) → first_beyond table < length table → all_within table ≡ false
one-bad table h = bounded-first table ∙ ne_eqb (first_beyond table) (length table) (λ e. omega arith)

pub none-bad : (table : List ℤ) → first_beyond table ≡ length table → all_within table ≡ true
none-bad table e = bounded-first table ∙ eq-eqb (first_beyond table) (length table) e

-- the first entry beyond the limit is one of the table's, or its length says that there is none
pub beyond-le : (table : List ℤ) → first_beyond table ≤ length table
unfolding first_beyond
beyond-le [] = omega arith
beyond-le (a ∷ table) = go (within a) (beyond-le table)
  where
    go : (t : Bool) → first_beyond table ≤ length table → cond t (suc (first_beyond table)) 0 ≤ suc (length table)
    go true h = omega arith
    go false h = omega arith

-- what the search for the first entry beyond the limit tells, where it finds one and where it finds none
pub found-one : (table : List ℤ) (i : ℕ) → found (length table) (first_beyond table) ≡ Some i → (first_beyond table ≡ i) × (all_within table ≡ false)
found-one table i h =
    let place : first_beyond table ≡ i = grind (arith, h) in
    let inside : first_beyond table < length table = grind (arith, h) in
    (place, one-bad table inside)

pub found-none : (table : List ℤ) → found (length table) (first_beyond table) ≡ None → all_within table ≡ true
found-none table h =
    let past : length table ≤ first_beyond table = grind (arith, h) in
    none-bad table (omega (arith, past, beyond-le table))

module _ (width : ℕ) (which : Table) (table : List ℤ) where
  chosen : Bool → Result (Unit {0}) Refusal
  chosen b = elim b [ true ↦ Ok tt | false ↦ Err (bad_entry width which table) ]

  pub table-bad : all_within table ≡ false → Err (bad_entry width which table) ≡ table_checked width which table
  unfolding chosen
  table-bad h = sym (ap chosen h)

  pub table-good : all_within table ≡ true → Ok tt ≡ table_checked width which table
  unfolding chosen
  table-good h = sym (ap chosen h)
