-- The working tables and the result tables at the start show what the definitions start from, and are within the limit.
use mathlib.Core.Path.{◌≡◌, refl, sym, ap, ap₂, ◌∙◌}
use mathlib.Core.Bool.{true}
use mathlib.Core.List.{List, ◌∷◌, ◌++◌, map}
use Prim.Native.Nat.{ℕ, zero, suc, ◌+◌, ◌*◌, ◌≤◌}
use native.Mathlib.Nat.{suc-mul}
use native.Mathlib.Omega.{arith}
use lib.ListN.{length, take, drop, replicate, length-replicate, length-map, replicate-append-replicate}
use lib.Seq.{take_at, drop_at}
use lib.IntN.{ℤ, pos}
use Rattle.rows.specs.Row.{zeros, unit_row, all_within}
use Rattle.rows.specs.Table.{rows_of, flat}
use Rattle.rows.proofs.Algebra.{length-unit, units-wide}
use Rattle.rows.proofs.TableLaws.{rows_of-flat, length-flat}
use Rattle.rules.specs.Elimination.{Carried, counted, identity, start, carried, in_order, run, elimination}
use Rattle.rules.proofs.Lengths.{length-counted}
use Rattle.rules.proofs.RunWithin.{units-within}
use Rattle.steps.specs.Shown.{carried_of, Divisors}
use Rattle.stepping.specs.Worked.{state_of, Working3, Results4}

-- ---- unit rows in a table
abbrev pub unit_table : ℕ → ℕ → ℕ → List ℤ
unit_table w j count = flat (map (unit_row w) (counted j count))

units-rows : (w j count : ℕ) → rows_of w count (unit_table w j count) ≡ map (unit_row w) (counted j count)
units-rows w j count =
    ap (λ (k : ℕ). rows_of w k (unit_table w j count)) (sym (length-map (counted j count) (unit_row w) ∙ length-counted j count))
    ∙ rows_of-flat w (map (unit_row w) (counted j count)) (units-wide w (counted j count))

pub units-long : (w j count : ℕ) → length (unit_table w j count) ≡ count * w
units-long w j count =
    length-flat w (map (unit_row w) (counted j count)) (units-wide w (counted j count))
    ∙ ap (λ (k : ℕ). k * w) (length-map (counted j count) (unit_row w) ∙ length-counted j count)

-- ---- zeros in a table
zero-rows : (w count : ℕ) → rows_of w count (replicate (count * w) (pos 0)) ≡ replicate count (zeros w)
unfolding rows_of zeros
zero-rows w zero = refl
zero-rows w (suc count) =
    let e : suc count * w ≡ w + count * w = omega (arith, suc-mul count w) in
    let l : replicate (suc count * w) (pos 0) ≡ replicate w (pos 0) ++ replicate (count * w) (pos 0) =
    ap (λ (k : ℕ). replicate k (pos 0)) e ∙ sym (replicate-append-replicate w (count * w) (pos 0)) in
    ap₂ (λ (x : List ℤ) (y : List (List ℤ)). x ∷ y)
    (ap (take w) l ∙ take_at (replicate w (pos 0)) (replicate (count * w) (pos 0)) w (length-replicate w (pos 0)))
    (ap (λ (t : List ℤ). rows_of w count t) (ap (drop w) l ∙ drop_at (replicate w (pos 0)) (replicate (count * w) (pos 0)) w (length-replicate w (pos 0))) ∙ zero-rows w count)

-- ---- the start of the definitions
pub state-begun : (n m : ℕ) → state_of n m (flat (identity n)) (replicate n 1) (flat (identity n)) (replicate (n * suc m) (pos 0)) 0 ≡ start n m
unfolding start identity
state-begun n m =
    ap₂ (λ (x y : List (List ℤ)). record { substitution = x; way_back = x; marks = replicate n 1; reasons = y; steps = 0 })
    (units-rows (suc n) 0 n)
    (zero-rows (suc m) n)

pub carried-begun : (w m j count : ℕ) (rows : List ℤ) → carried_of w m rows (unit_table m j count) (replicate count 1) ≡ carried m j (rows_of w count rows)
unfolding carried_of carried rows_of counted flat
carried-begun w m j zero rows = refl
carried-begun w m j (suc count) rows =
    ap₂ (λ (x : List ℤ) (y : List Carried). record { row = take w rows; multipliers = x; divisor = 1 } ∷ y)
    (take_at (unit_row m j) (unit_table m (suc j) count) m (length-unit m j))
    (ap (λ (t : List ℤ). carried_of w m (drop w rows) t (replicate count 1)) (drop_at (unit_row m j) (unit_table m (suc j) count) m (length-unit m j)) ∙ carried-begun w m (suc j) count (drop w rows))

ones-good : (count : ℕ) → Divisors (replicate count 1)
ones-good zero = tt
ones-good (suc count) = ((omega arith, omega arith), ones-good count)

pub working-begun : (n m : ℕ) (equations : List ℤ) → length equations ≡ m * suc n → all_within equations ≡ true → Working3 n m equations (unit_table m 0 m) (replicate m 1)
working-begun n m equations long within = record {
  rows_long = long ∙ ap (λ (k : ℕ). k * suc n) (sym (length-replicate m 1));
  multipliers_long = units-long m 0 m ∙ ap (λ (k : ℕ). k * m) (sym (length-replicate m 1));
  rows_within = within;
  multipliers_within = units-within m 0 m;
  divisors_good = ones-good m;
}

pub results-begun : (n m : ℕ) → (1 ≤ n) × (n ≤ 32) × (m ≤ 32) → Results4 n m (flat (identity n)) (replicate n 1) (flat (identity n)) (replicate (n * suc m) (pos 0))
unfolding identity
results-begun n m small = record {
  small = small;
  substitution_long = units-long (suc n) 0 n;
  marks_long = length-replicate n 1;
  way_back_long = units-long (suc n) 0 n;
  reasons_long = length-replicate (n * suc m) (pos 0);
  substitution_within = units-within (suc n) 0 n;
  way_back_within = units-within (suc n) 0 n;
}

-- from these tables the rows in order are the run of the definitions
pub run-begun : (n m : ℕ) (equations : List ℤ)
    → in_order all_within n m 1 (carried_of (suc n) m equations (unit_table m 0 m) (replicate m 1))
    (state_of n m (flat (identity n)) (replicate n 1) (flat (identity n)) (replicate (n * suc m) (pos 0)) 0)
    ≡ elimination n m (rows_of (suc n) m equations)
unfolding elimination run
run-begun n m equations = ap₂ (in_order all_within n m 1) (carried-begun (suc n) m 0 m equations) (state-begun n m)

-- ---- the same of tables that are known to hold these numbers
module _ (n m : ℕ) (equations rows multipliers : List ℤ) (divisors : List ℕ) (rows_are : rows ≡ equations) (multipliers-are : multipliers ≡ unit_table m 0 m)
    (divisors-are : divisors ≡ replicate m 1) where
  pub working-from : length equations ≡ m * suc n → all_within equations ≡ true → Working3 n m rows multipliers divisors
  working-from long within = rw (rows_are, multipliers-are, divisors-are) (working-begun n m equations long within)

  module _ (substitution : List ℤ) (marks : List ℕ) (back reasons : List ℤ) (substitution-is : substitution ≡ flat (identity n)) (marks-are : marks ≡ replicate n 1)
      (back_is : back ≡ flat (identity n)) (reasons-are : reasons ≡ replicate (n * suc m) (pos 0)) where
    pub results-from : (1 ≤ n) × (n ≤ 32) × (m ≤ 32) → Results4 n m substitution marks back reasons
    results-from small = rw (substitution-is, marks-are, back_is, reasons-are) (results-begun n m small)

    pub run-from : in_order all_within n m 1 (carried_of (suc n) m rows multipliers divisors) (state_of n m substitution marks back reasons 0) ≡ elimination n m (rows_of (suc n) m equations)
    run-from = rw (rows_are, multipliers-are, divisors-are, substitution-is, marks-are, back_is, reasons-are) (run-begun n m equations)
