-- One inequality worked into its row, and a loop that works one after the other up to the first with a sum beyond the limit.
use mathlib.Core.Path.{◌≡◌, refl, sym, ap, ap₂, ◌∙◌}
use mathlib.Core.Bool.{Bool, true, false, not}
use mathlib.Core.List.{List, ◌∷◌, map}
use Prim.Native.Nat.{ℕ, suc, ◌+◌, ◌*◌, ◌≤◌, ◌<◌}
use native.Mathlib.Omega.{arith}
use borrow.Author.Tests.{ne_eqb}
use lib.Dec.{eqb}
use lib.ListN.{length, set, take, replicate, length-set, length-replicate}
use lib.IntN.{ℤ, pos}
use Rattle.std.specs.Prelude.{Ok}
use Rattle.rows.specs.Row.{at, zeros, all_within}
use Rattle.rows.specs.Table.{rows_of, row_at, set_row}
use Rattle.rows.proofs.Sweep.{Swept, swept-start, swept_step, swept-end}
use Rattle.rows.proofs.Algebra.{length-gathered}
use Rattle.rows.proofs.TableLaws.{length-rows_of, length-set_row, rows_of-set_row}
use Rattle.tables.proofs.Rowed.{rows_from, rows_start, rows_more}
use Rattle.rules.specs.Elimination.{State}
use Rattle.rules.specs.Inequalities.{sums, used_by, tightened_row, first_row}
use Rattle.inequalities.specs.Worked.{RowWorked, worked, large, RowsWorked, all_worked, first_large, row_worked, rows_shown, rows_worked}
use Rattle.looks.proofs.FirstRows.{rows_none, first-map, Passed, passed_start, passed_here, passed-next, passed_none}

-- ---- one row
pub length-sums : (n : ℕ) (substitution : List (List ℤ)) (row : List ℤ) → length (sums n substitution row) ≡ suc n
unfolding sums zeros
length-sums n substitution row =
    length-gathered (set (replicate (suc n) (pos 0)) n (at row n)) (take n row) substitution
    ∙ length-set (replicate (suc n) (pos 0)) n (at row n) ∙ length-replicate (suc n) (pos 0)

-- a row is worked where all its sums are within the limit, and an answer that shows it so tells each of the parts
abbrev shown : Bool → List ℤ → ℕ → RowWorked
shown fits row x = elim fits [ true ↦ worked row x | false ↦ large ]

shown-worked : (fits : Bool) (row r : List ℤ) (x y : ℕ) → worked r y ≡ shown fits row x → (fits ≡ true) × (r ≡ row) × (y ≡ x)
shown-worked true row r x y e = (refl, cc, cc)
shown-worked false row r x y e = absurd (cc)

shown-large : (fits : Bool) (row : List ℤ) (x : ℕ) → large ≡ shown fits row x → fits ≡ false
shown-large true row x e = absurd (cc)
shown-large false row x e = refl

module _ (n m : ℕ) (s : State) (row : List ℤ) where
  abbrev all : List ℤ
  all = sums n s.substitution row

  pub row-worked : {made : List ℤ} {x : ℕ} → all_within all ≡ true → made ≡ tightened_row n s row → x ≡ used_by m s all → worked made x ≡ row_worked n m s row
  row-worked e f g = ap₂ worked f g ∙ ap (λ (b : Bool). shown b (tightened_row n s row) (used_by m s all)) (sym e)

  pub row-large : all_within all ≡ false → large ≡ row_worked n m s row
  row-large e = ap (λ (b : Bool). shown b (tightened_row n s row) (used_by m s all)) (sym e)

-- ---- all rows
-- what an answer shows of them: the tables count only where no row is too large
abbrev told : RowsWorked → ℕ → RowsWorked
told made bad = elim (eqb bad 0) [ true ↦ made | false ↦ first_large bad ]

told-large : (made : RowsWorked) (bad : ℕ) → (bad ≡ 0 → ⊥) → told made bad ≡ first_large bad
told-large made bad h = ap (λ (b : Bool). elim b [ true ↦ made | false ↦ first_large bad ]) (ne_eqb bad 0 h)

module _ (n m k : ℕ) (s : State) (t : List ℤ) where
  abbrev rows : List (List ℤ)
  rows = rows_of (suc n) k t

  -- what becomes of rows, the sets that they use, and whether a row is beyond the limit
  abbrev made : List (List ℤ) → List (List ℤ)
  made l = map (tightened_row n s) l

  abbrev sets : List (List ℤ) → List ℕ
  sets l = map (used_by m s) (map (sums n s.substitution) l)

  abbrev beyond : List ℤ → Bool
  beyond row = not (all_within (sums n s.substitution row))

  -- the first i rows are worked and within the limit, and the others are as at first
  pub record Done (tightened₀ : List ℤ) (used₀ : List ℕ) (tightened : List ℤ) (used : List ℕ) (i : ℕ) : Type 0 where
    pub long : length tightened ≡ k * suc n
    pub sweep : Swept (rows_of (suc n) k tightened₀) (rows_of (suc n) k tightened) (made rows) i (made (rows_from (suc n) k i t))
    pub noted : Swept used₀ used (sets rows) i (sets (rows_from (suc n) k i t))
    pub fits : Passed beyond (suc n) k t i

  pub done-start : {tightened₀ : List ℤ} {used₀ : List ℕ} → length tightened₀ ≡ k * suc n → Done tightened₀ used₀ tightened₀ used₀ 0
  done-start {tightened₀} {used₀} h =
      record {
        long = h;
        sweep = rw (rows_start (suc n) k t) (swept-start (rows_of (suc n) k tightened₀) (made rows));
        noted = rw (rows_start (suc n) k t) (swept-start used₀ (sets rows));
        fits = passed_start beyond (suc n) k t;
      }

  module _ {tightened₀ : List ℤ} {used₀ : List ℕ} {tightened : List ℤ} {used : List ℕ} {i : ℕ} (d : Done tightened₀ used₀ tightened used i) where
    abbrev bad : ℕ
    bad = first_row (λ row. not (all_within row)) (map (sums n s.substitution) rows)

    abbrev goal : RowsWorked
    goal = all_worked (made rows) (sets rows)

    bad-is : bad ≡ first_row beyond rows
    bad-is = first-map (λ row. not (all_within row)) (sums n s.substitution) rows

    -- one row more is worked
    pub done-step : {row : List ℤ} {x : ℕ} → i < k → length used₀ ≡ k → length row ≡ suc n → worked row x ≡ row_worked n m s (row_at (suc n) i t)
        → Done tightened₀ used₀ (set_row (suc n) i row tightened) (set used i x) (i + 1)
    done-step {row} {x} h l w e =
        let this = row_at (suc n) i t in
        let later = rows_from (suc n) k (i + 1) t in
        let more = rows_more (suc n) k i t h in
        let a = sums n s.substitution this in
        let right = shown-worked (all_within a) (tightened_row n s this) row (used_by m s a) x e in
        record {
          long = length-set_row (suc n) k i tightened h d.long row w;
          sweep =
              rw (rows_of-set_row (suc n) k i tightened row h d.long w)
              (swept_step row (made later) (omega (arith, length-rows_of (suc n) k tightened)) (ap made more ∙ ap (λ (r : List ℤ). r ∷ made later) (sym right.1)) d.sweep);
          noted = swept_step x (sets later) (omega (arith, d.noted.len)) (ap sets more ∙ ap (λ (y : ℕ). y ∷ sets later) (sym right.2)) d.noted;
          fits = passed-next beyond (suc n) k t i h (ap not right.0) d.fits;
        }

    -- the next row is too large: its number is the answer, whatever the tables hold
    pub done-large : i < k → large ≡ row_worked n m s (row_at (suc n) i t) → first_large (i + 1) ≡ rows_worked n m s rows
    done-large h e =
        let this = row_at (suc n) i t in
        let a = sums n s.substitution this in
        let out = shown-large (all_within a) (tightened_row n s this) (used_by m s a) e in
        let found = passed_here beyond (suc n) k t i h (ap not out) d.fits ∙ sym bad-is in
        sym (told-large goal (i + 1) (λ z. omega arith)) ∙ ap (told goal) found

    -- no row is left
    pub done_end : k ≤ i → length used₀ ≡ k → rows_shown n k (Ok tt) tightened used ≡ rows_worked n m s rows
    done_end h l =
        let none = rows_none (suc n) k i t h in
        let tables = swept-end (omega (arith, length-rows_of (suc n) k tightened)) (ap made none) d.sweep in
        let notes = swept-end (omega (arith, d.noted.len)) (ap sets none) d.noted in
        ap₂ all_worked tables notes ∙ ap (told goal) (passed_none beyond (suc n) k t i h d.fits ∙ sym bad-is)
