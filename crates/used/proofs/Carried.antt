-- A row rests on an equation by its carrying columns alone.
use mathlib.Core.Bool.{Bool, true, false, not, ◌&&◌, ◌||◌, cond}
use mathlib.Core.Path.{◌≡◌, refl, sym, ap, ◌∙◌}
use mathlib.Core.List.{List, [], ◌∷◌}
use Prim.Native.Nat.{ℕ, zero, suc, ◌+◌, ◌*◌, ◌≤◌, ◌<◌}
use native.Mathlib.Numerals.{add-one}
use native.Mathlib.Omega.{arith}
use lib.Dec.{eqb}
use lib.IntN.{ℤ, pos, nat_abs}
use lib.ListN.{length, get_or, drop, drop_of_length-le}
use Rattle.rows.specs.Row.{at}
use Rattle.rows.specs.Table.{rows_of}
use Rattle.rows.proofs.Lists.{tail_at}
use Rattle.rules.specs.Inequalities.{rests_on}
use Rattle.used.specs.Carrying.{carries, carrying, among}
use Rattle.used.proofs.Reasons.{rests_from, rests-start, rests-none, rests-more}

-- ---- the columns that carry

pub carrying-none : (p : ℕ) (marks : List ℕ) (sums : List ℤ) → length marks ≤ p → carrying p (drop p marks) (drop p sums) ≡ []
unfolding carrying
carrying-none p marks sums h = rw (drop_of_length-le marks h) refl

pub carrying-more : (p : ℕ) (marks : List ℕ) (sums : List ℤ) → p < length marks → p < length sums
    → carrying p (drop p marks) (drop p sums)
    ≡ cond (carries (get_or marks p 0) (at sums p)) (p ∷ carrying (p + 1) (drop (p + 1) marks) (drop (p + 1) sums)) (carrying (p + 1) (drop (p + 1) marks) (drop (p + 1) sums))
unfolding carrying
carrying-more p marks sums h k = rw (tail_at marks p 0 h, tail_at sums p (pos 0) k, add-one p) refl

-- each of them is one of the columns
pub carrying-below : (p : ℕ) (marks : List ℕ) (sums : List ℤ) (i : ℕ) → i < length (carrying p marks sums) → get_or (carrying p marks sums) i 0 < p + length marks
unfolding carrying
carrying-below p [] sums i h = absurd (omega arith)
carrying-below p (mark ∷ marks) [] i h = absurd (omega arith)
carrying-below p (mark ∷ marks) (sum ∷ sums) i h = cases (λ i h. carrying-below (suc p) marks sums i h) (carries mark sum) i h
  where
    cases : ((i : ℕ) → i < length (carrying (suc p) marks sums) → get_or (carrying (suc p) marks sums) i 0 < suc p + length marks) → (t : Bool) (i : ℕ)
        → i < length (cond t (p ∷ carrying (suc p) marks sums) (carrying (suc p) marks sums))
        → get_or (cond t (p ∷ carrying (suc p) marks sums) (carrying (suc p) marks sums)) i 0 < p + suc (length marks)
    cases later true zero h = omega arith
    cases later true (suc i) h = let k = later i (omega arith) in omega (arith, k)
    cases later false i h = let k = later i h in omega (arith, k)

-- ---- the columns that decide

choose : (closed carried reason rest : Bool) (w j p : ℕ) (reasons : List ℤ) (columns : List ℕ)
    → reason ≡ not (eqb (nat_abs (at reasons (p * w + j))) 0) → rest ≡ among w j reasons columns
    → (closed && (carried && reason)) || rest ≡ among w j reasons (cond (closed && carried) (p ∷ columns) columns)
unfolding among
choose true true reason rest w j p reasons columns e f = rw (e, f) refl
choose true false reason rest w j p reasons columns e f = f
choose false carried reason rest w j p reasons columns e f = f

module _ (w j : ℕ) (marks : List ℕ) (reasons sums : List ℤ) (long : length sums ≡ suc (length marks)) (l : j < w) where
  from-column : (k p : ℕ) → p + k ≡ length marks → rests_from w j marks reasons sums p ≡ among w j reasons (carrying p (drop p marks) (drop p sums))
  unfolding among
  from-column zero p e =
      let past : length marks ≤ p = omega arith in
      rests-none w j marks reasons sums p past ∙ ap (among w j reasons) (sym (carrying-none p marks sums past))
  from-column (suc k) p e =
      let h : p < length marks = omega arith in
      rests-more w j marks reasons sums p h (omega (arith, long)) l
      ∙ choose (eqb (get_or marks p 0) 0) (not (eqb (nat_abs (at sums p)) 0)) _ _ w j p reasons _ refl (from-column k (p + 1) (omega arith))
      ∙ ap (among w j reasons) (sym (carrying-more p marks sums h (omega (arith, long))))

  pub rests-among : rests_on marks (rows_of w (length marks) reasons) sums j ≡ among w j reasons (carrying 0 marks sums)
  rests-among = sym (rests-start w j marks reasons sums) ∙ from-column (length marks) 0 (omega arith)

-- ---- one column after another

pub among-here : (w j : ℕ) (reasons : List ℤ) (columns : List ℕ) (i : ℕ) → i < length columns
    → among w j reasons (drop i columns) ≡ not (eqb (nat_abs (at reasons (get_or columns i 0 * w + j))) 0) || among w j reasons (drop (i + 1) columns)
unfolding among
among-here w j reasons columns i h = rw (tail_at columns i 0 h) refl
