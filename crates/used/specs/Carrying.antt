-- The columns whose reasons count for an inequality.
use Rattle.std.specs.Prelude.{Bool, false, not, ◌&&◌, ◌||◌, cond, List, [], ◌∷◌, ℕ, suc, ◌+◌, ◌*◌, eqb, ℤ, nat_abs}
use Rattle.rows.specs.Row.{at}

-- closed, with a sum that is not 0
abbrev pub carries : ℕ → ℤ → Bool
carries mark sum = eqb mark 0 && not (eqb (nat_abs sum) 0)

-- those of the columns from p on
unfoldable pub carrying : ℕ → List ℕ → List ℤ → List ℕ
carrying p [] sums = []
carrying p (mark ∷ marks) [] = []
carrying p (mark ∷ marks) (sum ∷ sums) = cond (carries mark sum) (p ∷ carrying (suc p) marks sums) (carrying (suc p) marks sums)

-- whether one of these columns has equation j in its reason, in a flat table with rows of this width
unfoldable pub among : ℕ → ℕ → List ℤ → List ℕ → Bool
among w j reasons [] = false
among w j reasons (p ∷ columns) = not (eqb (nat_abs (at reasons (p * w + j))) 0) || among w j reasons columns
