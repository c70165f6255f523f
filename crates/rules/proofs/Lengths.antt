-- How long what the rules make is.
use mathlib.Core.Path.{◌≡◌, refl, ap}
use mathlib.Core.List.{List, [], ◌∷◌}
use Prim.Native.Nat.{ℕ, zero, suc}
use lib.ListN.{length}
use lib.IntN.{ℤ}
use Rattle.rows.specs.Row.{at}
use Rattle.rows.proofs.Algebra.{length-less}
use Rattle.rules.specs.Elimination.{Step, counted, put_in}
use Rattle.rules.specs.Inequalities.{only_open}

pub length-counted : (i count : ℕ) → length (counted i count) ≡ count
unfolding counted
length-counted i zero = refl
length-counted i (suc count) = ap suc (length-counted (suc i) count)

pub length-put_in : (t : Step) (row : List ℤ) → length (put_in t row) ≡ length row
unfolding put_in
length-put_in t row = length-less row (at row t.column) t.quotients

pub length-only_open : (marks : List ℕ) (row : List ℤ) → length (only_open marks row) ≡ length row
unfolding only_open
length-only_open [] row = refl
length-only_open (mark ∷ marks) [] = refl
length-only_open (mark ∷ marks) (a ∷ row) = ap suc (length-only_open marks row)
