-- `looks::are_against` meets its contract: each of its three tests is one of the definition's.
use mathlib.Core.Path.{◌≡◌, sym, ap, ◌∙◌}
use mathlib.Core.Bool.{not}
use Prim.Native.Nat.{ℕ, ◌≤◌}
use lib.Dec.{eqb}
use lib.IntN.{ℤ, nat_abs, ◌+ℤ◌}
use mir.Syntax.{w64}
use mir.Val.{to_z, of_z, SFits}
use mir.Facts.{to_z-of_z}
use Rattle.whole.specs.Limit.{W}
use Rattle.whole.proofs.Bounds.{bounds, sfits-by}
use Rattle.rows.specs.Row.{at}
use Rattle.rows.proofs.Bounded.{bounded_at, bounded-take}
use Rattle.rules.specs.Inequalities.{positive}
use Rattle.looks.proofs.Conflicts.{against-low, against-unlike, against-by}
use Rattle.looks.proofs.are_against.Goals.{Start, then-row-n-gt0, else-row-n-gt0}
use Rattle.looks.proofs.are_against.Goals as goal

-- the two constants, and that what the code reads is their sum
abbrev row_c : Start → ℤ
row_c s = at s.args.row.now s.args.n

abbrev other_c : Start → ℤ
other_c s = at s.args.other.now s.args.n

read : (s : Start) → let a = row_c s in let b = other_c s in
    SFits w64 (to_z w64 (of_z w64 a) +ℤ to_z w64 (of_z w64 b)) × (to_z w64 (of_z w64 (to_z w64 (of_z w64 a) +ℤ to_z w64 (of_z w64 b))) ≡ a +ℤ b)
read s =
    let a : nat_abs (row_c s) ≤ W = bounded_at W s.args.row.now s.args.n s.requires.2 in
    let b : nat_abs (other_c s) ≤ W = bounded_at W s.args.other.now s.args.n s.requires.3 in
    let e : SFits w64 (row_c s) = sfits-by (search bounds) tt in
    let f : SFits w64 (other_c s) = sfits-by (search bounds) tt in
    let fits : SFits w64 (row_c s +ℤ other_c s) = sfits-by (search bounds) tt in
    rw (to_z-of_z e, to_z-of_z f) (fits, to_z-of_z fits)

pub overflow_add-row : goal.overflow_add-row
overflow_add-row c = (read (goal.at.overflow_add-row c).Start).0

pub opposites-requires : goal.opposites-requires
opposites-requires c = (bounded-take W c.args.n c.args.row.now c.requires.2, bounded-take W c.args.n c.args.other.now c.requires.3)

pub gcd_of-requires : goal.gcd_of-requires
gcd_of-requires c = bounded-take W c.args.n c.args.row.now c.requires.2

pub returns-then-opposites : goal.returns-then-opposites
returns-then-opposites c =
    let a = c.args in
    let sum = (read (goal.at.returns-then-opposites c).Start).1 in
    elim c.if-row-n-gt0.branch [
      | then-row-n-gt0 w ↦
          ap (λ (g : ℕ). not (eqb g 0)) c.gcd_of.ensures
          ∙ sym (against-by a.n a.row.now a.other.now (sym w.opposites.ensures ∙ sym w.value-is ∙ c.if-opposites.true) (sym (ap positive sum) ∙ w.if-row-n-gt0.true))
      | else-row-n-gt0 w ↦ cc
    ]

pub returns-else-opposites : goal.returns-else-opposites
returns-else-opposites c =
    let a = c.args in
    let sum = (read (goal.at.returns-else-opposites c).Start).1 in
    c.if-opposites.false
    ∙ sym (elim c.if-row-n-gt0.branch [
      | then-row-n-gt0 w ↦ against-unlike a.n a.row.now a.other.now (sym w.opposites.ensures ∙ sym w.value-is ∙ c.if-opposites.false)
      | else-row-n-gt0 w ↦ against-low a.n a.row.now a.other.now (sym (ap positive sum) ∙ w.if-row-n-gt0.false)
    ])
