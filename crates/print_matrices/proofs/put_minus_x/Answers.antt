-- `print_matrices::put_minus_x` meets its contract: the numbers from column c on are left.
use lib.IntN.{pos, neg_ℤ}
use Rattle.matrix.specs.Printed.{turned}
use Rattle.print_numbers.proofs.Printing.{less_left, none_left}
use Rattle.print_matrices.proofs.Columns.{unit-here, unit-other, unit-none}
use Rattle.print_matrices.proofs.put_minus_x.Goals as goal
use Rattle.print_matrices.proofs.put_minus_x.Goals.{then-c-i, else-c-i}

pub loop-c-preserved : goal.loop-c-preserved
unfolding turned
loop-c-preserved c =
    let a = c.args in
    let l = c.loop-c in
    elim c.if-c-i.branch [
      | then-c-i w ↦
          less_left _ (unit-here a.n a.i (neg_ℤ (pos 1)) l.c c.loop-c-test.true w.if-c-i.true) l.invariant (rw w.z-is at c.put_spaced.ensures)
      | else-c-i w ↦
          less_left _ (unit-other a.n a.i (neg_ℤ (pos 1)) l.c c.loop-c-test.true w.if-c-i.false) l.invariant (rw w.z-is at c.put_spaced.ensures)
    ]

pub returns : goal.returns
returns c = none_left _ (unit-none c.args.n c.args.i (neg_ℤ (pos 1)) c.loop-c.c c.loop-c-test.false) c.loop-c.invariant
