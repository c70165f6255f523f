-- `print_matrices::put_minus_x` meets its contract: the numbers from column c on are left.
use lib.IntN.{pos, neg_ℤ}
use Rattle.print_numbers.proofs.Printing.{Left}
use Rattle.print_matrices.proofs.Columns.{unit_from}
use Rattle.print_matrices.proofs.put_minus_x.Given as goal

abbrev pub invariant-loop-c : goal.invariant-loop-c
invariant-loop-c l = Left l.initial.page l.page (unit_from l.n l.i (neg_ℤ (pos 1)) 0) (unit_from l.n l.i (neg_ℤ (pos 1)) l.c)
