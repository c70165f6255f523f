-- `print_matrices::put_open` meets its contract: the open columns from column c on are left.
use lib.ListN.{length}
use Rattle.print_numbers.proofs.Printing.{Left}
use Rattle.print_matrices.proofs.Columns.{open_from}
use Rattle.print_matrices.proofs.put_open.Given as goal

abbrev pub invariant-loop-mark : goal.invariant-loop-mark
invariant-loop-mark l = Left l.initial.page l.page (open_from l.opposite l.marks l.row 0) (open_from l.opposite l.marks l.row (length l.yielded))
