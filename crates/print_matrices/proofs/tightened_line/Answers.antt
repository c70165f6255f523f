-- `print_matrices::tightened_line` meets its contract: the mark, the row turned and the end of the line.
use Rattle.matrix.specs.Printed.{tightened_line, row_line, turned}
use Rattle.print_numbers.proofs.Printing.{both}
use Rattle.print_matrices.proofs.tightened_line.Goals as goal

pub returns : goal.returns
unfolding tightened_line row_line turned
returns c = both c.put_byte.ensures (both c.put_open.ensures c.put_byte-2.ensures)
