-- `print_matrices::header_line` meets its contract: the two counts, and the end of the line.
use Rattle.matrix.specs.Printed.{decimal, header_line}
use Rattle.matrix.proofs.Spaced.{spaced-one}
use Rattle.print_numbers.proofs.Printing.{both}
use Rattle.print_matrices.proofs.header_line.Goals as goal

pub returns : goal.returns
unfolding header_line
returns c = both c.put_number.ensures (both (rw (spaced-one decimal c.args.columns) at c.put_field.ensures) c.put_byte.ensures)
