-- `print_names::names_of_row` meets its contract: the used equations between brackets, then the row.
use Rattle.matrix.specs.Printed.{names_of_row}
use Rattle.print_numbers.proofs.Printing.{both}
use Rattle.print_names.proofs.names_of_row.Goals as goal

pub returns : goal.returns
unfolding names_of_row
returns c = both c.put_byte.ensures (both c.used_names.ensures (both c.put_name.ensures c.put_bytes.ensures))
