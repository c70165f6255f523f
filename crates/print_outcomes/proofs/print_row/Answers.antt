-- `print_outcomes::print_row` meets its contract: the word, then the names.
use Rattle.print_numbers.proofs.Printing.{both}
use Rattle.print_outcomes.proofs.print_row.Goals as goal

pub returns : goal.returns
returns c = both c.put_bytes.ensures (rw c.used_by.ensures at c.names_of_row.ensures)
