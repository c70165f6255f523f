-- `print_outcomes::print_rows` meets its contract: the word, then the names.
use Rattle.print_numbers.proofs.Printing.{both}
use Rattle.print_outcomes.proofs.print_rows.Goals as goal

pub returns : goal.returns
returns c = both c.put_bytes.ensures (rw (c.used_by.ensures, c.used_by-2.ensures) at c.names_of_rows.ensures)
