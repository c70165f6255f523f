-- `print_names::put_name` meets its contract: the letter, then the number.
use Rattle.print_numbers.proofs.Printing.{both}
use Rattle.print_names.proofs.put_name.Goals as goal

pub returns : goal.returns
returns c = both c.put_byte.ensures c.put_number.ensures
