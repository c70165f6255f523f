-- `print_outcomes::print_equations` meets its contract: the word, then the names.
use Rattle.print_numbers.proofs.Printing.{both}
use Rattle.print_outcomes.proofs.print_equations.Goals as goal

pub returns : goal.returns
returns c = both c.put_bytes.ensures c.names_of_multipliers.ensures
