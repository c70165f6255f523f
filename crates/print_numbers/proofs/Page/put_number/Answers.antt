-- `put_number` meets its contract: 20 places.
use Rattle.matrix.specs.Printed.{decimal}
use Rattle.print_numbers.proofs.Page.put_number.Goals as goal

pub returns : goal.returns
unfolding decimal
returns c = c.put_digits.ensures
