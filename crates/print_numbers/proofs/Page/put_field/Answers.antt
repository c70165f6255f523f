-- `put_field` meets its contract: a space, then the count.
use Rattle.matrix.specs.Printed.{decimal}
use Rattle.matrix.proofs.Spaced.{spaced-one}
use Rattle.print_numbers.proofs.Printing.{both}
use Rattle.print_numbers.proofs.Page.put_field.Goals as goal

pub returns : goal.returns
returns c = rw (spaced-one decimal c.args.x) (both c.put_byte.ensures c.put_number.ensures)
