-- `print_names::names_of_rows` meets its contract: the used equations between brackets, then the two rows.
use Rattle.matrix.specs.Printed.{names_of_rows}
use Rattle.print_numbers.proofs.Printing.{both}
use Rattle.print_names.proofs.names_of_rows.Goals as goal

pub returns : goal.returns
unfolding names_of_rows
returns c =
    let second = both c.put_byte-2.ensures (both c.put_name-2.ensures c.put_bytes.ensures) in
    both c.put_byte.ensures (both c.used_names.ensures (both c.put_name.ensures second))
