-- `print_errors::put_error` meets its contract: the text before the refusal, what it carries, and the text behind.
use Rattle.matrix.specs.Printed.{error}
use Rattle.print_numbers.proofs.Printing.{both}
use Rattle.print_errors.proofs.put_error.Goals as goal

pub returns : goal.returns
unfolding error
returns c =
    let carried = rw (c.as_slice.ensures.value, c.from-carried.ensures) at c.put_listed.ensures in
    both c.put_bytes.ensures (both carried c.put_bytes-2.ensures)
