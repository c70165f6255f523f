-- `print_errors::put_listed` meets its contract: behind the number each turn prints one field more.
use lib.ListN.{take}
use Rattle.matrix.specs.Printed.{spaced_fields}
use Rattle.print_numbers.specs.Shown.{Prints}
use Rattle.print_errors.proofs.put_listed.Given as goal

abbrev pub invariant-loop-field : goal.invariant-loop-field
invariant-loop-field l = Prints l.initial.page l.page (spaced_fields (take l.field-index l.fields))
