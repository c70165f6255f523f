-- `print_names::names_of_multipliers` meets its contract: the names from equation i + 1 on are left.
use Rattle.matrix.specs.Printed.{open_bracket}
use Rattle.print_numbers.proofs.Printing.{Left}
use Rattle.print_names.proofs.NamesAhead.{multiplied_from}
use Rattle.print_names.proofs.names_of_multipliers.Given as goal

abbrev pub invariant-loop-i : goal.invariant-loop-i
invariant-loop-i l = Left l.initial.page l.page (multiplied_from l.multipliers open_bracket 0) (multiplied_from l.multipliers l.before l.i)
