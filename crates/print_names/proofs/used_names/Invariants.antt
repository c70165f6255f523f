-- `print_names::used_names` meets its contract: the names from equation i + 1 on are left.
use Rattle.print_numbers.proofs.Printing.{Left}
use Rattle.print_names.proofs.NamesAhead.{used_from}
use Rattle.print_names.proofs.used_names.Given as goal

abbrev pub invariant-loop-i : goal.invariant-loop-i
invariant-loop-i l = Left l.initial.page l.page (used_from l.m 0 l.fn.one l.fn.other) (used_from l.m l.i l.one l.other)
