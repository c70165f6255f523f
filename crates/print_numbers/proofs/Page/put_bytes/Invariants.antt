-- `put_bytes` meets its contract: each turn prints one byte more.
use lib.ListN.{take}
use Rattle.print_numbers.specs.Shown.{Prints}
use Rattle.print_numbers.proofs.Page.put_bytes.Given as goal

abbrev pub invariant-loop-b : goal.invariant-loop-b
invariant-loop-b l = Prints l.initial.self l.self (take l.b-index l.bytes)
