-- `put_bytes` meets its contract: each turn prints one byte more.
use lib.Seq.{take-suc}
use native.Mathlib.Numerals.{add-one}
use Rattle.print_numbers.proofs.Printing.{nothing, both}
use Rattle.print_numbers.proofs.Page.put_bytes.Goals as goal

pub loop-b-init : goal.loop-b-init
loop-b-init c = nothing _

pub loop-b-preserved : goal.loop-b-preserved
loop-b-preserved c = rw (add-one, take-suc c.args.bytes.now c.loop-b.b-index 0 c.loop-b-test.true) (both c.loop-b.invariant c.put_byte.ensures)
