-- `print_names::names_of_multipliers` meets its contract: the names from equation i + 1 on are left.
use mathlib.Core.List.{◌∷◌}
use Prim.Native.Nat.{◌+◌}
use native.Mathlib.Omega.{arith}
use Rattle.rows.specs.Row.{at}
use Rattle.whole.proofs.Taken.{zero-read, nonzero-read}
use Rattle.matrix.specs.Printed.{decimal, equation_letter, names_of_multipliers}
use Rattle.print_numbers.specs.Shown.{Prints}
use Rattle.print_numbers.proofs.Printing.{both, less_left, none_left}
use Rattle.print_names.proofs.NamesAhead.{multiplied-none, multiplied-past, multiplied-here}
use Rattle.print_names.proofs.names_of_multipliers.Goals as goal
use Rattle.print_names.proofs.names_of_multipliers.Goals.{then-z-ne0, else-z-ne0}

pub loop-i-preserved : goal.loop-i-preserved
loop-i-preserved c =
    let numbers = c.args.multipliers.now in
    let l = c.loop-i in
    elim c.if-z-ne0.branch [
      | then-z-ne0 w ↦
          let named : Prints l.page c.if-z-ne0.page (l.before ∷ (equation_letter ∷ decimal (l.i + 1))) =
          rw w.page-is (both w.put_byte.ensures w.put_name.ensures) in
          let here = multiplied-here numbers l.before l.i c.loop-i-test.true (nonzero-read (at numbers l.i) w.if-z-ne0.true) in
          rw w.before-is (less_left _ here l.invariant named)
      | else-z-ne0 w ↦
          let past = multiplied-past numbers l.before l.i c.loop-i-test.true (zero-read (at numbers l.i) (omega arith) w.if-z-ne0.false) in
          rw (w.before-is, w.page-is) (rw past at l.invariant)
    ]

pub returns : goal.returns
unfolding names_of_multipliers
returns c =
    let l = c.loop-i in
    both (none_left _ (multiplied-none c.args.multipliers.now l.before l.i c.loop-i-test.false) l.invariant) c.put_bytes.ensures
