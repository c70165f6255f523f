-- `put_spaced` meets its contract: a space, a minus below 0, and the digits of the absolute value.
use mathlib.Core.Path.{sym, ◌∙◌}
use mathlib.Core.List.{[], ◌∷◌}
use lib.IntN.{nat_abs}
use mir.Facts.{to_z-of_z}
use Rattle.matrix.specs.Bytes.{minus}
use Rattle.matrix.specs.Printed.{decimal, signed, turned}
use Rattle.matrix.proofs.Spaced.{spaced-one}
use Rattle.print_numbers.specs.Shown.{Prints}
use Rattle.print_numbers.proofs.Printing.{both}
use Rattle.print_numbers.proofs.Signs.{signed_below, signed_above}
use Rattle.print_numbers.proofs.Page.put_spaced.Goals as goal
use Rattle.print_numbers.proofs.Page.put_spaced.Goals.{then-below_zero, else-below_zero}

pub returns : goal.returns
returns c =
    let a = c.args in
    let digits : Prints c.if-below_zero.self c.put_number.new.self (decimal (nat_abs a.z)) =
    rw (c.unsigned_abs.ensures.value, to_z-of_z c.ranges.z) at c.put_number.ensures in
    let told = rw (to_z-of_z c.ranges.z) at c.below_zero.ensures in
    rw (spaced-one signed (turned a.opposite a.z))
    (elim c.if-below_zero.branch [
      | then-below_zero w ↦
          let sign : Prints c.put_byte.new.self c.if-below_zero.self (minus ∷ []) = rw w.self-is w.put_byte-then-below_zero.ensures in
          rw (signed_below a.opposite a.z (sym told ∙ w.if-below_zero.true)) (both c.put_byte.ensures (both sign digits))
      | else-below_zero w ↦
          rw (signed_above a.opposite a.z (sym told ∙ w.if-below_zero.false)) (both c.put_byte.ensures (rw w.self-is at digits))
    ])
