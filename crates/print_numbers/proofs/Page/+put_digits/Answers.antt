-- `put_digits` meets its contract, by the digits that the tests tell.
use mathlib.Core.List.{[], ◌∷◌}
use Prim.Native.Nat.{◌-◌, ◌/◌, ◌%◌}
use Rattle.matrix.specs.Bytes.{digit_byte}
use Rattle.matrix.specs.Printed.{decimal_in}
use Rattle.print_numbers.specs.Shown.{Prints}
use Rattle.print_numbers.proofs.Printing.{nothing, both}
use Rattle.print_numbers.proofs.Digits.{digits-none, digits_last, digits_more}
use Rattle.print_numbers.proofs.Page.+put_digits.Goals as goal
use Rattle.print_numbers.proofs.Page.+put_digits.Goals.{then-x-ge10, else-x-ge10}

pub returns-then-places-eq0 : goal.returns-then-places-eq0
returns-then-places-eq0 t c = rw (digits-none c.args.places c.args.x c.if-places-eq0.true) (nothing _)

pub returns : goal.returns
returns t c =
    let a = c.args in
    let last : Prints c.if-x-ge10.self c.put_byte.new.self (digit_byte (a.x % 10) ∷ []) = c.put_byte.ensures in
    elim c.if-x-ge10.branch [
      | then-x-ge10 w ↦
          let before : Prints a.self.now c.if-x-ge10.self (decimal_in (a.places - 1) (a.x / 10)) = rw w.self-is w.put_digits.ensures in
          rw (digits_more a.places a.x c.if-places-eq0.false w.if-x-ge10.true) (both before last)
      | else-x-ge10 w ↦
          rw (digits_last a.places a.x c.if-places-eq0.false w.if-x-ge10.false) (rw w.self-is at last)
    ]
