-- `print_errors::put_listed` meets its contract: behind the number each turn prints one field more.
use mathlib.Core.List.{[], ◌∷◌}
use native.Mathlib.Numerals.{add-one}
use lib.ListN.{get_or, take}
use lib.Seq.{take-suc}
use Rattle.std.proofs.lemmas.List.{take_all, nil_from_length}
use Rattle.matrix.specs.Printed.{decimal, spaced_by, listed}
use Rattle.matrix.proofs.Spaced.{spaced-append}
use Rattle.print_numbers.proofs.Printing.{nothing, both}
use Rattle.print_errors.proofs.put_listed.Goals as goal

pub loop-field-init : goal.loop-field-init
unfolding spaced_by
loop-field-init c = nothing _

pub loop-field-preserved : goal.loop-field-preserved
loop-field-preserved c =
    let fields = c.in-Some.fields.now in
    let i = c.loop-field.field-index in
    rw (add-one, take-suc fields i 0 c.loop-field-test.true, spaced-append decimal (take i fields) (get_or fields i 0 ∷ []))
    (both c.loop-field.invariant c.put_field.ensures)

pub returns-after-loop-field : goal.returns-after-loop-field
unfolding listed
returns-after-loop-field c =
    let fields = c.in-Some.fields.now in
    rw (c.in-Some.ensures.cases.0) (both c.put_number.ensures (rw (take_all c.loop-field.field-index fields c.loop-field-test.false) at c.loop-field.invariant))

pub returns-in_default : goal.returns-in_default
unfolding listed
returns-in_default c = rw (nil_from_length c.args.numbers.now c.in_default.ensures.cases) (nothing _)
