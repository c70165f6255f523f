-- `put_two_fields` meets its contract: one, then the other.
use mathlib.Core.List.{[], ◌∷◌}
use Rattle.matrix.specs.Printed.{decimal}
use Rattle.matrix.proofs.Spaced.{spaced-append}
use Rattle.print_numbers.proofs.Printing.{both}
use Rattle.print_numbers.proofs.Page.put_two_fields.Goals as goal

pub returns : goal.returns
returns c = rw (spaced-append decimal (c.args.x ∷ []) (c.args.y ∷ [])) (both c.put_field.ensures c.put_field-2.ensures)
