-- A lent page in code, as contracts see it.
use Rattle.std.specs.Prelude.{◌≡◌, List, ℕ}
use Rattle.matrix.specs.Poured.{Page as Cells, page, written}
use Rattle.print_numbers.specs.declared.Page.{Page}

-- its cells and the place of the next byte
abbrev pub shown : Page → Cells ℕ
shown p = page p.cells.now p.place

-- between one time and another these bytes were printed, over the same lent cells
pub record Prints (before after : Page) (bytes : List ℕ) : Type 0 where
  pub shows : shown after ≡ written bytes (shown before)
  pub same_cells : after.cells.ghost_name ≡ before.cells.ghost_name
