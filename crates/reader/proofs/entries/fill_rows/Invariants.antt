-- `entries::fill_rows` meets its contract. What is left to write from the machine in hand is what was to be written at the start.
use mathlib.Core.Path.{◌≡◌}
use mathlib.Core.List.{[], ◌∷◌, ◌++◌}
use lib.ListN.{drop}
use Rattle.matrix.specs.Bytes.{line_feed}
use Rattle.matrix.specs.Poured.{page, written}
use Rattle.matrix.specs.Reader.{numbers, numbers_of}
use Rattle.machine.specs.Sound.{Sound}
use Rattle.reader.proofs.entries.fill_rows.Given as goal

abbrev pub invariant-loop-b : goal.invariant-loop-b
invariant-loop-b l =
    (written (numbers l.inequality l.m (drop l.b-index l.text ++ line_feed ∷ [])) (page l.table l.place)
    ≡ written (numbers_of l.inequality l.text) (page l.initial.table 0))
    × Sound l.m l.b-index
