-- `tables::gather` meets its contract: the row so far, gathered with the rows ahead, is the answer. Every row adds at most W times W.
use mathlib.Core.Path.{◌≡◌}
use lib.ListN.{length, drop}
use Rattle.rows.specs.Row.{gathered}
use Rattle.rows.specs.Table.{rows_of}
use Rattle.tables.proofs.Rowed.{rows_from}
use Rattle.tables.proofs.Multiples.{Sum}
use Rattle.tables.proofs.gather.Given as goal

abbrev pub invariant-loop-r : goal.invariant-loop-r
invariant-loop-r l =
    let m = length l.cs in
    let v = length l.initial.row in
    (length l.row ≡ v) × Sum l.r l.row × (gathered l.row (drop l.r l.cs) (rows_from v m l.r l.table) ≡ gathered l.initial.row l.cs (rows_of v m l.table))
