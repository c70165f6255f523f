-- `tables::put_in` meets its contract: a sweep over the rows. A row with 0 at column k is as it has to be already, and is within the
-- limit as the table is.
use mathlib.Core.Path.{◌≡◌}
use mathlib.Core.Bool.{◌&&◌}
use Rattle.rows.specs.Row.{all_within}
use Rattle.tables.proofs.Rowed.{Rowed, ahead_of, whole_of}
use Rattle.tables.proofs.Multiples.{without}
use Rattle.tables.proofs.put_in.Given as goal

abbrev pub invariant-loop-r : goal.invariant-loop-r
invariant-loop-r l =
    let f = without l.k l.q in
    Rowed f l.w l.count l.fn.table l.table l.r
    × (l.fits && all_within (ahead_of f l.w l.count l.r l.fn.table) ≡ all_within (whole_of f l.w l.count l.fn.table))
