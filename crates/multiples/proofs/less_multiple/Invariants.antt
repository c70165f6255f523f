-- `multiples::less_multiple` meets its contract: a sweep that takes q times the other row's number from each number. The signs so far tell
-- the answer for the columns behind; it and the one for the columns ahead make the answer for the row.
use mathlib.Core.Path.{◌≡◌}
use mathlib.Core.Bool.{◌&&◌}
use lib.ListN.{drop}
use lib.Signed.{non_neg}
use Rattle.rows.specs.Row.{less, all_within}
use Rattle.rows.proofs.Sweep.{Swept}
use Rattle.multiples.proofs.less_multiple.Given as goal

abbrev pub invariant-loop-i : goal.invariant-loop-i
invariant-loop-i l =
    let ahead = less (drop l.i l.initial.row) l.q (drop l.i l.other) in
    let goal = less l.initial.row l.q l.other in
    Swept l.initial.row l.row goal l.i ahead × (non_neg l.signs && all_within ahead ≡ all_within goal)
