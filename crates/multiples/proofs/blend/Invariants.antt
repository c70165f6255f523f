-- `multiples::blend` meets its contract: a sweep that puts p times each number less q times the other row's number in its place. The answer
-- so far and the one for the columns ahead make the answer for the row.
use mathlib.Core.Path.{◌≡◌}
use mathlib.Core.Bool.{◌&&◌}
use lib.ListN.{drop}
use Rattle.rows.specs.Row.{less, scaled, all_within}
use Rattle.rows.proofs.Sweep.{Swept}
use Rattle.multiples.proofs.blend.Given as goal

abbrev pub invariant-loop-i : goal.invariant-loop-i
invariant-loop-i l =
    let ahead = less (scaled l.p (drop l.i l.initial.row)) l.q (drop l.i l.other) in
    let goal = less (scaled l.p l.initial.row) l.q l.other in
    Swept l.initial.row l.row goal l.i ahead × (l.fits && all_within ahead ≡ all_within goal)
