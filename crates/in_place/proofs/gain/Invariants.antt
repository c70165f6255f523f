-- `in_place::gain` meets its contract: a sweep that adds c times the other row's number to each number.
use lib.IntN.{neg_ℤ}
use lib.ListN.{drop}
use Rattle.rows.specs.Row.{less}
use Rattle.rows.proofs.Sweep.{Swept}
use Rattle.in_place.proofs.gain.Given as goal

abbrev pub invariant-loop-j : goal.invariant-loop-j
invariant-loop-j l =
    let ahead = less (drop l.j l.initial.row) (neg_ℤ l.c) (drop l.j l.other) in
    Swept l.initial.row l.row (less l.initial.row (neg_ℤ l.c) l.other) l.j ahead
