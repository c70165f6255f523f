-- `in_place::gather_in` meets its contract: row k so far, gathered with the rows ahead, is the answer, and all other rows are as at first.
use Rattle.in_place.proofs.InPlace.{Gathering}
use Rattle.in_place.proofs.gather_in.Given as goal

abbrev pub invariant-loop-r : goal.invariant-loop-r
invariant-loop-r l = Gathering l.w l.k l.cs l.fn.table l.table l.r
