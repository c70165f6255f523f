-- `rows::first_beyond` meets its contract: the columns passed and the first one ahead make the row's first.
use Rattle.std.proofs.Common.{◌≡◌, ◌+◌, drop}
use Rattle.rows.specs.Row.{first_beyond}
use Rattle.rows.proofs.first_beyond.Given as goal

abbrev pub invariant-loop-i : goal.invariant-loop-i
invariant-loop-i l = l.i + first_beyond (drop l.i l.row) ≡ first_beyond l.row
