-- `elimination::eliminate_within` meets its contract: the rows and their multipliers lie within their rooms.
use native.Mathlib.Numerals.{add-one}
use native.Mathlib.Omega.{arith}
use Rattle.elimination.proofs.eliminate_within.Goals as goal

pub whole_as_front-work : goal.whole_as_front-work
whole_as_front-work o c = rw (add-one c.args.n) (c.requires.room.0, omega (arith, c.requires.room.2))

pub whole_as_front-work-2 : goal.whole_as_front-work-2
whole_as_front-work-2 o c = (c.requires.room.1, omega (arith, c.requires.room.2))
