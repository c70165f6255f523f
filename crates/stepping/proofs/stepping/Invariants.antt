-- The loop of `stepping::stepping`. At its head the tables are good, and what is ahead of them is what was ahead at first. A turn makes
-- one step: it is refused, it closes a column, or the next one is ahead.
use mathlib.Core.Path.{◌≡◌}
use Prim.Native.Nat.{suc, ◌+◌, ◌-◌}
use lib.ListN.{take}
use Rattle.rows.specs.Row.{at, smallest}
use Rattle.rules.specs.Lent.{SameTables, SameLengths}
use Rattle.steps.specs.Shown.{SameWork}
use Rattle.stepping.specs.Worked.{bound_of}
use Rattle.stepping.proofs.Going.{comes_to_now, GoingNow}
use Rattle.stepping.proofs.stepping.Given as goal

abbrev pub invariant-loop : goal.invariant-loop
invariant-loop l =
    let bound = bound_of l.n (take (suc l.n) l.fn.work.rows.now) in
    SameWork l.fn.work l.work
    × SameTables l.fn.state l.state
    × SameLengths l.fn.state l.state
    × GoingNow (comes_to_now l.n l.m bound l.before l.fn.work l.fn.state) l.n l.m (l.before + bound) l.work l.state (l.end - l.counter) l.count
    × (l.k ≡ smallest (take l.n l.work.rows.now))
    × (l.lead ≡ at l.work.rows.now l.k)
