-- `streams::read_front` meets its contract: what was read so far is the text's beginning, and each turn leaves less of the room.
use Rattle.std.proofs.Common.{length, ◌-◌, ◌≤◌, take}
use Rattle.std.specs.Io.KnownBytes.{Consumes}
use Rattle.streams.proofs.read_front.Given as goal

abbrev pub invariant-loop-done : goal.invariant-loop-done
invariant-loop-done g l = record {
  inside : l.done ≤ length l.room;
  front : Consumes (g.R.Read.remaining l.fn.reader) (g.R.Read.remaining l.reader) (take l.done l.room);
}

abbrev pub decreases-loop-done : goal.decreases-loop-done
decreases-loop-done g l = length l.initial.room - l.done
