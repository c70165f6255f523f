-- `streams::read_front` meets its contract: what a read gives goes on where the text so far ends.
use Rattle.std.proofs.Common.{rules}
use Rattle.streams.proofs.Fronts.{turned, some-read}
use Rattle.streams.proofs.read_front.Goals as goal

pub loop-done-preserved : goal.loop-done-preserved
loop-done-preserved g c =
    let told = some-read c.read.result c.in-Some.more (search rules) in
    let within = rw told.0 at c.read.ensures.bound in
    let bytes = rw told.0 at c.read.ensures.bytes in
    record {
      inside = search (rules, within);
      front = turned _ _ _ c.loop-done.room c.read.new.buf c.loop-done.done _ c.in-Some.more c.loop-done.invariant.inside (search (rules, within)) c.loop-done.invariant.front bytes.0;
    }
