-- `reader::read` meets its contract: both tables are zeros once they are filled.
use mathlib.Core.Path.{sym}
use native.Mathlib.Omega.{arith}
use Rattle.reader.proofs.Answered.{blank, long-text}
use Rattle.reader.proofs.read.Goals as goal

pub returns-then-text-gt65536 : goal.returns-then-text-gt65536
returns-then-text-gt65536 c =
    rw (blank 1056 c.fill.ensures (omega arith), blank 2112 c.fill-2.ensures (omega arith)) (sym (long-text _ _ _ (omega arith) (omega arith) (omega arith)))

pub read_short-requires : goal.read_short-requires
read_short-requires c = (omega arith, blank 1056 c.fill.ensures (omega arith), blank 2112 c.fill-2.ensures (omega arith))
