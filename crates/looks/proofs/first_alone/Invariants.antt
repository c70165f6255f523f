-- `looks::first_alone` meets its contract: the chunks are the rows, and none of the rows passed is the one looked for.
use Rattle.std.proofs.Common.{◌≡◌, suc, ◌*◌, ◌/◌, length, drop}
use Rattle.std.specs.Slice.Iter.{chunks_exact_rest, chunks_exact_size}
use Rattle.std.specs.Iterator.Adapters.{enumerate_source, enumerate_count}
use Rattle.rules.specs.Inequalities.{alone}
use Rattle.looks.proofs.FirstRows.{Passed}
use Rattle.looks.proofs.first_alone.Given as goal

abbrev pub invariant-loop-i : goal.invariant-loop-i
invariant-loop-i l = record {
  can : (goal.iterator-loop-i).can_next l.i-iterator;
  ends : (goal.iterator-loop-i).is_finite l.i-iterator;
  ahead : chunks_exact_rest (enumerate_source l.i-iterator) ≡ drop (enumerate_count l.i-iterator * suc l.n) l.table;
  size : chunks_exact_size (enumerate_source l.i-iterator) ≡ suc l.n;
  passed : Passed (alone l.n) (suc l.n) (length l.table / suc l.n) l.table (enumerate_count l.i-iterator);
}
