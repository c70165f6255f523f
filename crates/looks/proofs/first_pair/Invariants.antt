-- `looks::first_pair` meets its contract: the chunks are the rows, and none of the rows passed is the first of a pair.
use Rattle.std.proofs.Common.{◌≡◌, suc, ◌*◌, ◌/◌, length, drop}
use Rattle.std.specs.Slice.Iter.{chunks_exact_rest, chunks_exact_size}
use Rattle.std.specs.Iterator.Adapters.{enumerate_source, enumerate_count}
use Rattle.rows.specs.Table.{rows_of}
use Rattle.rules.specs.Inequalities.{first_pair}
use Rattle.looks.proofs.FirstRows.{pair_from}
use Rattle.looks.proofs.first_pair.Given as goal

abbrev pub invariant-loop-i : goal.invariant-loop-i
invariant-loop-i l = record {
  can : (goal.iterator-loop-i).can_next l.i-iterator;
  ends : (goal.iterator-loop-i).is_finite l.i-iterator;
  ahead : chunks_exact_rest (enumerate_source l.i-iterator) ≡ drop (enumerate_count l.i-iterator * suc l.n) l.table;
  size : chunks_exact_size (enumerate_source l.i-iterator) ≡ suc l.n;
  passed : pair_from l.n (length l.table / suc l.n) (enumerate_count l.i-iterator) l.table ≡ first_pair l.n 1 (rows_of (suc l.n) (length l.table / suc l.n) l.table);
}
