-- `looks::first_against` meets its contract: the chunks are the rows, and none of the rows passed is the one looked for.
use Rattle.std.proofs.Common.{◌≡◌, suc, ◌*◌, ◌/◌, length, drop}
use Rattle.std.specs.Slice.Iter.{chunks_exact_rest, chunks_exact_size}
use Rattle.std.specs.Iterator.Adapters.{enumerate_source, enumerate_count}
use Rattle.rules.specs.Inequalities.{against}
use Rattle.looks.proofs.FirstRows.{Passed}
use Rattle.looks.proofs.first_against.Given as goal

abbrev pub invariant-loop-j : goal.invariant-loop-j
invariant-loop-j l = record {
  can : (goal.iterator-loop-j).can_next l.j-iterator;
  ends : (goal.iterator-loop-j).is_finite l.j-iterator;
  ahead : chunks_exact_rest (enumerate_source l.j-iterator) ≡ drop (enumerate_count l.j-iterator * suc l.n) l.table;
  size : chunks_exact_size (enumerate_source l.j-iterator) ≡ suc l.n;
  passed : Passed (against l.n l.row) (suc l.n) (length l.table / suc l.n) l.table (enumerate_count l.j-iterator);
}
