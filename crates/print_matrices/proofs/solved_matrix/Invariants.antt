-- `print_matrices::solved_matrix` meets its contract: behind the header, the lines of the rows that the iterator has left.
use mathlib.Core.Path.{◌≡◌}
use Prim.Native.Nat.{suc}
use Rattle.std.specs.Slice.Iter.{chunks_exact_rest, chunks_exact_size}
use Rattle.std.specs.Iterator.Adapters.{enumerate_source, enumerate_count}
use Rattle.matrix.specs.Printed.{solved_line}
use Rattle.print_numbers.proofs.Printing.{Left}
use Rattle.print_matrices.proofs.Lines.{lines_left}
use Rattle.print_matrices.proofs.solved_matrix.Given as goal

abbrev pub invariant-loop-i : goal.invariant-loop-i
invariant-loop-i l = record {
  width : chunks_exact_size (enumerate_source l.i-iterator) ≡ suc l.n;
  lines : Left l.initial.page l.page (lines_left (solved_line l.n l.marks) l.n 0 l.substitution)
      (lines_left (solved_line l.n l.marks) l.n (enumerate_count l.i-iterator) (chunks_exact_rest (enumerate_source l.i-iterator)));
}
