-- `print_matrices::tightened_matrix` meets its contract: behind the header, the lines of the rows that the iterator has left.
use mathlib.Core.Path.{◌≡◌}
use Prim.Native.Nat.{suc}
use lib.ListN.{length}
use Rattle.std.specs.Slice.Iter.{chunks_exact_rest, chunks_exact_size}
use Rattle.matrix.specs.Printed.{tightened_line}
use Rattle.print_numbers.proofs.Printing.{Left}
use Rattle.print_matrices.proofs.Lines.{lines_left}
use Rattle.print_matrices.proofs.tightened_matrix.Given as goal

abbrev pub invariant-loop-row : goal.invariant-loop-row
invariant-loop-row l = record {
  width : chunks_exact_size l.row-iterator ≡ suc l.n;
  lines : Left l.initial.page l.page (lines_left (λ _. tightened_line l.marks) l.n 0 l.tightened)
      (lines_left (λ _. tightened_line l.marks) l.n (length l.yielded) (chunks_exact_rest l.row-iterator));
}
