-- `print_matrices::solved_matrix` meets its contract: behind the header, the lines of the rows that the iterator has left.
use mathlib.Core.Path.{◌∙◌}
use Prim.Native.Nat.{suc, ◌+◌, ◌<◌}
use native.Mathlib.Nat.{add_assoc}
use lib.ListN.{length}
use Rattle.std.specs.Slice.Iter.{chunks_exact_rest}
use Rattle.std.specs.Iterator.Adapters.{enumerate_source, enumerate_count}
use Rattle.matrix.specs.Printed.{open_columns, header_line, solved_line, solved_matrix}
use Rattle.print_numbers.proofs.Printing.{both, less_left, none_left}
use Rattle.print_matrices.proofs.Lines.{row_count, line-first, line-none}
use Rattle.print_matrices.proofs.solved_matrix.Goals as goal

pub solved_line-requires : goal.solved_line-requires
solved_line-requires c =
    let steps = c.in-Some.ensures.steps in
    rw c.requires.1 (steps.0.1.1 ∙ c.loop-i.invariant.width)

pub loop-i-preserved : goal.loop-i-preserved
loop-i-preserved c =
    let a = c.args in
    let l = c.loop-i in
    let steps = c.in-Some.ensures.steps in
    let rest = chunks_exact_rest (enumerate_source c.next.new.self) in
    let width = steps.0.1.1 ∙ l.invariant.width in
    let first = line-first (solved_line a.n a.marks.now) a.n (enumerate_count l.i-iterator) _ c.in-Some.row.now rest steps.0.1.0 width in
    record {
      width = steps.0.0 ∙ l.invariant.width;
      lines = rw steps.2 (less_left _ first l.invariant.lines (rw steps.1 at c.solved_line.ensures));
    }

pub returns : goal.returns
unfolding solved_matrix
returns c =
    let a = c.args in
    let l = c.loop-i in
    let steps = c.in-None.ensures.steps in
    let short : length (chunks_exact_rest (enumerate_source l.i-iterator)) < suc a.n = rw l.invariant.width at steps.0.1.0 in
    let lines = none_left _ (line-none (solved_line a.n a.marks.now) a.n (enumerate_count l.i-iterator) _ short) l.invariant.lines in
    both {a = header_line a.n (a.n + (open_columns a.marks.now + 2))}
    (rw (c.open_columns.ensures.count, add_assoc) at c.header_line.ensures)
    (rw (row_count a.n a.n a.substitution.now c.requires.2) at lines)
