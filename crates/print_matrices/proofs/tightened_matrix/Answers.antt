-- `print_matrices::tightened_matrix` meets its contract: behind the header, the lines of the rows that the iterator has left.
use mathlib.Core.Path.{◌∙◌}
use Prim.Native.Nat.{suc, ◌+◌, ◌<◌}
use lib.ListN.{length}
use Rattle.std.specs.Slice.Iter.{chunks_exact_rest}
use Rattle.std.proofs.lemmas.List.{length_push}
use Rattle.matrix.specs.Printed.{open_columns, header_line, tightened_line, tightened_matrix}
use Rattle.print_numbers.proofs.Printing.{both, less_left, none_left}
use Rattle.print_matrices.proofs.Lines.{row_count, line-first, line-none}
use Rattle.print_matrices.proofs.tightened_matrix.Goals as goal

pub tightened_line-requires : goal.tightened_line-requires
tightened_line-requires c =
    let steps = c.in-Some.ensures.steps in
    rw c.requires.1 (steps.1.1 ∙ c.loop-row.invariant.width)

pub loop-row-preserved : goal.loop-row-preserved
loop-row-preserved c =
    let a = c.args in
    let l = c.loop-row in
    let steps = c.in-Some.ensures.steps in
    let rest = chunks_exact_rest c.next.new.self in
    let width = steps.1.1 ∙ l.invariant.width in
    let first = line-first (λ _. tightened_line a.marks.now) a.n (length l.yielded) _ c.in-Some.row.now rest steps.1.0 width in
    record {
      width = steps.0 ∙ l.invariant.width;
      lines = rw length_push (less_left _ first l.invariant.lines c.tightened_line.ensures);
    }

pub returns : goal.returns
unfolding tightened_matrix
returns c =
    let a = c.args in
    let l = c.loop-row in
    let steps = c.in-None.ensures.steps in
    let short : length (chunks_exact_rest l.row-iterator) < suc a.n = rw l.invariant.width at steps.1.0 in
    let lines = none_left _ (line-none (λ _. tightened_line a.marks.now) a.n (length l.yielded) _ short) l.invariant.lines in
    both {a = header_line a.k (open_columns a.marks.now + 2)}
    (rw c.open_columns.ensures.count at c.header_line.ensures)
    (rw (row_count a.n a.k a.tightened.now c.requires.2) at lines)
