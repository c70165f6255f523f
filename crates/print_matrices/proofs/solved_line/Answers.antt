-- `print_matrices::solved_line` meets its contract: the mark, -x_i, the row and the end of the line.
use lib.ListN.{set}
use lib.IntN.{pos, neg_ℤ}
use Rattle.rows.specs.Row.{zeros}
use Rattle.matrix.specs.Printed.{signed, opened, solved_line, row_line}
use Rattle.matrix.proofs.Spaced.{spaced-append}
use Rattle.print_numbers.proofs.Printing.{both}
use Rattle.print_matrices.proofs.Lines.{turned_none}
use Rattle.print_matrices.proofs.solved_line.Goals as goal

pub returns : goal.returns
unfolding solved_line row_line
returns c =
    let a = c.args in
    let row = rw (turned_none (opened a.marks.now a.row.now)) at c.put_open.ensures in
    rw (spaced-append signed (set (zeros a.n) a.i (neg_ℤ (pos 1))) (opened a.marks.now a.row.now))
    (both c.put_byte.ensures (both (both c.put_minus_x.ensures row) c.put_byte-2.ensures))
