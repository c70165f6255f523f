-- `print_matrices::open_columns` meets its contract: what passes the test is counted.
use Rattle.std.proofs.Common.{arith}
use Rattle.std.proofs.lemmas.Grind.{common_steps}
use Rattle.print_matrices.proofs.Columns.{open_counted}
use Rattle.print_matrices.proofs.open_columns.Goals as goal

pub returns-clause-count : goal.returns-clause-count
returns-clause-count c = rw (open_counted c.args.marks.now) (grind (arith, common_steps))
