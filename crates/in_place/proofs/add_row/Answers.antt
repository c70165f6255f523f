use Rattle.std.proofs.Common.{arith}
use Rattle.rows.proofs.Lists.{row-end}
use Rattle.in_place.proofs.add_row.Goals as goal

pub slice_bounds-gain-end-then-i-k-2 : goal.slice_bounds-gain-end-then-i-k-2
slice_bounds-gain-end-then-i-k-2 c = omega (arith, row-end c.args.k c.args.w c.args.i c.if-i-k.true)

pub slice_bounds-gain-end-else-i-k : goal.slice_bounds-gain-end-else-i-k
slice_bounds-gain-end-else-i-k c = omega (arith, row-end c.args.i c.args.w c.args.k (omega (arith, c.requires.w_in_bounds.2)))
