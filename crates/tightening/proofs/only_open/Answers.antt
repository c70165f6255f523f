-- `tightening::only_open` meets its contract: a sweep over the marks. A number at an open column is as it has to be already.
use native.Mathlib.Omega.{arith}
use Rattle.tightening.proofs.OpenColumns.{open-shut, open-left, open-end}
use Rattle.tightening.proofs.only_open.Goals.{then-mark-eq0, else-mark-eq0}
use Rattle.tightening.proofs.only_open.Goals as goal

pub loop-k-preserved : goal.loop-k-preserved
loop-k-preserved c =
    let marks = c.args.marks.now in
    let inv = c.loop-k.invariant in
    elim c.if-mark-eq0.branch [
      | then-mark-eq0 w ↦ rw w.row-is (open-shut marks (omega arith) (omega arith) inv w.if-mark-eq0.true)
      | else-mark-eq0 w ↦ rw w.row-is (open-left marks (omega arith) (omega arith) inv w.if-mark-eq0.false)
    ]

pub returns : goal.returns
returns c = open-end c.args.marks.now (omega arith) c.loop-k.invariant
