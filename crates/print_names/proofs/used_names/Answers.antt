-- `print_names::used_names` meets its contract: the names from equation i + 1 on are left.
use mathlib.Core.List.{[], ◌∷◌, ◌++◌}
use Prim.Native.Nat.{◌+◌}
use native.Mathlib.Nat.{sub-zero}
use Rattle.matrix.specs.Bytes.{space}
use Rattle.matrix.specs.Printed.{decimal, equation_letter}
use Rattle.print_numbers.specs.Shown.{Prints}
use Rattle.print_numbers.proofs.Printing.{both, less_left, none_left}
use Rattle.print_names.proofs.NamesAhead.{used-none, used-past, used_by_one, used_by_other}
use Rattle.print_names.proofs.used_names.Goals as goal
use Rattle.print_names.proofs.used_names.Goals.{then-one-eq1, then-one-eq1-via-then-one-eq1, then-one-eq1-via-else-one-eq1+then-other-eq1, else-one-eq1+else-other-eq1}

pub loop-i-preserved : goal.loop-i-preserved
loop-i-preserved c =
    let m = c.args.m in
    let l = c.loop-i in
    elim c.if-one-eq1.branch [
      | then-one-eq1 w ↦
          let named : Prints l.page c.if-one-eq1.page ((equation_letter ∷ decimal (l.i + 1)) ++ space ∷ []) =
          rw w.page-is (both w.put_name.ensures w.put_byte.ensures) in
          elim w.then-one-eq1.branch [
            | then-one-eq1-via-then-one-eq1 v ↦
                less_left _ (used_by_one m l.i l.one l.other c.loop-i-test.true v.if-one-eq1.true) l.invariant named
            | then-one-eq1-via-else-one-eq1+then-other-eq1 v ↦
                less_left _ (used_by_other m l.i l.one l.other c.loop-i-test.true v.if-one-eq1.false v.if-other-eq1.true) l.invariant named
          ]
      | else-one-eq1+else-other-eq1 w ↦
          rw w.page-is (rw (used-past m l.i l.one l.other c.loop-i-test.true w.if-one-eq1.false w.if-other-eq1.false) at l.invariant)
    ]

pub returns : goal.returns
returns c =
    let m = c.args.m in
    let l = c.loop-i in
    rw sub-zero at (none_left _ (used-none m l.i l.one l.other c.loop-i-test.false) l.invariant)
