-- `used::rests_on` meets its contract: as long as no column decides, the columns ahead do.
use mathlib.Core.Path.{refl, sym, ◌∙◌}
use Prim.Native.Nat.{suc, ◌+◌, ◌*◌}
use native.Mathlib.Numerals.{add-one}
use native.Mathlib.Omega.{arith}
use borrow.Author.Tests.{ne_eqb}
use lib.IntN.{nat_abs}
use lib.ListN.{get_or, drop_of_length-le}
use Rattle.whole.proofs.Integers.{nat_abs-zero}
use Rattle.whole.proofs.Taken.{zero-read, nonzero-read}
use Rattle.rows.specs.Row.{at}
use Rattle.used.specs.Carrying.{among}
use Rattle.used.proofs.Carried.{among-here}
use Rattle.used.proofs.rests_on.Goals as goal

pub returns-then-reasons-p-ne0 : goal.returns-then-reasons-p-ne0
returns-then-reasons-p-ne0 c =
    let a = c.args in
    let i = c.loop-p.p-index in
    let z = at a.reasons.now (get_or a.columns.now i 0 * (a.m + 1) + a.j) in
    let some = rw (add-one a.m) at (ne_eqb (nat_abs z) 0 (λ e. nonzero-read z c.if-reasons-p-ne0.true (nat_abs-zero z e))) in
    sym (among-here (suc a.m) a.j a.reasons.now a.columns.now i (omega arith) ∙ rw some refl) ∙ c.loop-p.invariant

pub loop-p-preserved : goal.loop-p-preserved
loop-p-preserved c =
    let a = c.args in
    let i = c.loop-p.p-index in
    let z = at a.reasons.now (get_or a.columns.now i 0 * (a.m + 1) + a.j) in
    let none = rw (add-one a.m) at (zero-read z (omega arith) c.if-reasons-p-ne0.false) in
    sym (among-here (suc a.m) a.j a.reasons.now a.columns.now i (omega arith) ∙ rw none refl) ∙ c.loop-p.invariant

pub returns : goal.returns
unfolding among
returns c = rw (drop_of_length-le c.args.columns.now {i = c.loop-p.p-index} (omega arith)) at c.loop-p.invariant
