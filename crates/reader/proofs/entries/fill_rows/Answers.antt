-- `entries::fill_rows` meets its contract. What is left to write from the machine in hand is what was to be written at the start.
use mathlib.Core.Path.{refl, sym, ap, ◌∙◌}
use lib.IntN.{ℤ}
use Rattle.matrix.specs.Poured.{Page, page}
use Rattle.matrix.specs.Reader.{numbers_of}
use Rattle.matrix.proofs.Written.{written-front}
use Rattle.reader.proofs.Entered.{numbers-byte, numbers-end}
use Rattle.machine.proofs.Kept.{begin-sound, step-sound}
use Rattle.reader.proofs.entries.fill_rows.Goals as goal

pub loop-b-init : goal.loop-b-init
unfolding numbers_of
loop-b-init c = rw c.begin-m.ensures (refl, begin-sound)

pub loop-b-preserved : goal.loop-b-preserved
loop-b-preserved c =
    let w = c.loop-b in
    let byte = numbers-byte c.args.inequality w.m c.args.text.now w.b-index (page w.table w.place) c.loop-b-test.true in (
      rw (c.enter-place.ensures, c.step-next.ensures) (sym byte ∙ w.invariant.0),
      rw c.step-next.ensures (step-sound _ _ _ w.invariant.1),
    )

pub returns : goal.returns
unfolding page
returns c =
    let w = c.loop-b in
    let a = c.args in
    let all = sym (numbers-end a.inequality w.m a.text.now w.b-index (page w.table w.place) c.loop-b-test.false) ∙ w.invariant.0 in
    ap (λ (p : Page ℤ). p.cells) (rw c.step.ensures at c.enter.ensures ∙ all) ∙ written-front (numbers_of a.inequality a.text.now) a.table.now
