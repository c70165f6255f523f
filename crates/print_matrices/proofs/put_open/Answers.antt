-- `print_matrices::put_open` meets its contract: the open columns from column c on are left.
use mathlib.Core.Path.{◌≡◌, refl}
use native.Mathlib.Omega.{arith}
use lib.ListN.{length}
use lib.IntN.{pos}
use Rattle.std.proofs.lemmas.List.{length_push}
use Rattle.std.proofs.lemmas.Slice.Zip.{zip_turn, zip_end}
use Rattle.whole.proofs.Taken.{back}
use Rattle.rows.specs.Row.{at}
use Rattle.print_numbers.proofs.Printing.{less_left, rest_printed}
use Rattle.print_matrices.proofs.Columns.{open-past, open-here, open-last}
use Rattle.print_matrices.proofs.put_open.Goals as goal

pub loop-mark-preserved-then-mark-ne0 : goal.loop-mark-preserved-then-mark-ne0
loop-mark-preserved-then-mark-ne0 c =
    let a = c.args in
    let l = c.loop-mark in
    let turn =
    zip_turn a.marks.now a.row.now l.yielded c.into_iter-mark-iterator.result l.mark-iterator c.next.new.self _ (cc) (cc)
    l.yielded_by _ c.in-Some.is c.next.ensures.steps in
    let here = open-here a.opposite a.marks.now a.row.now (length l.yielded) turn.0 turn.1 (rw (turn.2 0) at c.if-mark-ne0.true) in
    let number = rw (back c.in-Some.z.now (omega arith), turn.3 (pos 0)) at c.put_spaced.ensures in
    rw length_push (less_left _ here l.invariant number)

pub loop-mark-preserved : goal.loop-mark-preserved
loop-mark-preserved c =
    let a = c.args in
    let l = c.loop-mark in
    let turn =
    zip_turn a.marks.now a.row.now l.yielded c.into_iter-mark-iterator.result l.mark-iterator c.next.new.self _ (cc) (cc)
    l.yielded_by _ c.in-Some.is c.next.ensures.steps in
    let past = open-past a.opposite a.marks.now a.row.now (length l.yielded) turn.0 turn.1 (rw (turn.2 0) at c.if-mark-ne0.false) in
    rw length_push (rw past at l.invariant)

pub returns : goal.returns
returns c =
    let a = c.args in
    let l = c.loop-mark in
    let end =
    zip_end a.marks.now a.row.now l.yielded c.into_iter-mark-iterator.result l.mark-iterator c.next.new.self _ (cc) (cc)
    l.yielded_by c.in-None.is c.next.ensures.steps in
    let all : length l.yielded ≡ length a.marks.now = omega (arith, end) in
    let last = open-last a.opposite a.marks.now a.row.now (length a.marks.now) refl c.requires in
    let number = rw (back (at a.row.now (length a.marks.now)) (omega arith)) at c.put_spaced-2.ensures in
    rest_printed (rw (all, last) at l.invariant) number
