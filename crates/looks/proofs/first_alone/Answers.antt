-- `looks::first_alone` meets its contract: the chunks are the rows, and none of the rows passed is the one looked for.
use mathlib.Core.Path.{◌≡◌, sym, ap, ◌∙◌}
use Prim.Native.Nat.{suc, ◌/◌}
use native.Mathlib.Omega.{arith}
use borrow.Author.Rules.{rules}
use lib.ListN.{length}
use Rattle.rows.specs.Table.{row_at}
use Rattle.rules.specs.Inequalities.{alone}
use Rattle.looks.specs.Found.{row_found}
use Rattle.looks.proofs.FirstRows.{passed_here, passed-next, passed_none, found-row}
use Rattle.looks.proofs.Chunks.{Turn, turn, rows_over}
use Rattle.looks.proofs.first_alone.Goals.{After-is_alone, In-Some}
use Rattle.looks.proofs.first_alone.Goals as goal

-- the row of a turn, and what the call tells of it
here : (c : In-Some) → Turn (suc c.args.n) c.args.table.now c.loop-i.i-iterator c.next.new.self c.in-Some.i c.in-Some.row.now
here c =
    let l = c.loop-i in
    turn (suc c.args.n) c.args.table.now l.i-iterator c.next.new.self c.next.result (omega arith)
    l.invariant.ahead l.invariant.size c.next.ensures.steps c.in-Some.i c.in-Some.row c.in-Some.is

told : (c : After-is_alone) → alone c.args.n (row_at (suc c.args.n) c.in-Some.i c.args.table.now) ≡ c.is_alone.result
told c = ap (alone c.args.n) (sym (here (goal.at.After-is_alone c).In-Some).is) ∙ sym c.is_alone.ensures

pub returns-then-is_alone : goal.returns-then-is_alone
returns-then-is_alone c =
    let p = goal.at.returns-then-is_alone c in
    let h = here p.In-Some in
    let w = suc c.args.n in
    let t = c.args.table.now in
    let found = told p.After-is_alone ∙ c.if-is_alone.true in
    found-row c.in-Some.i (passed_here (alone c.args.n) w (length t / w) t c.in-Some.i h.there found (rw h.number c.loop-i.invariant.passed))

pub loop-i-preserved : goal.loop-i-preserved
loop-i-preserved c =
    let p = goal.at.loop-i-preserved c in
    let h = here p.In-Some in
    let w = suc c.args.n in
    let t = c.args.table.now in
    let other = told p.After-is_alone ∙ c.if-is_alone.false in
    let next = passed-next (alone c.args.n) w (length t / w) t c.in-Some.i h.there other (rw h.number c.loop-i.invariant.passed) in
    record { can = search rules; ends = search rules; ahead = h.rest; size = h.width; passed = rw h.counted next }

pub returns : goal.returns
returns c =
    let l = c.loop-i in
    let w = suc c.args.n in
    let t = c.args.table.now in
    let over = rows_over w t l.i-iterator c.next.new.self c.next.result (omega arith)
    l.invariant.ahead l.invariant.size c.next.ensures.steps c.in-None.is in
    ap row_found (passed_none (alone c.args.n) w (length t / w) t _ over l.invariant.passed)
