-- `looks::first_against` meets its contract: the chunks are the rows, and none of the rows passed is the one looked for.
use mathlib.Core.Path.{◌≡◌, sym, ap, ◌∙◌}
use Prim.Native.Nat.{suc, ◌/◌}
use native.Mathlib.Omega.{arith}
use borrow.Author.Rules.{rules}
use lib.ListN.{length}
use Rattle.rows.specs.Table.{row_at}
use Rattle.tables.proofs.Multiples.{within-row}
use Rattle.rules.specs.Inequalities.{against}
use Rattle.looks.specs.Found.{row_found}
use Rattle.looks.proofs.FirstRows.{passed_here, passed-next, passed_none, found-row}
use Rattle.looks.proofs.Chunks.{Turn, turn, rows_over}
use Rattle.looks.proofs.first_against.Goals.{After-are_against, In-Some}
use Rattle.looks.proofs.first_against.Goals as goal

-- the row of a turn, and what the call tells of it
here : (c : In-Some) → Turn (suc c.args.n) c.args.table.now c.loop-j.j-iterator c.next.new.self c.in-Some.j c.in-Some.other.now
here c =
    let l = c.loop-j in
    turn (suc c.args.n) c.args.table.now l.j-iterator c.next.new.self c.next.result (omega arith)
    l.invariant.ahead l.invariant.size c.next.ensures.steps c.in-Some.j c.in-Some.other c.in-Some.is

told : (c : After-are_against) → against c.args.n c.args.row.now (row_at (suc c.args.n) c.in-Some.j c.args.table.now) ≡ c.are_against.result
told c = ap (against c.args.n c.args.row.now) (sym (here (goal.at.After-are_against c).In-Some).is) ∙ sym c.are_against.ensures

pub returns-then-are_against : goal.returns-then-are_against
returns-then-are_against c =
    let p = goal.at.returns-then-are_against c in
    let h = here p.In-Some in
    let w = suc c.args.n in
    let t = c.args.table.now in
    let found = told p.After-are_against ∙ c.if-are_against.true in
    found-row c.in-Some.j (passed_here (against c.args.n c.args.row.now) w (length t / w) t c.in-Some.j h.there found (rw h.number c.loop-j.invariant.passed))

pub loop-j-preserved : goal.loop-j-preserved
loop-j-preserved c =
    let p = goal.at.loop-j-preserved c in
    let h = here p.In-Some in
    let w = suc c.args.n in
    let t = c.args.table.now in
    let other = told p.After-are_against ∙ c.if-are_against.false in
    let next = passed-next (against c.args.n c.args.row.now) w (length t / w) t c.in-Some.j h.there other (rw h.number c.loop-j.invariant.passed) in
    record { can = search rules; ends = search rules; ahead = h.rest; size = h.width; passed = rw h.counted next }

pub returns : goal.returns
returns c =
    let l = c.loop-j in
    let w = suc c.args.n in
    let t = c.args.table.now in
    let over = rows_over w t l.j-iterator c.next.new.self c.next.result (omega arith)
    l.invariant.ahead l.invariant.size c.next.ensures.steps c.in-None.is in
    ap row_found (passed_none (against c.args.n c.args.row.now) w (length t / w) t _ over l.invariant.passed)

pub are_against-requires : goal.are_against-requires
are_against-requires c =
    let h = here (goal.at.are_against-requires c).In-Some in
    (c.requires.0, h.long, c.requires.2, rw h.is (within-row (suc c.args.n) c.in-Some.j c.args.table.now c.requires.3))
