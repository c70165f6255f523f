-- `looks::first_pair` meets its contract: the chunks are the rows, and none of the rows passed is the first of a pair.
use mathlib.Core.Path.{◌≡◌, refl, sym, ap, ◌∙◌}
use Prim.Native.Nat.{suc, ◌+◌, ◌/◌, ◌≤◌}
use native.Mathlib.Nat.{div-le_self}
use native.Mathlib.Omega.{arith}
use borrow.Author.Rules.{rules}
use lib.ListN.{length}
use Rattle.tables.proofs.Multiples.{within-row}
use Rattle.looks.specs.Found.{row_found, pair_found}
use Rattle.looks.proofs.FirstRows.{rest-within, rest-rows, after, after-le, pair-none, pair-here, pair-next, found-some, found-none, found-pair}
use Rattle.looks.proofs.Chunks.{Turn, turn, rows_over}
use Rattle.looks.proofs.first_pair.Goals.{After-first_against, In-Some}
use Rattle.looks.proofs.first_pair.Goals as goal

-- the row of a turn, and what the call finds behind it
here : (c : In-Some) → Turn (suc c.args.n) c.args.table.now c.loop-i.i-iterator c.next.new.self c.in-Some.i c.in-Some.row.now
here c =
    let l = c.loop-i in
    turn (suc c.args.n) c.args.table.now l.i-iterator c.next.new.self c.next.result (omega arith)
    l.invariant.ahead l.invariant.size c.next.ensures.steps c.in-Some.i c.in-Some.row c.in-Some.is

told : (c : After-first_against) → c.first_against.result ≡ row_found (after c.args.n (length c.args.table.now / suc c.args.n) c.in-Some.i c.args.table.now)
told c =
    let h = here (goal.at.After-first_against c).In-Some in
    rw (h.is, rest-rows c.args.n c.in-Some.i c.args.table.now h.there) at c.first_against.ensures

pub first_against-requires : goal.first_against-requires
first_against-requires c =
    let h = here (goal.at.first_against-requires c).In-Some in
    let t = c.args.table.now in
    (h.long, c.requires.0, rw h.is (within-row (suc c.args.n) c.in-Some.i t c.requires.1), rest-within c.args.n c.in-Some.i t c.requires.1)

pub overflow_add-result-in-Some-first_against-2 : goal.overflow_add-result-in-Some-first_against-2
overflow_add-result-in-Some-first_against-2 c =
    let h = here (goal.at.overflow_add-result-in-Some-first_against-2 c).In-Some in
    let n = c.args.n in
    let t = c.args.table.now in
    let i = c.in-Some.i in
    let count = length t / suc n in
    let f = found-some (after n count i t) (sym (told (goal.at.overflow_add-result-in-Some-first_against-2 c).After-first_against) ∙ c.in-Some-first_against.is) in
    let few : count ≤ length t = div-le_self (length t) (suc n) in
    let last = after-le n count i t in
    omega (arith, f.0, last, few, h.there)

pub returns-in-Some-first_against : goal.returns-in-Some-first_against
returns-in-Some-first_against c =
    let h = here (goal.at.returns-in-Some-first_against c).In-Some in
    let n = c.args.n in
    let t = c.args.table.now in
    let i = c.in-Some.i in
    let count = length t / suc n in
    let f = found-some (after n count i t) (sym (told (goal.at.returns-in-Some-first_against c).After-first_against) ∙ c.in-Some-first_against.is) in
    let whole = sym (pair-here n count i t h.there f.1) ∙ rw h.number c.loop-i.invariant.passed in
    sym (sym (ap pair_found whole) ∙ found-pair i (i + 1 + after n count i t) ∙ rw f.0 refl)

pub loop-i-preserved : goal.loop-i-preserved
loop-i-preserved c =
    let h = here (goal.at.loop-i-preserved c).In-Some in
    let n = c.args.n in
    let t = c.args.table.now in
    let i = c.in-Some.i in
    let count = length t / suc n in
    let none = found-none (after n count i t) (sym (told (goal.at.loop-i-preserved c).After-first_against) ∙ c.in_default.is) in
    record {
      can = search rules;
      ends = search rules;
      ahead = h.rest;
      size = h.width;
      passed = rw h.counted (sym (pair-next n count i t h.there none) ∙ rw h.number c.loop-i.invariant.passed);
    }

pub returns : goal.returns
returns c =
    let l = c.loop-i in
    let n = c.args.n in
    let t = c.args.table.now in
    let over = rows_over (suc n) t l.i-iterator c.next.new.self c.next.result (omega arith)
    l.invariant.ahead l.invariant.size c.next.ensures.steps c.in-None.is in
    ap pair_found (sym (pair-none n (length t / suc n) _ t over) ∙ l.invariant.passed)
