-- `answering::print_system` meets its contract: within the limits every table has room, and what is printed is the answer, whatever the
-- tables held.
use mathlib.Core.Path.{sym, ap, ◌∙◌}
use mathlib.Core.List.{List}
use Prim.Native.Nat.{ℕ, ◌+◌, ◌*◌, ◌≤◌}
use native.Mathlib.Numerals.{add-one}
use native.Mathlib.Omega.{arith}
use Rattle.matrix.specs.Poured.{page, written}
use Rattle.solver.specs.Answered.{tables}
use lib.ListN.{take}
use Rattle.answering.proofs.Rooms.{area, front, front-rows}
use Rattle.answering.proofs.Solved.{Right, printed-of, in-range, answered-is}
use Rattle.answering.proofs.print_system.Goals.{Start, After-solve_in-outcome}
use Rattle.answering.proofs.print_system.Goals as goal

square : (c : Start) → c.args.system.n * (c.args.system.n + 1) ≤ 1056
square c = area _ _ 32 33 c.requires.size.1 (omega (arith, c.requires.size.1))

reasons-area : (c : Start) → c.args.system.n * (c.args.system.m + 1) ≤ 1056
reasons-area c = area _ _ 32 33 c.requires.size.1 (omega (arith, c.requires.size.2))

rows-area : (c : Start) → c.args.system.k * (c.args.system.n + 1) ≤ 2112
rows-area c = area _ _ 64 33 c.requires.size.3 (omega (arith, c.requires.size.1))

pub print-requires-clause-lengths : goal.print-requires-clause-lengths
print-requires-clause-lengths c =
    let s = (goal.at.print-requires-clause-lengths c).Start in
    let n = c.args.system.n in
    let z = c.requires.size in
    let kept = c.solve_in-outcome.ensures.same in (
      kept.1.substitution ∙ front-rows c.room-substitution.result c.room-substitution.ensures n n (square s),
      kept.1.marks ∙ sym (front c.room-marks.result c.room-marks.ensures z.1),
      c.solve_in-outcome.auto.conflict ∙ sym (front c.room-conflict.result c.room-conflict.ensures (omega (arith, z.2))) ∙ add-one c.args.system.m,
      kept.2.tightened_long ∙ front-rows c.room-tightened.result c.room-tightened.ensures c.args.system.k n (rows-area s),
    )

pub returns : goal.returns
returns c =
    let q = (goal.at.returns c).Start in
    let a = c.args in
    let s = a.system in
    let z = c.requires.size in
    let given =
    tables (take (s.n * (s.n + 1)) c.room-substitution.result) (take s.n c.room-marks.result) (take (s.n * (s.n + 1)) c.room-way_back.result)
    (take (s.n * (s.m + 1)) c.room-reasons.result) (take (s.m + 1) c.room-conflict.result) (take (s.k * (s.n + 1)) c.room-tightened.result)
    (take s.k c.room-used.result) in
    let right : Right s.n s.m s.k a.equations.now a.inequalities.now given =
    record {
      equations = c.requires.lengths.0;
      inequalities = c.requires.lengths.1;
      substitution = front-rows c.room-substitution.result c.room-substitution.ensures s.n s.n (square q);
      marks = sym (front c.room-marks.result c.room-marks.ensures z.1);
      way_back = front-rows c.room-way_back.result c.room-way_back.ensures s.n s.n (square q);
      reasons = front-rows c.room-reasons.result c.room-reasons.ensures s.n s.m (reasons-area q);
      conflict = sym (front c.room-conflict.result c.room-conflict.ensures (omega (arith, z.2))) ∙ add-one s.m;
      tightened = front-rows c.room-tightened.result c.room-tightened.ensures s.k s.n (rows-area q);
      used = sym (front c.room-used.result c.room-used.ensures z.3);
    } in
    let text =
    printed-of s.n s.m s.k _ _ _ c.solve_in-outcome.ensures.answer
    ∙ sym (answered-is s.n s.m s.k a.equations.now a.inequalities.now given (in-range s.n s.m s.k z.0 z.1 z.2 z.3) right) in
    c.print.ensures ∙ ap (λ (b : List ℕ). written b (page a.page.now 0)) text
