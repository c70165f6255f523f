-- `answering::answer` meets its contract: what is printed is what the program says of the text.
use mathlib.Core.Path.{◌≡◌, subst}
use Prim.Native.Nat.{◌+◌, ◌*◌, ◌≤◌}
use native.Mathlib.Omega.{arith}
use lib.ListN.{length}
use Rattle.matrix.proofs.Counts.{Counted}
use Rattle.answering.proofs.Replied.{program-system, program-unread, counted-reading}
use Rattle.answering.proofs.Rooms.{area, inside, front, front-rows}
use borrow.Author.Rules.{rules}
use Rattle.answering.proofs.answer.Goals.{In-Ok}
use Rattle.answering.proofs.answer.Goals as goal
use Rattle.std.specs.Prelude.{Result, Ok}
use Rattle.rules.specs.declared.Refusal.{Refusal}
use Rattle.rules.specs.declared.System.{System}

-- the counts of the system that was read
fits : (c : In-Ok) → Counted (Ok c.in-Ok.system)
fits c = subst (λ (x : Result System Refusal). Counted x) c.in-Ok.is (counted-reading _ _ _ _ _ _ c.read.ensures)

equations-long : (c : In-Ok) → 1056 ≡ length c.read.new.equations
equations-long c = search rules

inequalities-long : (c : In-Ok) → 2112 ≡ length c.read.new.inequalities
inequalities-long c = search rules

equations-area : (c : In-Ok) → c.in-Ok.system.m * (c.in-Ok.system.n + 1) ≤ 1056
equations-area c = let h = fits c in area _ _ 32 33 h.2 (omega (arith, h.1))

inequalities-area : (c : In-Ok) → c.in-Ok.system.k * (c.in-Ok.system.n + 1) ≤ 2112
inequalities-area c = let h = fits c in area _ _ 64 33 h.3 (omega (arith, h.1))

pub overflow_add-equations : goal.overflow_add-equations
overflow_add-equations c = let h = fits (goal.at.overflow_add-equations c).In-Ok in omega (arith, h.1)

pub overflow_mul-equations : goal.overflow_mul-equations
overflow_mul-equations c = let h = fits (goal.at.overflow_mul-equations c).In-Ok in omega (arith, equations-area (goal.at.overflow_mul-equations c).In-Ok)

pub slice_bounds-equations-end : goal.slice_bounds-equations-end
slice_bounds-equations-end c = let o = (goal.at.slice_bounds-equations-end c).In-Ok in inside c.read.new.equations (equations-long o) (equations-area o)

pub slice_bounds-print_system-end : goal.slice_bounds-print_system-end
slice_bounds-print_system-end c = let o = (goal.at.slice_bounds-print_system-end c).In-Ok in front _ (equations-long o) (equations-area o)

pub overflow_add-inequalities : goal.overflow_add-inequalities
overflow_add-inequalities c = let h = fits (goal.at.overflow_add-inequalities c).In-Ok in omega (arith, h.1)

pub overflow_mul-inequalities : goal.overflow_mul-inequalities
overflow_mul-inequalities c = omega (arith, inequalities-area (goal.at.overflow_mul-inequalities c).In-Ok)

pub slice_bounds-inequalities-end : goal.slice_bounds-inequalities-end
slice_bounds-inequalities-end c = let o = (goal.at.slice_bounds-inequalities-end c).In-Ok in inside c.read.new.inequalities (inequalities-long o) (inequalities-area o)

pub slice_bounds-print_system-end-in-Ok : goal.slice_bounds-print_system-end-in-Ok
slice_bounds-print_system-end-in-Ok c = let o = (goal.at.slice_bounds-print_system-end-in-Ok c).In-Ok in front _ (inequalities-long o) (inequalities-area o)

pub print_system-requires : goal.print_system-requires
print_system-requires c =
    let o = (goal.at.print_system-requires c).In-Ok in
    record {
      size = fits o;
      lengths = (front-rows _ (equations-long o) _ _ (equations-area o), front-rows _ (inequalities-long o) _ _ (inequalities-area o));
    }

pub returns-in-Ok : goal.returns-in-Ok
returns-in-Ok c =
    let g = c.in-Ok in
    rw
    (program-system
    c.args.text.now
    _
    _
    c.read.result
    c.read.new.equations
    c.read.new.inequalities
    g.system.n
    g.system.m
    g.system.k
    c.room-equations.ensures
    c.room-inequalities.ensures
    c.read.ensures
    g.is)
    c.print_system.ensures

pub returns-in-Err : goal.returns-in-Err
returns-in-Err c =
    let g = c.in-Err in
    rw
    (program-unread
    c.args.text.now
    _
    _
    c.read.result
    c.read.new.equations
    c.read.new.inequalities
    g.refusal
    c.room-equations.ensures
    c.room-inequalities.ensures
    c.read.ensures
    g.is)
    c.error.ensures
