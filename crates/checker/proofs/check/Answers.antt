-- `checker::check` meets its contract: the checks in their order, then the judgement.
use mathlib.Core.Path.{◌≡◌, sym, ap, ◌∙◌}
use Prim.Native.Nat.{ℕ, suc, ◌+◌, ◌*◌, ◌≤◌}
use native.Mathlib.Nat.{mul-le-mul}
use native.Mathlib.Numerals.{add-one}
use native.Mathlib.Omega.{arith}
use Rattle.std.proofs.Common.{rules}
use Rattle.rules.specs.declared.Table.TheVariants.{Equations}
use Rattle.checker.proofs.Cases.{in-range, out_of_range, equations-wrong, table-wrong, entry-bad, entries-good, good-within}
use Rattle.checker.proofs.check.Goals.{then-equations-m-via-then-equations-m, then-equations-m-via-else-equations-m+then-table-m}
use Rattle.checker.proofs.check.Goals as goal

pub returns-then-not-in_range : goal.returns-then-not-in_range
returns-then-not-in_range c = let a = c.args in out_of_range a.n a.m a.equations.now a.table.now (sym c.in_range.ensures ∙ c.if-not-in_range.true)

pub overflow_add-w : goal.overflow_add-w
overflow_add-w c = let h = in-range c.args.n c.args.m (sym c.in_range.ensures ∙ c.if-not-in_range.false) in omega (arith, h.few)

pub overflow_mul-m : goal.overflow_mul-m
overflow_mul-m c =
    let h = in-range c.args.n c.args.m (sym c.in_range.ensures ∙ c.if-not-in_range.false) in
    let w : c.args.n + 1 ≤ 33 = omega (arith, h.few) in
    omega (arith, mul-le-mul h.rows w)

-- the code has n + 1
numbers : (m n : ℕ) → m * (n + 1) ≡ m * suc n
numbers m n = ap (λ (w : ℕ). m * w) (add-one n)

pub returns-then-equations-m : goal.returns-then-equations-m
returns-then-equations-m c =
    let a = c.args in
    let range = sym c.in_range.ensures ∙ c.if-not-in_range.false in
    elim c.then-equations-m.branch [
      | then-equations-m-via-then-equations-m w ↦
          equations-wrong a.n a.m a.equations.now a.table.now range (λ e. w.if-equations-m.true (e ∙ sym (numbers a.m a.n)))
      | then-equations-m-via-else-equations-m+then-table-m w ↦
          table-wrong a.n a.m a.equations.now a.table.now range (w.if-equations-m.false ∙ numbers a.m a.n) (λ e. w.if-table-m.true (e ∙ sym (add-one a.m)))
    ]

pub check_table-requires : goal.check_table-requires
check_table-requires c = let h = in-range c.args.n c.args.m (sym c.in_range.ensures ∙ c.if-not-in_range.false) in omega (arith, h.few)

pub returns-in_err-check_table : goal.returns-in_err-check_table
returns-in_err-check_table c =
    let a = c.args in
    let range = sym c.in_range.ensures ∙ c.if-not-in_range.false in
    let bad = rw (add-one a.n) at c.in_err-check_table.ensures in
    let h = entry-bad a.n a.m a.equations.now a.table.now range (c.if-equations-m.false ∙ numbers a.m a.n) (c.if-table-m.false ∙ add-one a.m) _ bad in
    search (rules, h)

pub judge-requires-clause-le_n : goal.judge-requires-clause-le_n
judge-requires-clause-le_n c =
    let a = c.args in
    let h = in-range a.n a.m (sym c.in_range.ensures ∙ c.if-not-in_range.false) in
    (h.some, h.few, h.rows, c.if-equations-m.false ∙ numbers a.m a.n, c.if-table-m.false ∙ add-one a.m)

pub returns : goal.returns
returns c =
    let a = c.args in
    let range = sym c.in_range.ensures ∙ c.if-not-in_range.false in
    let within = good-within (suc a.n) Equations a.equations.now (rw (add-one a.n) at c.in_ok-check_table.ensures) in
    c.judge.ensures ∙ entries-good a.n a.m a.equations.now a.table.now range (c.if-equations-m.false ∙ numbers a.m a.n) (c.if-table-m.false ∙ add-one a.m) within
