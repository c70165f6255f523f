-- `elimination::eliminate_in` meets its contract: the tables show the start of the definitions, and what the rows in order make of it.
use Rattle.std.proofs.Common.{rules, ◌≡◌, suc, pos, replicate, ℕ}
use mathlib.Core.Path.{ap, ◌∙◌}
use Rattle.elimination.proofs.Begun.{working-from, results-from, run-from}
use Rattle.elimination.proofs.Ended.{asked-finished, asked-conflict, asked-grown}
use Rattle.elimination.proofs.eliminate_in.Goals as goal

pub in_order-requires-clause-ready : goal.in_order-requires-clause-ready
in_order-requires-clause-ready c =
    let n = c.args.n in
    let m = c.args.m in
    let e = c.args.equations.now in
    let r = c.requires in
    let state = c.begin.new.state in
    let divisors : c.fill.new.self ≡ replicate m 1 = search rules in
    let marks = c.begin.ensures.marks ∙ ap (λ (k : ℕ). replicate k 1) r.lent.0.marks in
    let reasons = c.begin.ensures.reasons ∙ ap (λ (k : ℕ). replicate k (pos 0)) r.lent.0.reasons in (
      working-from n m e c.copy.new.into c.units.new.table c.fill.new.self c.copy.ensures c.units.ensures divisors
          r.le_n.3 r.le_n.4,
      results-from n m e c.copy.new.into c.units.new.table c.fill.new.self c.copy.ensures c.units.ensures divisors
          state.substitution.now state.marks.now state.way_back.now state.reasons.now c.begin.ensures.substitution marks c.begin.ensures.way_back
          reasons (r.le_n.0, r.le_n.1, r.le_n.2),
    )

pub returns-in-Finished-clause-run : goal.returns-in-Finished-clause-run
returns-in-Finished-clause-run c =
    let n = c.args.n in
    let m = c.args.m in
    let e = c.args.equations.now in
    let l = c.requires.lent.0 in
    let state = c.begin.new.state in
    let divisors : c.fill.new.self ≡ replicate m 1 = search rules in
    let marks = c.begin.ensures.marks ∙ ap (λ (k : ℕ). replicate k 1) l.marks in
    let reasons = c.begin.ensures.reasons ∙ ap (λ (k : ℕ). replicate k (pos 0)) l.reasons in
    let from =
    run-from n m e c.copy.new.into c.units.new.table c.fill.new.self c.copy.ensures c.units.ensures divisors
    state.substitution.now state.marks.now state.way_back.now state.reasons.now c.begin.ensures.substitution marks
    c.begin.ensures.way_back reasons in
    let s = c.in_order.ensures.same.1 in
    let b = c.begin.ensures.same.1 in
    let new = c.in_order.new.state in
    let zeros : c.fill-in-Finished.new.self ≡ replicate (suc m) (pos 0) = search rules in
    let told =
    asked-finished n m e c.in-Finished.steps new.substitution.now new.marks.now new.way_back.now new.reasons.now c.fill-in-Finished.new.self
    (s.substitution ∙ b.substitution ∙ l.substitution) (s.way_back ∙ b.way_back ∙ l.way_back) (s.reasons ∙ b.reasons ∙ l.reasons) zeros
    ((rw c.in-Finished.is at c.in_order.ensures.run) ∙ from) in
    record {
      outcome = told.0;
      substitution = told.1;
      marks = told.2;
      way_back = told.3;
      reasons = told.4.0;
      conflict_table = told.4.1;
      run_state = told.5;
    }

pub returns-in-Conflict-clause-run : goal.returns-in-Conflict-clause-run
returns-in-Conflict-clause-run c =
    let n = c.args.n in
    let m = c.args.m in
    let e = c.args.equations.now in
    let l = c.requires.lent.0 in
    let state = c.begin.new.state in
    let divisors : c.fill.new.self ≡ replicate m 1 = search rules in
    let marks = c.begin.ensures.marks ∙ ap (λ (k : ℕ). replicate k 1) l.marks in
    let reasons = c.begin.ensures.reasons ∙ ap (λ (k : ℕ). replicate k (pos 0)) l.reasons in
    let from =
    run-from n m e c.copy.new.into c.units.new.table c.fill.new.self c.copy.ensures c.units.ensures divisors
    state.substitution.now state.marks.now state.way_back.now state.reasons.now c.begin.ensures.substitution marks
    c.begin.ensures.way_back reasons in
    let s = c.in_order.ensures.same.1 in
    let b = c.begin.ensures.same.1 in
    let z = c.clear_run.ensures.zeros in
    let new = c.clear_run.new.state in
    let told =
    asked-conflict n m e new.substitution.now new.marks.now new.way_back.now new.reasons.now
    (z.substitution ∙ ap (λ (k : ℕ). replicate k (pos 0)) (s.substitution ∙ b.substitution ∙ l.substitution))
    (z.marks ∙ ap (λ (k : ℕ). replicate k 0) (s.marks ∙ b.marks ∙ l.marks))
    (z.way_back ∙ ap (λ (k : ℕ). replicate k (pos 0)) (s.way_back ∙ b.way_back ∙ l.way_back))
    (z.reasons ∙ ap (λ (k : ℕ). replicate k (pos 0)) (s.reasons ∙ b.reasons ∙ l.reasons)) c.in-Conflict.row c.in-Conflict.steps
    c.in_order.new.conflict (c.in_order.auto.conflict ∙ c.requires.lent.1) (rw c.in-Conflict.is at c.in_order.ensures.d)
    ((rw c.in-Conflict.is at c.in_order.ensures.run) ∙ from) in
    record {
      outcome = told.0;
      substitution = told.1;
      marks = told.2;
      way_back = told.3;
      reasons = told.4.0;
      conflict_table = told.4.1;
      run_state = told.5;
    }

pub returns-in-Grown-clause-run : goal.returns-in-Grown-clause-run
returns-in-Grown-clause-run c =
    let n = c.args.n in
    let m = c.args.m in
    let e = c.args.equations.now in
    let l = c.requires.lent.0 in
    let state = c.begin.new.state in
    let divisors : c.fill.new.self ≡ replicate m 1 = search rules in
    let marks = c.begin.ensures.marks ∙ ap (λ (k : ℕ). replicate k 1) l.marks in
    let reasons = c.begin.ensures.reasons ∙ ap (λ (k : ℕ). replicate k (pos 0)) l.reasons in
    let from =
    run-from n m e c.copy.new.into c.units.new.table c.fill.new.self c.copy.ensures c.units.ensures divisors
    state.substitution.now state.marks.now state.way_back.now state.reasons.now c.begin.ensures.substitution marks
    c.begin.ensures.way_back reasons in
    let s = c.in_order.ensures.same.1 in
    let b = c.begin.ensures.same.1 in
    let z = c.clear_run-in-Grown.ensures.zeros in
    let new = c.clear_run-in-Grown.new.state in
    let zeros : c.fill-in-Grown.new.self ≡ replicate (suc m) (pos 0) = search rules in
    let told =
    asked-grown n m e new.substitution.now new.marks.now new.way_back.now new.reasons.now
    (z.substitution ∙ ap (λ (k : ℕ). replicate k (pos 0)) (s.substitution ∙ b.substitution ∙ l.substitution))
    (z.marks ∙ ap (λ (k : ℕ). replicate k 0) (s.marks ∙ b.marks ∙ l.marks))
    (z.way_back ∙ ap (λ (k : ℕ). replicate k (pos 0)) (s.way_back ∙ b.way_back ∙ l.way_back))
    (z.reasons ∙ ap (λ (k : ℕ). replicate k (pos 0)) (s.reasons ∙ b.reasons ∙ l.reasons)) c.in-Grown.row c.in-Grown.steps
    c.fill-in-Grown.new.self zeros ((rw c.in-Grown.is at c.in_order.ensures.run) ∙ from) in
    record {
      outcome = told.0;
      substitution = told.1;
      marks = told.2;
      way_back = told.3;
      reasons = told.4.0;
      conflict_table = told.4.1;
      run_state = told.5;
    }
