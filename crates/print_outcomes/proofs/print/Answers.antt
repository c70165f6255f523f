-- `print_outcomes::print` meets its contract: in each kind of outcome the definition computes.
use mathlib.Core.Path.{◌≡◌}
use mathlib.Core.List.{List, []}
use Prim.Native.Nat.{ℕ}
use borrow.Author.Rules.{rules}
use Rattle.outcomes.specs.Answered.{tables}
use Rattle.matrix.specs.Printed.{printed}
use Rattle.print_numbers.specs.declared.Page.{Page}
use Rattle.print_numbers.specs.Shown.{Prints}
use Rattle.print_outcomes.proofs.print.Goals as goal
use Rattle.print_outcomes.proofs.print.Goals.{in-Open, in-EquationConflict, in-OneRowConflict, in-TwoRowConflict, in-Refused}

-- what an arm printed, at the page and the outcome behind the `match`
arm : {before last after : Page} {bytes whole : List ℕ} → Prints before last bytes → after ≡ last → whole ≡ bytes → Prints before after whole
arm h e f = rw (e, f) h

pub returns : goal.returns
unfolding printed
returns c =
    let a = c.args in
    let results = tables a.substitution.now a.marks.now [] [] a.conflict.now a.tightened.now a.used.now in
    let told : Prints _ c.match-outcome.sheet (printed a.system.n a.system.m a.system.k a.outcome results) =
    elim c.match-outcome.branch [
      | in-Open w ↦ arm w.print_open.ensures w.sheet-is (rw w.in-Open.is)
      | in-EquationConflict w ↦ arm w.print_equations.ensures w.sheet-is (rw w.in-EquationConflict.is)
      | in-OneRowConflict w ↦ arm w.print_row.ensures w.sheet-is (rw w.in-OneRowConflict.is)
      | in-TwoRowConflict w ↦ arm w.print_rows.ensures w.sheet-is (rw w.in-TwoRowConflict.is)
      | in-Refused w ↦ arm w.put_error.ensures w.sheet-is (rw w.in-Refused.is)
    ] in
    search rules
