-- `looks::is_alone` meets its contract: the coefficients are all 0, and then the constant decides.
use mathlib.Core.Path.{◌≡◌, sym, ap, ◌∙◌}
use native.Mathlib.Omega.{arith}
use borrow.Author.Rules.{rules}
use borrow.Author.Tests.{tests}
use lib.Dec.{eqb}
use lib.ListN.{take}
use lib.IntN.{nat_abs}
use Rattle.std.proofs.lemmas.Iterator.{YieldsList-from_slice}
use Rattle.std.proofs.lemmas.Iterator.Search.{all_from_yields_List}
use Rattle.whole.proofs.Taken.{back}
use Rattle.rows.specs.Row.{at, all_zero}
use Rattle.rules.specs.Inequalities.{positive}
use Rattle.looks.proofs.Conflicts.{zeros-all, alone-not, alone-by}
use Rattle.looks.proofs.is_alone.Goals.{After-all}
use Rattle.looks.proofs.is_alone.Goals as goal

-- what the call tells of the coefficients
told : (c : After-all) → c.all.result ≡ all_zero (take c.args.n c.args.row.now)
told c =
    let row = take c.args.n c.args.row.now in
    all_from_yields_List (λ z. eqb (nat_abs z) 0) _ _ c.all.result c.all.ensures.ran (YieldsList-from_slice row cc) (λ x b q k. search (rules, tests)) ∙ zeros-all row

pub returns-then-all : goal.returns-then-all
returns-then-all c =
    let a = c.args in
    ap positive (back (at a.row.now a.n) (omega arith)) ∙ sym (alone-by a.n a.row.now (sym (told (goal.at.returns-then-all c).After-all) ∙ c.if-all.true))

pub returns-else-all : goal.returns-else-all
returns-else-all c =
    let a = c.args in
    c.if-all.false ∙ sym (alone-not a.n a.row.now (sym (told (goal.at.returns-else-all c).After-all) ∙ c.if-all.false))
