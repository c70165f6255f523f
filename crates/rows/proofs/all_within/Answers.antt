-- `rows::all_within` meets its contract: the definition is the conjunction of all tests.
use Rattle.std.proofs.Common.{rules, tests, ◌∙◌, sym}
use Rattle.std.proofs.lemmas.Iterator.{YieldsList-from_slice}
use Rattle.std.proofs.lemmas.Iterator.Search.{all_from_yields_List}
use Rattle.whole.specs.Limit.{within}
use Rattle.rows.proofs.Bounded.{within-all}
use Rattle.rows.proofs.all_within.Goals as goal

pub returns : goal.returns
returns c =
    let row = c.args.row.now in
    let e = all_from_yields_List within _ _ c.all.result c.all.ensures.ran (YieldsList-from_slice row cc) (λ x b q k. search (rules, tests)) in
    e ∙ sym (within-all row)
