-- `filling::begin` meets its contract: the rows of a table are n + 1 wide, and so are those of the start.
use mathlib.Core.Path.{ap, ◌∙◌}
use mathlib.Core.List.{map}
use Prim.Native.Nat.{ℕ}
use native.Mathlib.Numerals.{add-one}
use Rattle.rows.specs.Row.{unit_row}
use Rattle.rows.specs.Table.{flat}
use Rattle.rules.specs.Elimination.{counted, identity}
use Rattle.filling.proofs.begin.Goals as goal

pub returns-clause-substitution : goal.returns-clause-substitution
unfolding identity
returns-clause-substitution c = c.units.ensures ∙ ap (λ (w : ℕ). flat (map (unit_row w) (counted 0 c.args.n))) (add-one c.args.n)

pub returns-clause-way_back : goal.returns-clause-way_back
unfolding identity
returns-clause-way_back c = c.units-2.ensures ∙ ap (λ (w : ℕ). flat (map (unit_row w) (counted 0 c.args.n))) (add-one c.args.n)
