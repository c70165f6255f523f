-- `limits::check_table` meets its contract: the first entry beyond the limit, in rows and columns from 1.
use mathlib.Core.Path.{ap₂, sym, ◌∙◌}
use Prim.Native.Nat.{ℕ, ◌/◌, ◌%◌}
use native.Mathlib.Numerals.{add-one}
use Rattle.std.specs.Prelude.{Result, Err}
use Rattle.rules.specs.declared.Refusal.{Refusal}
use Rattle.rules.specs.declared.Refusal.TheVariants.{BadEntry}
use Rattle.rules.specs.Outcomes.{bad_entry}
use Rattle.limits.proofs.Verdicts.{found-one, found-none, table-bad, table-good}
use Rattle.limits.proofs.check_table.Goals as goal

pub returns-in-Some : goal.returns-in-Some
unfolding bad_entry
returns-in-Some c =
    let a = c.args in
    let told = found-one a.table.now c.in-Some.i (sym c.first_beyond.ensures ∙ c.in-Some.is) in
    let refused : ℕ → ℕ → Result (Unit {0}) Refusal = λ row column. Err (BadEntry a.which row column) in
    ap₂ refused (add-one (c.in-Some.i / a.w)) (add-one (c.in-Some.i % a.w)) ∙ rw told.0 at (table-bad a.w a.which a.table.now told.1)

pub returns-in-None : goal.returns-in-None
returns-in-None c = let a = c.args in table-good a.w a.which a.table.now (found-none a.table.now (sym c.first_beyond.ensures ∙ c.in-None.is))
