-- `checker::judge` meets its contract: the multipliers and D are checked, and then the combined row decides.
use mathlib.Core.Path.{◌≡◌, sym, ap, ◌∙◌}
use mathlib.Core.Bool.{Bool, true}
use Prim.Native.Nat.{ℕ, suc}
use native.Mathlib.Numerals.{add-one}
use Rattle.std.proofs.Common.{rules}
use Rattle.std.specs.Prelude.{Result, Err}
use lib.IntN.{nat_abs}
use lib.ListN.{take}
use Rattle.rows.specs.Row.{at}
use Rattle.rules.specs.declared.Table.TheVariants.{Multipliers}
use Rattle.rules.specs.declared.Refusal.{Refusal}
use Rattle.rules.specs.declared.Refusal.TheVariants.{BadEntry}
use Rattle.limits.proofs.Verdicts.{found-one, found-none}
use Rattle.checker.proofs.Judged.{multiplier-bad, d-bad, d-good, d-negative, d-large, d-right}
use Rattle.rules.specs.Checker.{good_d, refutes}
use Rattle.rows.specs.Table.{rows_of}
use Rattle.checker.proofs.judge.Goals.{then-d-lt0-via-then-d-lt0, then-d-lt0-via-else-d-lt0+then-d-gt-LARGEST_D}
use Rattle.checker.proofs.judge.Goals as goal

-- the refusal of a multiplier, or of D, by its column
refused : ℕ → Result Bool Refusal
refused column = Err (BadEntry Multipliers 1 column)

pub returns-in-Some : goal.returns-in-Some
unfolding refused
returns-in-Some c =
    let a = c.args in
    let multipliers = take a.m a.table.now in
    let told = found-one multipliers c.in-Some.bad (sym c.first_beyond.ensures ∙ c.in-Some.is) in
    ap Err c.bad_multiplier.ensures ∙ ap refused (add-one c.in-Some.bad) ∙ rw told.0 at (multiplier-bad a.n a.m a.equations.now a.table.now told.1)

pub returns-then-d-lt0 : goal.returns-then-d-lt0
unfolding refused
returns-then-d-lt0 c =
    let a = c.args in
    let within = found-none (take a.m a.table.now) (sym c.first_beyond.ensures ∙ c.in_default.is) in
    let bad = d-bad a.n a.m a.equations.now a.table.now within in
    ap Err c.bad_multiplier-then-d-lt0.ensures
    ∙ ap refused (add-one a.m)
    ∙ bad (elim c.then-d-lt0.branch [
      | then-d-lt0-via-then-d-lt0 w ↦ let h = d-negative (at a.table.now a.m) in search (rules, h)
      | then-d-lt0-via-else-d-lt0+then-d-gt-LARGEST_D w ↦ let h = d-large (at a.table.now a.m) in search (rules, h)
    ])

pub refutes-requires-clause-within : goal.refutes-requires-clause-within
refutes-requires-clause-within c = (found-none (take c.args.m c.args.table.now) (sym c.first_beyond.ensures ∙ c.in_default.is), c.requires.equations_value)

pub returns : goal.returns
returns c =
    let a = c.args in
    let d = at a.table.now a.m in
    let within = found-none (take a.m a.table.now) (sym c.first_beyond.ensures ∙ c.in_default.is) in
    let right : good_d d ≡ true = let h = d-right d in search (rules, h) in
    let size : c.magnitude.result ≡ nat_abs d = search rules in
    d-good a.n a.m a.equations.now a.table.now within right c.refutes.result (sym (c.refutes.ensures ∙ ap (λ x. refutes a.n (take a.m a.table.now) x (rows_of (suc a.n) a.m a.equations.now)) size))
