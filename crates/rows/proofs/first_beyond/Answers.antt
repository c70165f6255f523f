-- `rows::first_beyond` meets its contract: the columns passed and the first one ahead make the row's first.
use native.Mathlib.Omega.{arith}
use Rattle.std.proofs.Common.{rules, tests, ◌≡◌, ◌+◌, pos, false, true, not, drop, ap}
use Rattle.std.proofs.lemmas.List.Sums.{prefix_len-drop_all, prefix_len-drop_no, prefix_len-drop_yes}
use Rattle.whole.specs.Limit.{within}
use Rattle.rows.specs.Row.{at, first_beyond}
use Rattle.rows.proofs.Loops.{beyond-position}
use Rattle.rows.proofs.first_beyond.Goals as goal

pub returns-then-not-within : goal.returns-then-not-within
returns-then-not-within c =
    let row = c.args.row.now in
    let i = c.loop-i.i in
    let beyond : within (at row i) ≡ false = search (rules, tests) in
    let here = prefix_len-drop_no (λ z. not (not (within z))) row i (pos 0) (omega arith) (ap (λ b. not (not b)) beyond) in
    let place : first_beyond row ≡ i = omega (arith, here, beyond-position (drop i row), c.loop-i.invariant) in
    grind (arith, place)

pub loop-i-preserved : goal.loop-i-preserved
loop-i-preserved c =
    let row = c.args.row.now in
    let i = c.loop-i.i in
    let passed : within (at row i) ≡ true = search rules in
    let later = prefix_len-drop_yes (λ z. not (not (within z))) row i (pos 0) (omega arith) (ap (λ b. not (not b)) passed) in
    omega (arith, later, beyond-position (drop i row), beyond-position (drop (i + 1) row), c.loop-i.invariant)

pub returns : goal.returns
returns c =
    let row = c.args.row.now in
    let i = c.loop-i.i in
    let none = prefix_len-drop_all (λ z. not (not (within z))) row i (omega arith) in
    let place : first_beyond row ≡ i = omega (arith, none, beyond-position (drop i row), c.loop-i.invariant) in
    grind (arith, place)
