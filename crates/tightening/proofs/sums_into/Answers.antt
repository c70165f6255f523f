-- `tightening::sums_into` meets its contract: a row of zeros with the inequality's constant, in which the substitution's rows are gathered.
use mathlib.Core.Path.{◌≡◌, sym, ap, ap₂, ◌∙◌}
use mathlib.Core.List.{List}
use Prim.Native.Nat.{suc, ◌*◌}
use native.Mathlib.Omega.{arith}
use lib.ListN.{length, set, take, replicate, length-set, length-replicate}
use lib.Seq.{length-take-le}
use lib.IntN.{ℤ, pos}
use mir.Syntax.{w64}
use mir.Val.{to_z, of_z}
use Rattle.whole.specs.Limit.{W}
use Rattle.rows.specs.Row.{at, zeros, all_within}
use Rattle.rows.proofs.Bounded.{bounded_at, bounded-take, bounded-set, bounded-zeros}
use Rattle.rules.specs.Inequalities.{sums}
use Rattle.tightening.proofs.TightRow.{back-small}
use Rattle.tightening.proofs.sums_into.Goals.{After-fill}
use Rattle.tightening.proofs.sums_into.Goals as goal

-- the row at the call: zeros with the constant of the inequality behind them
abbrev first : After-fill → List ℤ
first c = let a = c.args in set c.fill.new.table a.n (to_z w64 (of_z w64 (at a.inequality.now a.n)))

first-is : (c : After-fill) → let a = c.args in first c ≡ set (replicate (suc a.n) (pos 0)) a.n (at a.inequality.now a.n)
first-is c = let a = c.args in rw (back-small (at a.inequality.now a.n) (bounded_at W a.inequality.now a.n c.requires.inequality_value.0), c.fill.ensures, c.requires.into_len.0)

first-long : (c : After-fill) → length (first c) ≡ suc c.args.n
first-long c =
    let n = c.args.n in
    ap length (first-is c) ∙ length-set (replicate (suc n) (pos 0)) n _ ∙ length-replicate (suc n) (pos 0)

-- the coefficients
short : (c : After-fill) → length (take c.args.n c.args.inequality.now) ≡ c.args.n
short c = length-take-le c.args.n c.args.inequality.now (omega arith)

pub gather-requires : goal.gather-requires
gather-requires c =
    let f = (goal.at.gather-requires c).After-fill in
    let r = c.requires in
    let n = c.args.n in
    let row = c.args.inequality.now in (
      r.into_len.2 ∙ sym (ap₂ ◌*◌ (short f) (first-long f)),
      omega (arith, short f),
      ap all_within (first-is f) ∙ bounded-set W (replicate (suc n) (pos 0)) n (at row n) (bounded-zeros W (suc n)) (bounded_at W row n r.inequality_value.0),
      bounded-take W n row r.inequality_value.0,
      r.inequality_value.1,
    )

pub returns : goal.returns
unfolding sums zeros
returns c =
    let f = (goal.at.returns c).After-fill in
    rw (first-long f, short f, first-is f) at c.gather.ensures
