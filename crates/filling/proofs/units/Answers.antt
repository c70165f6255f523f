-- `filling::units` meets its contract: zeros first, then one store for each row.
use mathlib.Core.Path.{◌≡◌, ap, ◌∙◌}
use Prim.Native.Nat.{ℕ, ◌*◌, ◌-◌}
use native.Mathlib.Nat.{zero-mul, sub-zero}
use native.Mathlib.Omega.{arith}
use lib.ListN.{replicate, length-replicate}
use lib.IntN.{pos}
use Rattle.rows.proofs.Sweep.{swept-start, swept-end}
use Rattle.filling.proofs.UnitRows.{units_from, unit-stored, units-none}
use Rattle.filling.proofs.units.Goals as goal

pub loop-r-init : goal.loop-r-init
loop-r-init c =
    let a = c.args in
    let e : c.fill.new.table ≡ replicate (a.count * a.w) (pos 0) = c.fill.ensures ∙ ap (λ (k : ℕ). replicate k (pos 0)) c.requires.0 in
    rw (e, zero-mul a.w, sub-zero a.count) (swept-start (replicate (a.count * a.w) (pos 0)) (units_from a.w 0 a.count))

pub loop-r-preserved : goal.loop-r-preserved
loop-r-preserved c =
    let a = c.args in
    unit-stored a.w a.count c.loop-r.r (units_from a.w 0 a.count) c.loop-r.table (omega arith) c.requires.1 c.loop-r.invariant

pub returns : goal.returns
returns c =
    let a = c.args in
    let e : c.loop-r.r ≡ a.count = omega arith in
    let none : a.count - c.loop-r.r ≡ 0 = omega arith in
    let zeros_long = length-replicate (a.count * a.w) (pos 0) in
    let rest = ap (units_from a.w c.loop-r.r) none ∙ units-none a.w c.loop-r.r in
    swept-end (omega (arith, c.loop-r.invariant.len, zeros_long, ap (λ (k : ℕ). k * a.w) e)) rest c.loop-r.invariant
