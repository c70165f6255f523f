-- `filling::units` meets its contract: zeros first, then one store for each row.
use Prim.Native.Nat.{◌*◌, ◌-◌}
use lib.ListN.{replicate}
use lib.IntN.{pos}
use Rattle.rows.proofs.Sweep.{Swept}
use Rattle.filling.proofs.UnitRows.{units_from}
use Rattle.filling.proofs.units.Given as goal

abbrev pub invariant-loop-r : goal.invariant-loop-r
invariant-loop-r l = Swept (replicate (l.count * l.w) (pos 0)) l.table (units_from l.w 0 l.count) (l.r * l.w) (units_from l.w l.r (l.count - l.r))
