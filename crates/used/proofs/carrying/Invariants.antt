-- `used::carrying` meets its contract: what is noted and what is left are all the columns that carry.
use Rattle.std.proofs.Common.{◌≡◌, ◌++◌, ◌≤◌, length, take, drop}
use Rattle.used.specs.Carrying.{carrying as carrying_of}
use Rattle.used.proofs.carrying.Given as goal

abbrev pub invariant-loop-p : goal.invariant-loop-p
invariant-loop-p l = record {
  all : take l.count l.columns ++ carrying_of l.p (drop l.p l.marks) (drop l.p l.sums) ≡ carrying_of 0 l.marks l.sums;
  few : l.count ≤ l.p;
  size : length l.columns ≡ 32;
}
