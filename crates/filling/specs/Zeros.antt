-- The four tables of a run's state after a conflict or a refusal.
use Rattle.std.specs.Prelude.{◌≡◌, length, replicate, pos}
use Rattle.rules.specs.declared.StateTables.{StateTables}

-- "Tables not named as filled hold zeros."
pub record Zeros (old new : StateTables) : Type 0 where
  pub substitution : new.substitution.now ≡ replicate (length old.substitution.now) (pos 0)
  pub marks : new.marks.now ≡ replicate (length old.marks.now) 0
  pub way_back : new.way_back.now ≡ replicate (length old.way_back.now) (pos 0)
  pub reasons : new.reasons.now ≡ replicate (length old.reasons.now) (pos 0)
