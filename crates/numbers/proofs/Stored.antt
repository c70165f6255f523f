-- One more number stored behind those that are poured, as long as there is room.
use mathlib.Core.Path.{◌≡◌, refl, ap}
use mathlib.Core.List.{List, [], ◌∷◌, ◌++◌}
use Prim.Native.Nat.{ℕ, ◌<◌}
use native.Mathlib.Omega.{arith}
use lib.ListN.{length, set}
use Rattle.matrix.specs.Poured.{poured}

pub stored : (numbers table : List ℕ) (x : ℕ) → length numbers < length table → set (poured numbers table) (length numbers) x ≡ poured (numbers ++ x ∷ []) table
unfolding poured
stored [] [] x h = absurd (omega arith)
stored [] (old ∷ table) x h = refl
stored (a ∷ numbers) [] x h = absurd (omega arith)
stored (a ∷ numbers) (old ∷ table) x h = ap (λ (l : List ℕ). a ∷ l) (stored numbers table x (omega arith))
