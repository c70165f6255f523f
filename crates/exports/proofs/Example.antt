-- What examples/ prints is what the definition computes: 3·x1 + 5·x2 - 7 = 0 with x1 >= 0 and x2 >= 0.
use mathlib.Core.Path.{◌≡◌, refl}
use mathlib.Core.List.{[], ◌∷◌}
use lib.IntN.{pos, neg_ℤ}
use Rattle.rules.specs.Outcomes.{Results, blank}
use Rattle.exports.specs.Numbered.{Returned, solved}

pub called : Returned Results
unfolding solved blank
called =
    solved 2 1 2 (pos 3 ∷ pos 5 ∷ neg_ℤ (pos 7) ∷ []) (neg_ℤ (pos 1) ∷ pos 0 ∷ pos 0 ∷ pos 0 ∷ neg_ℤ (pos 1) ∷ pos 0 ∷ []) (blank 2 1 2) (0 ∷ 0 ∷ 0 ∷ 0 ∷ 0 ∷ [])

pub numbers-printed : called.numbers ≡ 3 ∷ 1 ∷ 2 ∷ 3 ∷ 0 ∷ []
unfolding called
numbers-printed = refl

pub sets-printed : called.tables.used ≡ 1 ∷ 1 ∷ []
unfolding called
sets-printed = refl
