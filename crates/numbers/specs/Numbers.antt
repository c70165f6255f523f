-- The answers as other languages get them: five numbers, with zeros behind those of the answer.
use Rattle.std.specs.Prelude.{List, [], ◌∷◌, ℕ}
use Rattle.matrix.specs.Poured.{poured}

unfoldable pub five : List ℕ → List ℕ
unfolding poured
five numbers = poured numbers (0 ∷ 0 ∷ 0 ∷ 0 ∷ 0 ∷ [])
