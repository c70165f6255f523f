-- Writes that are made one after another: the bytes of all of them, and those that a loop has still to write.
use mathlib.Core.Path.{◌≡◌, sym, ap, ◌∙◌}
use mathlib.Core.List.{List, ◌++◌}
use Rattle.matrix.specs.Poured.{Page, written}
use Rattle.matrix.proofs.Written.{written-append}

module _ {A : Type 0} where
  -- one part, then the other
  pub join : (a b : List A) (p : Page A) {q r : Page A} → q ≡ written a p → r ≡ written b q → r ≡ written (a ++ b) p
  join a b p {q} {r} h k = k ∙ ap (written b) h ∙ sym (written-append a b p)

  -- ---- in a loop: the part is written, and the rest is left
  pub ahead : (a b l : List A) (p : Page A) {q r : Page A} → l ≡ a ++ b → q ≡ written a p → written l p ≡ r → written b q ≡ r
  ahead a b l p e h k = ap (written b) h ∙ sym (written-append a b p) ∙ ap (λ (x : List A). written x p) (sym e) ∙ k
