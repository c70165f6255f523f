-- Lists of which each element stands behind a space: one element, and several parts one after another.
use mathlib.Core.Path.{◌≡◌, refl, sym, ap, ◌∙◌}
use mathlib.Core.List.{List, [], ◌∷◌, ◌++◌, append-nil, append_assoc}
use Prim.Native.Nat.{ℕ}
use Rattle.matrix.specs.Bytes.{space}
use Rattle.matrix.specs.Printed.{spaced_by}

module _ {A : Type 0} (show : A → List ℕ) where
  pub spaced-one : (a : A) → spaced_by show (a ∷ []) ≡ space ∷ show a
  unfolding spaced_by
  spaced-one a = ap (λ (l : List ℕ). space ∷ l) (append-nil (show a))

  pub spaced-append : (a b : List A) → spaced_by show (a ++ b) ≡ spaced_by show a ++ spaced_by show b
  unfolding spaced_by
  spaced-append [] b = refl
  spaced-append (x ∷ a) b =
      ap (λ (l : List ℕ). space ∷ l)
      (ap (λ (l : List ℕ). show x ++ l) (spaced-append a b) ∙ sym (append_assoc (show x) (spaced_by show a) (spaced_by show b)))
