-- The two cases of a call, with room for five numbers and without.
use mathlib.Core.Path.{◌≡◌, ap, ◌∙◌}
use mathlib.Core.List.{List}
use Prim.Native.Nat.{ℕ}
use lib.ListN.{length}
use borrow.Author.Tests.{eq-eqb, ne_eqb}
use Rattle.exports.specs.Numbered.{returned, in_five}

-- no room: everything is as it came
pub without-room : {T : Type 0} (numbers : List ℕ) (tables : T) (given : List ℕ) (before : T) → (length given ≡ 5 → ⊥)
    → returned 0 given before ≡ in_five numbers tables given before
without-room numbers tables given before h = rw (ne_eqb _ _ h)

-- room: the numbers and the tables that an answer has, where the code's answer is the definition's
pub with-room : {A T : Type 0} (numbers_of : A → List ℕ) (tables_of : A → T) (a b : A) (numbers given : List ℕ) (before : T) → length given ≡ 5
    → a ≡ b → numbers ≡ numbers_of a → returned 1 numbers (tables_of a) ≡ in_five (numbers_of b) (tables_of b) given before
with-room numbers_of tables_of a b numbers given before h same e =
    rw (eq-eqb _ _ h) (ap (λ (l : List ℕ). returned 1 l (tables_of a)) e ∙ ap (λ (x : _). returned 1 (numbers_of x) (tables_of x)) same)
