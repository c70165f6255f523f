-- Decimal digits one by one, as the code writes them: none in no place, one below 10, else those before the last and the last.
use mathlib.Core.Path.{◌≡◌, ap, ◌∙◌}
use mathlib.Core.List.{[], ◌∷◌, ◌++◌}
use Prim.Native.Nat.{ℕ, suc, ◌-◌, ◌/◌, ◌%◌, ◌≤◌, ◌<◌}
use native.Mathlib.Omega.{arith}
use borrow.Author.Tests.{lt-ltb, le-ltb}
use Rattle.matrix.specs.Bytes.{digit_byte}
use Rattle.matrix.specs.Printed.{decimal_in}

pub digits-none : (places x : ℕ) → places ≡ 0 → decimal_in places x ≡ []
unfolding decimal_in
digits-none places x e = rw e

module _ (places x : ℕ) (n : places ≡ 0 → ⊥) where
  some : places ≡ suc (places - 1)
  some = omega arith

  pub digits_last : x < 10 → decimal_in places x ≡ digit_byte (x % 10) ∷ []
  unfolding decimal_in
  digits_last h =
      let all : x % 10 ≡ x = omega arith in
      rw (some, lt-ltb x 10 h, all)

  pub digits_more : 10 ≤ x → decimal_in places x ≡ decimal_in (places - 1) (x / 10) ++ digit_byte (x % 10) ∷ []
  unfolding decimal_in
  digits_more h = ap (λ (p : ℕ). decimal_in p x) some ∙ rw (le-ltb x 10 h)
