-- The front of a table that has room.
use mathlib.Core.Path.{◌≡◌, sym, ap, ◌∙◌}
use mathlib.Core.List.{List}
use Prim.Native.Nat.{ℕ, suc, ◌+◌, ◌*◌, ◌≤◌}
use native.Mathlib.Nat.{mul-le-mul}
use native.Mathlib.Numerals.{add-one}
use native.Mathlib.Omega.{arith}
use lib.ListN.{length, take}
use lib.Seq.{length-take-le}

module _ {A : Type 0} (l : List A) {most : ℕ} (long : most ≡ length l) where
  pub inside : {size : ℕ} → size ≤ most → size ≤ length l
  inside h = omega (arith, long, h)

  pub front : {size : ℕ} → size ≤ most → size ≡ length (take size l)
  front {size} h = sym (length-take-le size l (inside h))

  -- rows of b numbers and one more
  pub front-rows : (a b : ℕ) → a * (b + 1) ≤ most → length (take (a * (b + 1)) l) ≡ a * suc b
  front-rows a b h = sym (front h) ∙ ap (λ (w : ℕ). a * w) (add-one b)

pub area : (a b p q : ℕ) → a ≤ p → b + 1 ≤ q → a * (b + 1) ≤ p * q
area a b p q h k = mul-le-mul h k
