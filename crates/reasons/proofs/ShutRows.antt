-- c times a row: from column i on, as a loop meets it, and how far from 0 it gets where c is 1, 0 or -1.
use mathlib.Core.Path.{◌≡◌, refl}
use mathlib.Core.Bool.{true}
use mathlib.Core.List.{List, [], ◌∷◌}
use Prim.Native.Nat.{ℕ, zero, suc, ◌+◌, ◌≤◌, ◌<◌}
use native.Mathlib.Nat.{mul-le-mul}
use native.Mathlib.Omega.{arith}
use lib.ListN.{length, drop, drop_of_length-le}
use lib.IntN.{ℤ, pos, nat_abs, ◌*ℤ◌}
use Rattle.whole.proofs.Integers.{nat_abs-*}
use Rattle.whole.proofs.Reify.{reify, ring}
use Rattle.rows.specs.Row.{at, scaled, bounded}
use Rattle.rows.proofs.Lists.{tail_at}
use Rattle.rows.proofs.Bounded.{bounded_at, bounded-from}

pub scaled-none : (c : ℤ) (row : List ℤ) (i : ℕ) → length row ≤ i → scaled c (drop i row) ≡ []
unfolding scaled
scaled-none c row i h = rw (drop_of_length-le row h)

pub scaled-more : (c : ℤ) (row : List ℤ) (i : ℕ) → i < length row → scaled c (drop i row) ≡ (c *ℤ at row i) ∷ scaled c (drop (i + 1) row)
unfolding scaled
scaled-more c row i h = rw (tail_at row i (pos 0) h)

at_scaled : (c : ℤ) (row : List ℤ) (i : ℕ) → at (scaled c row) i ≡ c *ℤ at row i
unfolding scaled
at_scaled c [] i = ring (c ∷ []) (search reify) (search reify) refl
at_scaled c (a ∷ row) zero = refl
at_scaled c (a ∷ row) (suc i) = at_scaled c row i

-- where c is 1, 0 or -1, no number gets further from 0
pub bounded-scaled : (B : ℕ) (c : ℤ) (row : List ℤ) → nat_abs c ≤ 1 → bounded B row ≡ true → bounded B (scaled c row) ≡ true
bounded-scaled B c row h e =
    bounded-from B (scaled c row) (λ i l. rw (at_scaled c row i, nat_abs-* c (at row i)) (omega (arith, mul-le-mul h (bounded_at B row i e))))
