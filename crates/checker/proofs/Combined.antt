-- The combined row: the code gathers it in the first part of a row of 0s, and it stays far below 2 ^ 63.
use mathlib.Core.Path.{◌≡◌, refl, ap, ◌∙◌}
use mathlib.Core.Bool.{true}
use mathlib.Core.List.{List, ◌∷◌}
use Prim.Native.Nat.{ℕ, zero, suc, ◌+◌, ◌*◌, ◌≤◌}
use native.Mathlib.Numerals.{add-one}
use native.Mathlib.Omega.{arith}
use lib.ListN.{length, take, replicate, length-replicate}
use lib.IntN.{ℤ, pos}
use Rattle.whole.specs.Limit.{W}
use Rattle.rows.specs.Row.{zeros, gathered, bounded, all_within}
use Rattle.rows.specs.Table.{rows_of}
use Rattle.rows.proofs.Algebra.{length-gathered}
use Rattle.rows.proofs.Bounded.{bounded-mono, bounded-zeros, bounded-rows_of, bounded-gathered}
use Rattle.rules.specs.Checker.{combined}

-- ---- the row that is lent: the first part of a row of 0s
take-zeros : (w k : ℕ) → w ≤ k → take w (replicate k (pos 0)) ≡ replicate w (pos 0)
take-zeros zero k h = refl
take-zeros (suc w) zero h = absurd (omega arith)
take-zeros (suc w) (suc k) h = ap (λ (l : List ℤ). pos 0 ∷ l) (take-zeros w k (omega arith))

pub lent-zeros : (n k : ℕ) → n + 1 ≤ k → take (n + 1) (replicate k (pos 0)) ≡ zeros (suc n)
unfolding zeros
lent-zeros n k h = take-zeros (n + 1) k h ∙ ap (λ (w : ℕ). replicate w (pos 0)) (add-one n)

pub within-zeros : (w : ℕ) → all_within (zeros w) ≡ true
unfolding zeros
within-zeros w = bounded-zeros W w

pub length-zeros : (w : ℕ) → length (zeros w) ≡ w
unfolding zeros
length-zeros w = length-replicate w (pos 0)

-- ---- the row that comes back
module _ (n m : ℕ) (multipliers equations : List ℤ) (few : n ≤ 32) (many : length multipliers ≡ m) where
  -- the first n + 1 of the 33 places
  abbrev pub place : List ℤ
  place = take (n + 1) (replicate 33 (pos 0))

  pub empty : place ≡ zeros (suc n)
  empty = lent-zeros n 33 (omega arith)

  pub width : length place ≡ suc n
  width = ap length empty ∙ length-zeros (suc n)

  pub gotten : (row : List ℤ) → row ≡ gathered place multipliers (rows_of (length place) (length multipliers) equations)
      → row ≡ combined n multipliers (rows_of (suc n) m equations)
  unfolding combined
  gotten row e = rw (width, many, empty) at e

pub length-combined : (n : ℕ) (multipliers : List ℤ) (equations : List (List ℤ)) → length (combined n multipliers equations) ≡ suc n
unfolding combined
length-combined n multipliers equations = length-gathered (zeros (suc n)) multipliers equations ∙ length-zeros (suc n)

-- each row adds at most W times W, so that 32 rows fit 64 bits
pub combined-fits : (n m : ℕ) (multipliers equations : List ℤ) → length multipliers ≡ m → m ≤ 32
    → all_within multipliers ≡ true → all_within equations ≡ true
    → bounded 9223372036854775807 (combined n multipliers (rows_of (suc n) m equations)) ≡ true
unfolding combined
combined-fits n m multipliers equations e h f g =
    let rows = rows_of (suc n) m equations in
    let sized = bounded-gathered W W W (zeros (suc n)) multipliers rows (within-zeros (suc n)) f (bounded-rows_of W (suc n) m equations g) in
    bounded-mono (W + length multipliers * (W * W)) 9223372036854775807 (gathered (zeros (suc n)) multipliers rows) (omega arith) sized
