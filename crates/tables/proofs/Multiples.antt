-- What `put_in` and `gather` make of rows: one row more, and how far from 0 the numbers get.
use mathlib.Core.Path.{◌≡◌, refl, ap, ap₂, ◌∙◌}
use mathlib.Core.Bool.{Bool, true, ◌&&◌}
use mathlib.Core.List.{List, [], ◌∷◌, ◌++◌}
use Prim.Native.Nat.{ℕ, ◌+◌, ◌*◌, ◌^◌, ◌≤◌, ◌<◌}
use native.Mathlib.Omega.{arith}
use lib.ListN.{length, drop, drop_of_length-le}
use lib.IntN.{ℤ, pos, neg_ℤ, nat_abs, ◌-ℤ◌}
use mir.Syntax.{w64}
use mir.Val.{to_z, of_z}
use Rattle.whole.specs.Limit.{W}
use Rattle.whole.proofs.Integers.{nat_abs-neg}
use Rattle.whole.proofs.Reify.{reify, ring}
use Rattle.whole.proofs.Steps.{steps, read_by}
use Rattle.rows.specs.Row.{at, less, gathered, bounded, all_within}
use Rattle.rows.specs.Table.{row_at}
use Rattle.rows.proofs.Lists.{tail_at}
use Rattle.rows.proofs.Bounded.{bounded-take, bounded-drop, bounded-mono, bounded-less, bounded-append}
use Rattle.tables.proofs.Rowed.{rows_from, rows_more}

-- ---- no times another row taken from a row
pub less_zero : (row other : List ℤ) → less row (pos 0) other ≡ row
unfolding less
less_zero [] other = refl
less_zero (a ∷ row) [] = refl
less_zero (a ∷ row) (b ∷ other) = ap₂ ◌∷◌ (ring (a ∷ b ∷ []) (search reify) (search reify) refl) (less_zero row other)

-- the row less q as often as its number at column k says
abbrev pub without : ℕ → List ℤ → List ℤ → List ℤ
without k q row = less row (at row k) q

pub without-none : (k : ℕ) (q row : List ℤ) → at row k ≡ pos 0 → without k q row ≡ row
without-none k q row e = ap (λ (z : ℤ). less row z q) e ∙ less_zero row q

-- ---- whether all is within the limit
-- a row of a table that is within the limit
pub within-row : (w r : ℕ) (t : List ℤ) → all_within t ≡ true → all_within (row_at w r t) ≡ true
within-row w r t e = bounded-take W w (drop (r * w) t) (bounded-drop W (r * w) t e)

-- such a row leaves the answer to the rows behind it
pub within-past : (row rest : List ℤ) → all_within row ≡ true → all_within (row ++ rest) ≡ all_within rest
within-past row rest e = bounded-append W row rest ∙ ap (λ (b : Bool). b && all_within rest) e

-- ---- rows gathered, from row r on
module _ (row cs : List ℤ) (w r : ℕ) (t : List ℤ) where
  pub gathered_none : length cs ≤ r → gathered row (drop r cs) (rows_from w (length cs) r t) ≡ row
  unfolding gathered
  gathered_none h = rw (drop_of_length-le cs h)

  pub gathered-more : r < length cs
      → gathered row (drop r cs) (rows_from w (length cs) r t)
      ≡ gathered (less row (neg_ℤ (at cs r)) (row_at w r t)) (drop (r + 1) cs) (rows_from w (length cs) (r + 1) t)
  unfolding gathered
  gathered-more h = rw (tail_at cs r (pos 0) h, rows_more w (length cs) r t h)

-- the code's 0 - c is -c
pub opposite-bits : (c : ℤ) → nat_abs c ≤ W → to_z w64 (of_z w64 (pos 0 -ℤ to_z w64 (of_z w64 c))) ≡ neg_ℤ c
opposite-bits c h = read_by (search steps) tt ∙ ring (c ∷ []) (search reify) (search reify) refl

-- r rows add at most r times W times W, so that 33 rows stay below 2 ^ 62
abbrev pub Sum : ℕ → List ℤ → Type 0
Sum r row = bounded (W + r * (W * W)) row ≡ true

pub sum-start : (row : List ℤ) → all_within row ≡ true → Sum 0 row
sum-start row e = bounded-mono W (W + 0 * (W * W)) row (omega arith) e

pub sum_fits : (r : ℕ) (row : List ℤ) → r ≤ 33 → Sum r row → bounded (2 ^ 62) row ≡ true
sum_fits r row h e = bounded-mono (W + r * (W * W)) (2 ^ 62) row (omega arith) e

pub sum_past : (r : ℕ) (row : List ℤ) → Sum r row → Sum (r + 1) row
sum_past r row e = bounded-mono (W + r * (W * W)) (W + (r + 1) * (W * W)) row (omega arith) e

pub sum_more : (r : ℕ) (row : List ℤ) (c : ℤ) (other : List ℤ) → nat_abs c ≤ W → all_within other ≡ true → Sum r row → Sum (r + 1) (less row (neg_ℤ c) other)
sum_more r row c other h f e =
    bounded-mono (W + r * (W * W) + W * W) (W + (r + 1) * (W * W)) (less row (neg_ℤ c) other) (omega arith)
    (bounded-less (W + r * (W * W)) W W row (neg_ℤ c) other e (omega (arith, nat_abs-neg c)) f)
