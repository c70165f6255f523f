-- Each definition of a row from column i on, as the loops meet it: what is left past the last column, and one column more.
use mathlib.Core.Path.{◌≡◌, refl, sym, ap, ◌∙◌}
use mathlib.Core.Bool.{Bool, true, false, not, ◌&&◌, cond, and-false, or-true}
use mathlib.Core.Logic.{◌⊎◌, inl, inr}
use mathlib.Core.List.{List, [], ◌∷◌}
use Prim.Native.Nat.{ℕ, suc, ◌+◌, ◌≤◌, ◌<◌}
use native.Mathlib.Omega.{arith}
use borrow.Author.Tests.{ne_eqb, le-leb, lt-leb}
use lib.Dec.{eqb}
use lib.ListN.{length, drop, drop_of_length-le}
use lib.Seq.{get_or-drop}
use lib.IntN.{ℤ, pos, nat_abs, ◌+ℤ◌, ◌-ℤ◌, ◌*ℤ◌}
use Rattle.std.specs.List.{position_or_len}
use Rattle.whole.specs.Limit.{within}
use Rattle.whole.specs.Gcd.{gcd}
use Rattle.whole.specs.Quotient.{quotient, exactly}
use Rattle.rows.specs.Row.{at, less, gcd_of, leads, smallest, quotients, divided, opposite, first_beyond}
use Rattle.rows.proofs.Lists.{tail_at}

-- ---- less
pub less_none : (q : ℤ) (row other : List ℤ) (i : ℕ) → length row ≤ i → less (drop i row) q (drop i other) ≡ []
unfolding less
less_none q row other i h = rw (drop_of_length-le row h)

pub less-more : (q : ℤ) (row other : List ℤ) (i : ℕ) → i < length row → i < length other
    → less (drop i row) q (drop i other) ≡ (at row i -ℤ q *ℤ at other i) ∷ less (drop (i + 1) row) q (drop (i + 1) other)
unfolding less
less-more q row other i h k = rw (tail_at row i (pos 0) h, tail_at other i (pos 0) k)

-- ---- quotients and divided
pub quotients-none : (a : ℤ) (row : List ℤ) (i : ℕ) → length row ≤ i → quotients a (drop i row) ≡ []
unfolding quotients
quotients-none a row i h = rw (drop_of_length-le row h)

pub quotients-more : (a : ℤ) (row : List ℤ) (i : ℕ) → i < length row
    → quotients a (drop i row) ≡ quotient (at row i) a ∷ quotients a (drop (i + 1) row)
unfolding quotients
quotients-more a row i h = rw (tail_at row i (pos 0) h)

pub divided-none : (g : ℤ) (row : List ℤ) (i : ℕ) → length row ≤ i → divided g (drop i row) ≡ []
unfolding divided
divided-none g row i h = rw (drop_of_length-le row h)

pub divided-more : (g : ℤ) (row : List ℤ) (i : ℕ) → i < length row
    → divided g (drop i row) ≡ exactly (at row i) g ∷ divided g (drop (i + 1) row)
unfolding divided
divided-more g row i h = rw (tail_at row i (pos 0) h)

-- ---- gcd_of
pub gcd_of-none : (row : List ℤ) (i : ℕ) → length row ≤ i → gcd_of (drop i row) ≡ 0
unfolding gcd_of
gcd_of-none row i h = rw (drop_of_length-le row h)

pub gcd_of-more : (row : List ℤ) (i : ℕ) → i < length row → gcd_of (drop i row) ≡ gcd (nat_abs (at row i)) (gcd_of (drop (i + 1) row))
unfolding gcd_of
gcd_of-more row i h = rw (tail_at row i (pos 0) h)

-- ---- first_beyond
pub beyond-position : (row : List ℤ) → first_beyond row ≡ position_or_len (λ z. not (within z)) row
unfolding first_beyond
beyond-position [] = refl
beyond-position (a ∷ row) = go (within a) (beyond-position row)
  where
    go : (t : Bool) → first_beyond row ≡ position_or_len (λ z. not (within z)) row
        → cond t (suc (first_beyond row)) 0 ≡ cond (not (not t)) (1 + position_or_len (λ z. not (within z)) row) 0
    go true e = omega (arith, e)
    go false e = refl

-- ---- opposite
pub opposite-lengths : (row other : List ℤ) → (length row ≡ length other → ⊥) → opposite row other ≡ false
unfolding opposite
opposite-lengths [] [] h = absurd (h refl)
opposite-lengths [] (b ∷ other) h = refl
opposite-lengths (a ∷ row) [] h = refl
opposite-lengths (a ∷ row) (b ∷ other) h = go (eqb (nat_abs (a +ℤ b)) 0) (opposite-lengths row other (λ e. h (ap suc e)))
  where
    go : (t : Bool) → opposite row other ≡ false → t && opposite row other ≡ false
    go true e = e
    go false e = refl

-- ---- smallest, from the last column to the first
pub smallest-none : (row : List ℤ) → smallest (drop (length row) row) ≡ 0
unfolding smallest
smallest-none row = rw (drop_of_length-le row {i = length row} (omega arith))

-- the column found before column i is taken in, counted from the first; at its own place from i + 1 on stands the same number
module _ (row : List ℤ) (i best : ℕ) (h : i < length row) (b : best ≡ i + 1 + smallest (drop (i + 1) row)) where
  abbrev rest : List ℤ
  rest = drop (i + 1) row

  found : at rest (smallest rest) ≡ at row best
  found = get_or-drop (i + 1) row (smallest rest) (pos 0) ∙ ap (at row) (sym b)

  chosen : smallest (drop i row) ≡ cond (leads (at row i) (at row best)) 0 (suc (smallest rest))
  unfolding smallest
  chosen = rw (tail_at row i (pos 0) h, found)

  pub smallest-zero : nat_abs (at row i) ≡ 0 → best ≡ i + smallest (drop i row)
  smallest-zero e = rw (chosen, e) (omega arith)

  pub smallest-here : (nat_abs (at row i) ≡ 0 → ⊥) → (nat_abs (at row best) ≡ 0) ⊎ (nat_abs (at row i) ≤ nat_abs (at row best))
      → i ≡ i + smallest (drop i row)
  smallest-here n (inl e) = rw (chosen, ne_eqb (nat_abs (at row i)) 0 n, e) (omega arith)
  smallest-here n (inr l) = rw (chosen, ne_eqb (nat_abs (at row i)) 0 n, le-leb (nat_abs (at row i)) (nat_abs (at row best)) l, or-true) (omega arith)

  pub smallest-before : (nat_abs (at row best) ≡ 0 → ⊥) → nat_abs (at row best) < nat_abs (at row i) → best ≡ i + smallest (drop i row)
  smallest-before n l =
      rw (chosen, ne_eqb (nat_abs (at row best)) 0 n, lt-leb (nat_abs (at row i)) (nat_abs (at row best)) l, and-false) (omega arith)
