-- The names that are still to come, as the loops meet them.
use mathlib.Core.Path.{◌≡◌, sym, ◌∙◌}
use mathlib.Core.Bool.{Bool, true, false, cond, ◌||◌}
use mathlib.Core.List.{List, [], ◌∷◌, ◌++◌, append_assoc}
use Prim.Native.Nat.{ℕ, suc, ◌+◌, ◌-◌, ◌/◌, ◌%◌, ◌≤◌, ◌<◌}
use native.Mathlib.Numerals.{add-one}
use native.Mathlib.Omega.{arith}
use borrow.Author.Tests.{eq-eqb, ne_eqb}
use lib.Dec.{eqb}
use lib.ListN.{length, drop, drop_of_length-le}
use lib.IntN.{ℤ, pos, nat_abs}
use Rattle.whole.proofs.Integers.{nat_abs-zero}
use Rattle.rows.specs.Row.{at}
use Rattle.rows.proofs.Lists.{tail_at}
use Rattle.matrix.specs.Bytes.{space}
use Rattle.matrix.specs.Printed.{decimal, equation_letter, multiplied, used_names}

-- ---- equations with multipliers that are not 0, from equation i + 1 on
module _ (multipliers : List ℤ) where
  abbrev pub multiplied_from : ℕ → ℕ → List ℕ
  multiplied_from before i = multiplied before (i + 1) (drop i multipliers)

  pub multiplied-none : (before i : ℕ) → length multipliers ≤ i → multiplied_from before i ≡ []
  unfolding multiplied
  multiplied-none before i h = rw (drop_of_length-le multipliers h)

  module _ (before i : ℕ) (h : i < length multipliers) where
    abbrev name : List ℕ
    name = equation_letter ∷ decimal (i + 1)

    more : (b : Bool) → eqb (nat_abs (at multipliers i)) 0 ≡ b
        → multiplied_from before i ≡ cond b (multiplied_from before (i + 1)) ((before ∷ name) ++ multiplied_from space (i + 1))
    unfolding multiplied
    more b e = rw (tail_at multipliers i (pos 0) h, e, add-one (i + 1))

    pub multiplied-past : at multipliers i ≡ pos 0 → multiplied_from before i ≡ multiplied_from before (i + 1)
    multiplied-past e = more true (rw e)

    pub multiplied-here : (at multipliers i ≡ pos 0 → ⊥) → multiplied_from before i ≡ (before ∷ name) ++ multiplied_from space (i + 1)
    multiplied-here n = more false (ne_eqb (nat_abs (at multipliers i)) 0 (λ z. n (nat_abs-zero (at multipliers i) z)))

-- ---- used equations, from equation i + 1 on, of m in all
module _ (m : ℕ) where
  abbrev pub used_from : ℕ → ℕ → ℕ → List ℕ
  used_from i one other = used_names (i + 1) (m - i) one other

  pub used-none : (i one other : ℕ) → m ≤ i → used_from i one other ≡ []
  unfolding used_names
  used-none i one other h = let e : m - i ≡ 0 = omega arith in rw e

  module _ (i one other : ℕ) (h : i < m) where
    abbrev rest : List ℕ
    rest = used_from (i + 1) (one / 2) (other / 2)

    used-more : (b : Bool) → (eqb (one % 2) 1 || eqb (other % 2) 1) ≡ b
        → used_from i one other ≡ cond b (equation_letter ∷ (decimal (i + 1) ++ (space ∷ rest))) rest
    unfolding used_names
    used-more b e = let s : m - i ≡ suc (m - (i + 1)) = omega arith in rw (s, e, add-one (i + 1))

    pub used-past : (one % 2 ≡ 1 → ⊥) → (other % 2 ≡ 1 → ⊥) → used_from i one other ≡ rest
    used-past a b = used-more false (rw (ne_eqb (one % 2) 1 a, ne_eqb (other % 2) 1 b))

    abbrev named : List ℕ
    named = ((equation_letter ∷ decimal (i + 1)) ++ (space ∷ [])) ++ rest

    used : (eqb (one % 2) 1 || eqb (other % 2) 1) ≡ true → used_from i one other ≡ named
    used e = used-more true e ∙ sym (append_assoc (equation_letter ∷ decimal (i + 1)) (space ∷ []) rest)

    pub used_by_one : one % 2 ≡ 1 → used_from i one other ≡ named
    used_by_one a = used (rw (eq-eqb (one % 2) 1 a))

    pub used_by_other : (one % 2 ≡ 1 → ⊥) → other % 2 ≡ 1 → used_from i one other ≡ named
    used_by_other a b = used (rw (ne_eqb (one % 2) 1 a, eq-eqb (other % 2) 1 b))
