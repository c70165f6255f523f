-- Whether a row rests on an equation, from a column on, and the sets of equations that are built from such answers.
use mathlib.Core.Path.{◌≡◌, refl, ap}
use mathlib.Core.Bool.{Bool, true, false, not, ◌&&◌, ◌||◌, cond}
use mathlib.Core.List.{List, map}
use Prim.Native.Nat.{ℕ, zero, suc, ◌+◌, ◌*◌, ◌-◌, ◌^◌, ◌≤◌, ◌<◌}
use native.Mathlib.Nat.{pow-le-pow_right, two-pow-succ}
use native.Mathlib.Omega.{arith}
use lib.Dec.{eqb}
use lib.ListN.{length, get_or, drop, drop_of_length-le}
use lib.Seq.{get_or-take, get_or-drop}
use lib.IntN.{ℤ, pos, nat_abs}
use Rattle.rows.specs.Row.{at}
use Rattle.rows.specs.Table.{rows_of}
use Rattle.rows.proofs.Lists.{tail_at}
use Rattle.tables.proofs.Rowed.{rows_from, rows_start, rows_more}
use Rattle.rules.specs.Elimination.{counted}
use Rattle.rules.specs.Inequalities.{rests_on, set_of}

-- ---- the columns from p on
module _ (w j : ℕ) (marks : List ℕ) (reasons sums : List ℤ) where
  abbrev pub rests_from : ℕ → Bool
  rests_from p = rests_on (drop p marks) (rows_from w (length marks) p reasons) (drop p sums) j

  pub rests-start : rests_from 0 ≡ rests_on marks (rows_of w (length marks) reasons) sums j
  rests-start = ap (λ (rows : List (List ℤ)). rests_on marks rows sums j) (rows_start w (length marks) reasons)

  pub rests-none : (p : ℕ) → length marks ≤ p → rests_from p ≡ false
  unfolding rests_on
  rests-none p h = rw (drop_of_length-le marks h)

  -- column p decides, where it is closed, has a sum that is not 0, and has equation j in its reason
  module _ (p : ℕ) (h : p < length marks) (k : p < length sums) (l : j < w) where
    abbrev here : Bool
    here = eqb (get_or marks p 0) 0 && (not (eqb (nat_abs (at sums p)) 0) && not (eqb (nat_abs (at reasons (p * w + j))) 0))

    pub rests-more : rests_from p ≡ here || rests_from (p + 1)
    unfolding rests_on
    rests-more =
        rw (
          tail_at marks p 0 h,
          rows_more w (length marks) p reasons h,
          tail_at sums p (pos 0) k,
          get_or-take w (drop (p * w) reasons) j (pos 0) l,
          get_or-drop (p * w) reasons j (pos 0),
        )

-- ---- the equations from j on, c of them, as a set
module _ (f : ℕ → Bool) where
  abbrev pub set_from : ℕ → ℕ → ℕ
  set_from j c = set_of (map f (counted j c))

  pub set-none : (j : ℕ) → set_from j 0 ≡ 0
  unfolding set_of counted
  set-none j = refl

  set_more : (j c : ℕ) → set_from j (suc c) ≡ cond (f j) 1 0 + 2 * set_from (suc j) c
  unfolding set_of counted
  set_more j c = refl

  set_below : (j c : ℕ) → set_from j c < 2 ^ c
  set_below j zero = rw (set-none j) (omega arith)
  set_below j (suc c) = go (f j) (set_more j c) (set_below (suc j) c)
    where
      go : (b : Bool) → set_from j (suc c) ≡ cond b 1 0 + 2 * set_from (suc j) c → set_from (suc j) c < 2 ^ c → set_from j (suc c) < 2 ^ suc c
      go true e h = omega (arith, two-pow-succ c)
      go false e h = omega (arith, two-pow-succ c)

  -- one equation more, below those taken in already
  pub set_next : (m j : ℕ) (b : Bool) → 0 < j → j ≤ m → f (j - 1) ≡ b → set_from j (m - j) * 2 + cond b 1 0 ≡ set_from (j - 1) (m - (j - 1))
  set_next m j b p h e =
      let first : suc (j - 1) ≡ j = omega arith in
      let count : m - (j - 1) ≡ suc (m - j) = omega arith in
      let one : set_from (j - 1) (suc (m - j)) ≡ cond b 1 0 + 2 * set_from j (m - j) = rw (e, first) at (set_more (j - 1) (m - j)) in
      rw count (omega arith)

  -- up to 32 equations are bits of the lower half of a word
  pub set-fits : (j c : ℕ) → c ≤ 32 → set_from j c < 2 ^ 32
  set-fits j c h = omega (arith, set_below j c, pow-le-pow_right {n = 2} (omega arith) h)
