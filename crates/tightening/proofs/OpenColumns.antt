-- `only_open` from a column on, and that it leads no number further from 0.
use mathlib.Core.Path.{◌≡◌, refl, sym, ap, ◌∙◌}
use mathlib.Core.Bool.{Bool, true, false, cond}
use mathlib.Core.List.{List, [], ◌∷◌, ◌++◌}
use Prim.Native.Nat.{ℕ, ◌+◌, ◌≤◌, ◌<◌, zero-le}
use native.Mathlib.Omega.{arith}
use borrow.Author.Tests.{eq-eqb, ne_eqb, le-leb}
use lib.Dec.{eqb, leb}
use lib.ListN.{length, get_or, set, take, drop, drop_of_length-le, take-append-drop}
use lib.Seq.{set-get_or}
use lib.IntN.{ℤ, pos, nat_abs}
use Rattle.rows.specs.Row.{at, bounded}
use Rattle.rows.proofs.Lists.{tail_at}
use Rattle.rows.proofs.Sweep.{Swept, swept-read, swept_step}
use Rattle.rows.proofs.Bounded.{and_left, and_right, and_both}
use Rattle.rules.specs.Inequalities.{only_open}

-- ---- a sweep over the marks
module _ (marks : List ℕ) {row₀ row goal : List ℤ} {p : ℕ} (h : p < length marks) (k : p < length row₀)
    (s : Swept row₀ row goal p (only_open (drop p marks) (drop p row₀))) where
  abbrev rest : List ℤ
  rest = only_open (drop (p + 1) marks) (drop (p + 1) row₀)

  open_more : (b : Bool) → eqb (get_or marks p 0) 0 ≡ b → only_open (drop p marks) (drop p row₀) ≡ cond b (pos 0) (at row₀ p) ∷ rest
  unfolding only_open
  open_more b e = rw (tail_at marks p 0 h, tail_at row₀ p (pos 0) k, e)

  inside : p < length row
  inside = omega (arith, s.len)

  -- a closed column is set to 0
  pub open-shut : get_or marks p 0 ≡ 0 → Swept row₀ (set row p (pos 0)) goal (p + 1) rest
  open-shut e = swept_step (pos 0) rest inside (open_more true (eq-eqb (get_or marks p 0) 0 e)) s

  -- an open one is left as it is
  pub open-left : (get_or marks p 0 ≡ 0 → ⊥) → Swept row₀ row goal (p + 1) rest
  open-left n =
      let e : only_open (drop p marks) (drop p row₀) ≡ at row p ∷ rest =
      open_more false (ne_eqb (get_or marks p 0) 0 n) ∙ ap (λ (z : ℤ). z ∷ rest) (sym (swept-read (pos 0) s)) in
      rw (set-get_or row p (pos 0)) at (swept_step (at row p) rest inside e s)

-- past the last mark all stays as it is: with the constant there, a sweep over the marks is done
pub open-end : (marks : List ℕ) {row₀ row goal : List ℤ} {p : ℕ} → length marks ≤ p
    → Swept row₀ row goal p (only_open (drop p marks) (drop p row₀)) → row ≡ goal
unfolding only_open
open-end marks {row₀} {row} {goal} {p} h s =
    let rest : drop p row ≡ only_open (drop p marks) (drop p row₀) = rw (drop_of_length-le marks h) s.ahead in
    sym (take-append-drop p row) ∙ ap (λ (l : List ℤ). take p row ++ l) rest ∙ s.done

pub bounded-only_open : (B : ℕ) (marks : List ℕ) (row : List ℤ) → bounded B row ≡ true → bounded B (only_open marks row) ≡ true
unfolding only_open bounded
bounded-only_open B [] row e = e
bounded-only_open B (mark ∷ marks) [] e = refl
bounded-only_open B (mark ∷ marks) (a ∷ row) e =
    and_both (go (eqb mark 0)) (bounded-only_open B marks row (and_right (leb (nat_abs a) B) (bounded B row) e))
  where
    go : (b : Bool) → leb (nat_abs (cond b (pos 0) a)) B ≡ true
    go true = le-leb 0 B zero-le
    go false = and_left (leb (nat_abs a) B) (bounded B row) e
