-- A row of a flat table that gains other rows of the same table, in place: what is read on the way, and what the table is afterwards.
use mathlib.Core.Path.{◌≡◌, sym, ap, ◌∙◌}
use mathlib.Core.Bool.{true}
use mathlib.Core.List.{List, [], ◌∷◌, ◌++◌}
use Prim.Native.Nat.{ℕ, ◌+◌, ◌*◌, ◌≤◌, ◌<◌}
use native.Mathlib.Nat.{zero-add, suc-add}
use native.Mathlib.Omega.{arith}
use lib.ListN.{length, get_or, take, drop, set, take-append-drop}
use lib.Seq.{length-take-le, take_at, drop_at, get_or-take, get_or-drop, get_or-set_other, set-append_left}
use lib.IntN.{ℤ, pos, neg_ℤ, nat_abs}
use Rattle.whole.specs.Limit.{W}
use Rattle.rows.specs.Row.{at, less, gathered, all_within}
use Rattle.rows.specs.Table.{rows_of, row_at, set_row}
use Rattle.rows.proofs.Lists.{row-end}
use Rattle.rows.proofs.Algebra.{length-less}
use Rattle.rows.proofs.TableLaws.{length-row_at, length-set_row, row_of, rows_of-set_row}
use Rattle.tables.proofs.Rowed.{rows_from, rows_start}
use Rattle.tables.proofs.Multiples.{less_zero, within-row, gathered_none, gathered-more, Sum, sum-start, sum_past, sum_more}

-- ---- a number of a row
pub row-at : (w r : ℕ) (t : List ℤ) (j : ℕ) → j < w → at (row_at w r t) j ≡ at t (r * w + j)
row-at w r t j h = get_or-take w (drop (r * w) t) j (pos 0) h ∙ get_or-drop (r * w) t j (pos 0)

-- a number put into the second of two lists put together
set-behind : (p q : List ℤ) (n : ℕ) (z : ℤ) → set (p ++ q) (length p + n) z ≡ p ++ set q n z
set-behind [] q n z = rw (zero-add n)
set-behind (a ∷ p) q n z = rw (suc-add (length p) n) (ap (λ (l : List ℤ). a ∷ l) (set-behind p q n z))

-- ---- row k of a table of m rows replaced
module _ (w m k : ℕ) (t : List ℤ) (h : k < m) (e : length t ≡ m * w) where
  starts : length (take (k * w) t) ≡ k * w
  starts = length-take-le (k * w) t (omega (arith, row-end m w k h))

  set_same : set_row w k (row_at w k t) t ≡ t
  set_same = ap (λ (l : List ℤ). take (k * w) t ++ l) (take-append-drop w (drop (k * w) t)) ∙ take-append-drop (k * w) t

  module _ (row : List ℤ) (l : length row ≡ w) where
    behind : drop (k * w) (set_row w k row t) ≡ row ++ drop w (drop (k * w) t)
    behind = drop_at (take (k * w) t) (row ++ drop w (drop (k * w) t)) (k * w) starts

    pub row-set : row_at w k (set_row w k row t) ≡ row
    row-set = ap (take w) behind ∙ take_at row (drop w (drop (k * w) t)) w l

    row_other : (i : ℕ) → i < m → (i ≡ k → ⊥) → row_at w i (set_row w k row t) ≡ row_at w i t
    row_other i b n =
        sym (row_of w m i (set_row w k row t) b) ∙ ap (λ (rows : List (List ℤ)). get_or rows i []) (rows_of-set_row w m k t row h e l)
        ∙ get_or-set_other (rows_of w m t) k i row [] n ∙ row_of w m i t b

    set-again : (new : List ℤ) → set_row w k new (set_row w k row t) ≡ set_row w k new t
    set-again new =
        let rest = drop w (drop (k * w) t) in
        rw (behind, drop_at row rest w l, take_at (take (k * w) t) (row ++ rest) (k * w) starts)

    -- one number of the row
    pub set-in-row : (n : ℕ) (z : ℤ) → n < w → set (set_row w k row t) (k * w + n) z ≡ set_row w k (set row n z) t
    set-in-row n z b =
        let rest = drop w (drop (k * w) t) in
        rw starts at (set-behind (take (k * w) t) (row ++ rest) n z)
        ∙ ap (λ (l : List ℤ). take (k * w) t ++ l) (set-append_left row rest n z (omega arith))

-- ---- row k gains the rows of a table of as many rows as cs has numbers: the first r rows are added, and the other rows are as at first
pub record Gathering (w k : ℕ) (cs t₀ t : List ℤ) (r : ℕ) : Type 0 where
  pub sized : length (row_at w k t) ≡ w
  pub others : t ≡ set_row w k (row_at w k t) t₀
  pub sum : Sum r (row_at w k t)
  pub whole : gathered (row_at w k t) (drop r cs) (rows_from w (length cs) r t₀) ≡ gathered (row_at w k t₀) cs (rows_of w (length cs) t₀)

module _ (w k : ℕ) (cs t₀ : List ℤ) (h : k < length cs) (e : length t₀ ≡ length cs * w) where
  pub gathering-start : all_within t₀ ≡ true → Gathering w k cs t₀ t₀ 0
  gathering-start f =
      record {
        sized = length-row_at w (length cs) k t₀ h e;
        others = sym (set_same w (length cs) k t₀ h e);
        sum = sum-start (row_at w k t₀) (within-row w k t₀ f);
        whole = ap (gathered (row_at w k t₀) cs) (rows_start w (length cs) t₀);
      }

  module _ {t : List ℤ} (r : ℕ) (g : Gathering w k cs t₀ t r) where
    pub gathering-length : length t ≡ length t₀
    gathering-length = ap length g.others ∙ length-set_row w (length cs) k t₀ h e (row_at w k t) g.sized ∙ sym e

    -- another row than row k
    pub gathering-row : r < length cs → (r ≡ k → ⊥) → row_at w r t ≡ row_at w r t₀
    gathering-row b n = ap (row_at w r) g.others ∙ row_other w (length cs) k t₀ h e (row_at w k t) g.sized r b n

    module _ (b : r < length cs) where
      more : gathered (row_at w k t) (drop r cs) (rows_from w (length cs) r t₀)
          ≡ gathered (less (row_at w k t) (neg_ℤ (at cs r)) (row_at w r t₀)) (drop (r + 1) cs) (rows_from w (length cs) (r + 1) t₀)
      more = gathered-more (row_at w k t) cs w r t₀ b

      -- row r is added
      pub gathering-step : nat_abs (at cs r) ≤ W → all_within t₀ ≡ true → (r ≡ k → ⊥)
          → Gathering w k cs t₀ (set_row w k (less (row_at w k t) (neg_ℤ (at cs r)) (row_at w r t)) t) (r + 1)
      gathering-step small f n =
          let row = less (row_at w k t) (neg_ℤ (at cs r)) (row_at w r t₀) in
          let long : length row ≡ w = length-less (row_at w k t) (neg_ℤ (at cs r)) (row_at w r t₀) ∙ g.sized in
          let now : set_row w k row t ≡ set_row w k row t₀ =
          ap (set_row w k row) g.others ∙ set-again w (length cs) k t₀ h e (row_at w k t) g.sized row in
          let here : row_at w k (set_row w k row t₀) ≡ row = row-set w (length cs) k t₀ h e row long in
          rw (gathering-row b n, now)
          record {
            sized = ap length here ∙ long;
            others = ap (λ (x : List ℤ). set_row w k x t₀) (sym here);
            sum = rw here (sum_more r (row_at w k t) (at cs r) (row_at w r t₀) small (within-row w r t₀ f) g.sum);
            whole = rw here (sym more ∙ g.whole);
          }

      -- row r is left out
      pub gathering-past : at cs r ≡ pos 0 → Gathering w k cs t₀ t (r + 1)
      gathering-past z =
          let same : less (row_at w k t) (neg_ℤ (at cs r)) (row_at w r t₀) ≡ row_at w k t =
          ap (λ (x : ℤ). less (row_at w k t) (neg_ℤ x) (row_at w r t₀)) z ∙ less_zero (row_at w k t) (row_at w r t₀) in
          record {
            sized = g.sized;
            others = g.others;
            sum = sum_past r (row_at w k t) g.sum;
            whole = rw same at (sym more ∙ g.whole);
          }

    -- no row is left
    pub gathering-end : length cs ≤ r → t ≡ set_row w k (gathered (row_at w k t₀) cs (rows_of w (length cs) t₀)) t₀
    gathering-end b =
        g.others ∙ ap (λ (x : List ℤ). set_row w k x t₀) (sym (gathered_none (row_at w k t) cs w r t₀ b) ∙ g.whole)
