-- What `blend` makes of two rows: one column more, and whether all of it is within the limit.
use mathlib.Core.Path.{◌≡◌, sym, ap, ◌∙◌}
use mathlib.Core.Bool.{Bool, ◌&&◌, and-true}
use mathlib.Core.List.{List, [], ◌∷◌}
use Prim.Native.Nat.{ℕ, ◌+◌, ◌≤◌, ◌<◌}
use lib.ListN.{length, drop, drop_of_length-le}
use lib.IntN.{ℤ, pos, ◌-ℤ◌, ◌*ℤ◌}
use Rattle.whole.specs.Limit.{W}
use Rattle.rows.specs.Row.{at, less, scaled, all_within}
use Rattle.rows.proofs.Lists.{tail_at}
use Rattle.rows.proofs.Bounded.{bounded-nil}

-- ---- p times a row less q times another, from column i on
pub blend-none : (p q : ℤ) (row other : List ℤ) (i : ℕ) → length row ≤ i → less (scaled p (drop i row)) q (drop i other) ≡ []
unfolding less scaled
blend-none p q row other i h = rw (drop_of_length-le row h)

pub blend-more : (p q : ℤ) (row other : List ℤ) (i : ℕ) → i < length row → i < length other
    → less (scaled p (drop i row)) q (drop i other)
    ≡ (p *ℤ at row i -ℤ q *ℤ at other i) ∷ less (scaled p (drop (i + 1) row)) q (drop (i + 1) other)
unfolding less scaled
blend-more p q row other i h k = rw (tail_at row i (pos 0) h, tail_at other i (pos 0) k)

-- with nothing left, the answer so far is the answer
pub within_end : (fits : Bool) (ahead goal : List ℤ) → ahead ≡ [] → fits && all_within ahead ≡ all_within goal → fits ≡ all_within goal
within_end fits ahead goal none e = sym (and-true fits) ∙ ap (λ (b : Bool). fits && b) (sym (bounded-nil W) ∙ ap all_within (sym none)) ∙ e
