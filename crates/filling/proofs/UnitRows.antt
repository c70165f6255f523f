-- The loop that writes unit rows into a table of zeros, one store for each row.
use mathlib.Core.Path.{◌≡◌, refl, sym, ap, ap₂, ◌∙◌}
use mathlib.Core.List.{List, [], ◌++◌, map, append_assoc}
use Prim.Native.Nat.{ℕ, suc, ◌+◌, ◌*◌, ◌-◌, ◌≤◌, ◌<◌}
use native.Mathlib.Numerals.{add-one}
use native.Mathlib.Omega.{arith}
use lib.ListN.{set, take, drop, replicate, length-set, length-replicate, replicate-append-replicate}
use lib.Seq.{take-add, take-set-le, take-set-lt, drop-set-add, drop-set-lt, drop-drop, take_at, drop_at}
use lib.IntN.{ℤ, pos}
use Rattle.rows.specs.Row.{zeros, unit_row}
use Rattle.rows.specs.Table.{flat}
use Rattle.rows.proofs.Lists.{row-end, row_next}
use Rattle.rows.proofs.Sweep.{Swept}
use Rattle.rules.specs.Elimination.{counted}

-- what is still to be written from row r on
abbrev pub units_from : ℕ → ℕ → ℕ → List ℤ
units_from w r more = flat (map (unit_row w) (counted r more))

-- one row of a table of zeros
zero-part : (a b c : ℕ) → take b (drop a (replicate (a + (b + c)) (pos 0))) ≡ replicate b (pos 0)
zero-part a b c =
    ap (λ (l : List ℤ). take b (drop a l)) (sym (replicate-append-replicate a (b + c) (pos 0)))
    ∙ ap (take b) (drop_at (replicate a (pos 0)) (replicate (b + c) (pos 0)) a (length-replicate a (pos 0)))
    ∙ ap (take b) (sym (replicate-append-replicate b c (pos 0)))
    ∙ take_at (replicate b (pos 0)) (replicate c (pos 0)) b (length-replicate b (pos 0))

module _ (w count r : ℕ) (goal table : List ℤ) (h : r < count) (wide : count ≤ w)
    (s : Swept (replicate (count * w) (pos 0)) table goal (r * w) (units_from w r (count - r))) where
  fits : r * w + w ≤ count * w
  fits = row-end count w r h

  -- the row is all zeros before the store
  before : take w (drop (r * w) table) ≡ zeros w
  unfolding zeros
  before =
      ap (take w) s.ahead
      ∙ ap (λ (k : ℕ). take w (drop (r * w) (replicate k (pos 0)))) (let e : count * w ≡ r * w + (w + (count * w - (r * w + w))) = omega (arith, fits) in e)
      ∙ zero-part (r * w) w (count * w - (r * w + w))

  stored : List ℤ
  stored = set table (r * w + r) (pos 1)

  front : take (r * w + w) stored ≡ take (r * w) table ++ unit_row w r
  unfolding stored unit_row
  front =
      take-add (r * w) w stored
      ∙ ap₂ (λ (x y : List ℤ). x ++ y) (take-set-le (r * w) table (r * w + r) (pos 1) (omega arith))
      (ap (take w) (drop-set-add (r * w) table r (pos 1)) ∙ take-set-lt w (drop (r * w) table) r (pos 1) (omega arith) ∙ ap (λ (l : List ℤ). set l r (pos 1)) before)

  one_more : units_from w r (count - r) ≡ unit_row w r ++ units_from w (r + 1) (count - (r + 1))
  unfolding counted flat
  one_more =
      ap (units_from w r) (let e : count - r ≡ suc (count - (r + 1)) = omega arith in e)
      ∙ ap (λ (k : ℕ). unit_row w r ++ units_from w k (count - (r + 1))) (sym (add-one r))

  pub unit-stored : Swept (replicate (count * w) (pos 0)) (set table (r * w + r) (pos 1)) goal ((r + 1) * w) (units_from w (r + 1) (count - (r + 1)))
  unfolding stored
  unit-stored = rw (row_next w r) (record {
    len = length-set table (r * w + r) (pos 1) ∙ s.len;
    ahead =
        drop-set-lt (r * w + w) table (r * w + r) (pos 1) (omega arith)
        ∙ sym (drop-drop w (r * w) table)
        ∙ ap (drop w) s.ahead
        ∙ drop-drop w (r * w) (replicate (count * w) (pos 0));
    done =
        ap (λ (l : List ℤ). l ++ units_from w (r + 1) (count - (r + 1))) front
        ∙ append_assoc (take (r * w) table) (unit_row w r) (units_from w (r + 1) (count - (r + 1)))
        ∙ ap (λ (l : List ℤ). take (r * w) table ++ l) (sym one_more)
        ∙ s.done;
  })

pub units-none : (w r : ℕ) → units_from w r 0 ≡ []
unfolding counted flat
units-none w r = refl
