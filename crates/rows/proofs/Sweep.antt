-- A loop that writes a list from the front, one store a turn, to what a definition by recursion on the list gives.
use mathlib.Core.Path.{◌≡◌, refl, sym, ap, ◌∙◌}
use mathlib.Core.List.{List, [], ◌∷◌, ◌++◌, append_assoc, append-nil}
use Prim.Native.Nat.{ℕ, ◌+◌, ◌≤◌, ◌<◌}
use native.Mathlib.Nat.{add-zero}
use native.Mathlib.Numerals.{add-one}
use native.Mathlib.Omega.{arith}
use lib.ListN.{length, get_or, drop, take, set, length-set}
use lib.Seq.{get_or-drop, take-suc-set, drop-set-lt, drop-drop, take_all}

-- The list is l₀ at first and l now. The first i elements are written and the others are as they were; what is written, followed by
-- `rest`, which is what the definition gives of the others, is the goal.
pub record Swept {A : Type 0} (l₀ l goal : List A) (i : ℕ) (rest : List A) : Type 0 where
  pub len : length l ≡ length l₀
  pub ahead : drop i l ≡ drop i l₀
  pub done : take i l ++ rest ≡ goal

module _ {A : Type 0} where
  pub swept-start : (l goal : List A) → Swept l l goal 0 goal
  swept-start l goal = record { len = refl; ahead = refl; done = refl }

  -- the first element ahead is the one at i
  head : (i : ℕ) (l : List A) (d : A) → get_or (drop i l) 0 d ≡ get_or l i d
  head i l d = get_or-drop i l 0 d ∙ ap (λ (k : ℕ). get_or l k d) (add-zero i)

  -- what is read at i is what stood there at first
  pub swept-read : {l₀ l goal rest : List A} {i : ℕ} (d : A) → Swept l₀ l goal i rest → get_or l i d ≡ get_or l₀ i d
  swept-read {l₀} {l} {i = i} d s = sym (head i l d) ∙ ap (λ (m : List A). get_or m 0 d) s.ahead ∙ head i l₀ d

  -- a store at i of what the definition gives first of the rest
  pub swept_step : {l₀ l goal rest : List A} {i : ℕ} (v : A) (rest' : List A) → i < length l → rest ≡ v ∷ rest' → Swept l₀ l goal i rest
      → Swept l₀ (set l i v) goal (i + 1) rest'
  swept_step {l₀} {l} {goal} {rest} {i} v rest' h e s =
      record {
        len = length-set l i v ∙ s.len;
        ahead = drop-set-lt (i + 1) l i v (omega arith) ∙ sym (drop-drop 1 i l) ∙ ap (drop 1) s.ahead ∙ drop-drop 1 i l₀;
        done =
            ap (λ (m : List A). m ++ rest') (ap (λ (k : ℕ). take k (set l i v)) (add-one i) ∙ take-suc-set l i v h)
            ∙ append_assoc (take i l) (v ∷ []) rest' ∙ ap (λ (m : List A). take i l ++ m) (sym e) ∙ s.done;
      }

  -- nothing is left: the list is the goal
  pub swept-end : {l₀ l goal rest : List A} {i : ℕ} → length l ≤ i → rest ≡ [] → Swept l₀ l goal i rest → l ≡ goal
  swept-end {l₀} {l} {goal} {rest} {i} h e s =
      sym (append-nil l) ∙ ap (λ (m : List A). m ++ []) (sym (take_all i l h)) ∙ ap (λ (m : List A). take i l ++ m) (sym e) ∙ s.done
