-- Bytes cut into their first line and the others, and what is asked of them.
use mathlib.Core.List.{List, [], ◌∷◌}
use Prim.Native.Nat.{ℕ}
use Rattle.wellformed.specs.Grammar.{Lines, last, feed, return_feed}

pub record Cut (R : List ℕ → List (List ℕ) → Type 0) (bytes : List ℕ) : Type 0 where
  pub line : List ℕ
  pub others : List (List ℕ)
  pub lines : Lines (line ∷ others) bytes
  pub holds : R line others

-- the first line grows by one byte
pub longer : {b : ℕ} {line bytes : List ℕ} {lines : List (List ℕ)} → Lines (line ∷ lines) bytes → Lines ((b ∷ line) ∷ lines) (b ∷ bytes)
longer last = last
longer (feed rest) = feed rest
longer (return_feed rest) = return_feed rest

pub grow : {b : ℕ} {R R' : List ℕ → List (List ℕ) → Type 0} {bytes : List ℕ}
    → ((line : List ℕ) (lines : List (List ℕ)) → R line lines → R' (b ∷ line) lines) → Cut R bytes → Cut R' (b ∷ bytes)
grow f c = record { line = _ ∷ c.line; others = c.others; lines = longer c.lines; holds = f c.line c.others c.holds }

-- the same bytes, and more known of them
pub weaken : {R R' : List ℕ → List (List ℕ) → Type 0} {bytes : List ℕ}
    → ((line : List ℕ) (lines : List (List ℕ)) → R line lines → R' line lines) → Cut R bytes → Cut R' bytes
weaken f c = record { line = c.line; others = c.others; lines = c.lines; holds = f c.line c.others c.holds }

-- the line ends here
pub stop : {R : List ℕ → List (List ℕ) → Type 0} {bytes : List ℕ} {lines : List (List ℕ)} → Lines ([] ∷ lines) bytes → R [] lines → Cut R bytes
stop cut holds = record { line = []; others = _; lines = cut; holds = holds }
