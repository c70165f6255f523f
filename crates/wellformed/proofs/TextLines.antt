-- The machine on several lines: what it does on a text, from what it does on the text's lines.
use mathlib.Core.Bool.{Bool, false}
use mathlib.Core.Path.{◌≡◌, refl, ap, ◌∙◌}
use mathlib.Core.List.{List, [], ◌∷◌, ◌++◌, append_assoc}
use Prim.Native.Nat.{ℕ}
use native.Mathlib.Omega.{arith}
use lib.ListN.{length}
use lib.IntN.{ℤ}
use Rattle.matrix.specs.Bytes.{line_feed}
use Rattle.wellformed.specs.Grammar.{Lines, last, feed, return_feed}
use Rattle.matrix.specs.Machine.{step}
use Rattle.matrix.specs.Reader.{is_return, beyond, closed, numbers}
use Rattle.matrix.specs.declared.Machine.{Machine}
use Rattle.wellformed.proofs.Runs.{run}
use Rattle.wellformed.proofs.Passages.{Answers, LineEnd, by_feed, by_return, Line}
use Rattle.std.specs.Prelude.{Result}
use Rattle.rules.specs.declared.Refusal.{Refusal}
use Rattle.rules.specs.declared.System.{System}

-- a text has at least one line
no_lines : {lines : List (List ℕ)} {text : List ℕ} → Lines lines text → lines ≡ [] → ⊥
no_lines last e = omega (arith, ap length e)
no_lines (feed lines) e = omega (arith, ap length e)
no_lines (return_feed lines) e = omega (arith, ap length e)

module _ (which : Bool) where
  -- a whole text: the machine behind its last line, which the end of the text ends, and the entries
  pub record Text (m : Machine) (text : List ℕ) (m' : Machine) (entries : List ℤ) : Type 0 where
    pub ended : is_return (run m text).phase ≡ false
    pub closes : step (run m text) line_feed ≡ m'
    pub packs : numbers which m (text ++ line_feed ∷ []) ≡ entries

  -- whatever text has these lines; with no line left there is no text, and nothing happens
  pub record Through (m : Machine) (lines : List (List ℕ)) (m' : Machine) (entries : List ℤ) : Type 0 where
    pub none : lines ≡ [] → (m ≡ m') × (entries ≡ [])
    pub some : {text : List ℕ} → Lines lines text → Text m text m' entries

  -- likewise for what a scan of such a text answers
  pub record Answered (m : Machine) (lines : List (List ℕ)) (reading : Result System Refusal) : Type 0 where
    pub none : lines ≡ [] → (place : ℕ) → closed m place ≡ reading
    pub some : {text : List ℕ} → Lines lines text → Answers m text reading

  pub through-none : (m : Machine) → Through m [] m []
  through-none m = record { none = λ _. (refl, refl); some = λ lines. absurd (no_lines lines refl) }

  pub answered-none : (m : Machine) (reading : Result System Refusal) → ((place : ℕ) → closed m place ≡ reading) → Answered m [] reading
  answered-none m reading closing = record { none = λ _. closing; some = λ lines. absurd (no_lines lines refl) }

  -- ---- one line more in front
  module _ {m m' : Machine} {line : List ℕ} {e : List ℤ} (l : Line which m line m' e) where
    last-text : {m'' : Machine} {f : List ℤ} → (m' ≡ m'') × (f ≡ []) → Text m line m'' (e ++ f)
    unfolding numbers
    last-text (same, empty) = record { ended = l.ended; closes = l.closes ∙ same; packs = rw empty (l.packs by_feed []) }

    next-text : {m'' : Machine} {f : List ℤ} {close bytes : List ℕ} → LineEnd close → Text m' bytes m'' f → Text m (line ++ (close ++ bytes)) m'' (e ++ f)
    next-text {m''} {f} {close} {bytes} end t = record {
      ended = rw (l.runs end bytes) t.ended;
      closes = rw (l.runs end bytes) t.closes;
      packs =
          rw (append_assoc line (close ++ bytes) (line_feed ∷ []), append_assoc close bytes (line_feed ∷ []))
          (l.packs end (bytes ++ line_feed ∷ []) ∙ ap (λ x. e ++ x) t.packs);
    }

    line-text : {m'' : Machine} {lines : List (List ℕ)} {f : List ℤ} {text : List ℕ} → Through m' lines m'' f → Lines (line ∷ lines) text → Text m text m'' (e ++ f)
    line-text rest last = last-text (rest.none refl)
    line-text rest (feed lines) = next-text by_feed (rest.some lines)
    line-text rest (return_feed lines) = next-text by_return (rest.some lines)

    pub through-line : {m'' : Machine} {lines : List (List ℕ)} {f : List ℤ} → Through m' lines m'' f → Through m (line ∷ lines) m'' (e ++ f)
    through-line rest = record { none = λ nil. absurd (omega (arith, ap length nil)); some = λ lines. line-text rest lines }

    line-answers : beyond m' ≡ false → {lines : List (List ℕ)} {reading : Result System Refusal} {text : List ℕ}
        → Answered m' lines reading → Lines (line ∷ lines) text → Answers m text reading
    line-answers within {reading = reading} rest last = l.stops reading (rest.none refl)
    line-answers within {reading = reading} rest (feed {bytes = bytes} lines) = l.scans by_feed bytes reading λ place. rw within (rest.some lines place)
    line-answers within {reading = reading} rest (return_feed {bytes = bytes} lines) = l.scans by_return bytes reading λ place. rw within (rest.some lines place)

    pub answered-line : beyond m' ≡ false → {lines : List (List ℕ)} {reading : Result System Refusal} → Answered m' lines reading → Answered m (line ∷ lines) reading
    answered-line within rest = record { none = λ nil. absurd (omega (arith, ap length nil)); some = λ lines. line-answers within rest lines }
