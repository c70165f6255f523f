-- The machine on what stands around the numbers of a line: blanks before, between and behind them, and the line's end.
use mathlib.Core.Bool.{Bool, true, false, cond}
use mathlib.Core.Path.{◌≡◌, refl}
use mathlib.Core.List.{List, [], ◌∷◌, append-nil}
use Prim.Native.Nat.{ℕ}
use Rattle.matrix.specs.Bytes.{tab, space}
use Rattle.wellformed.specs.Grammar.{Blanks, none, a_space, a_tab, Separator, by_space, by_tab}
use Rattle.matrix.specs.Machine.{on_blank, step}
use Rattle.matrix.specs.Reader.{is_start, is_dead, ends}
use Rattle.matrix.specs.declared.Phase.{Phase}
use Rattle.matrix.specs.declared.Phase.TheVariants.{Start, Lead, Marked, Digits, Gap}
use Rattle.matrix.specs.declared.Machine.{Machine}
use Rattle.matrix.proofs.ByteKinds.{IsBlank, is_space, is_tab}
use Rattle.wellformed.proofs.Following.{placed}
use Rattle.wellformed.proofs.Passages.{Passage, Line, given, pending, stay, along, to_end, one_byte, line-ends}

-- inside a line: in a number, or behind a row's mark
abbrev pub behind : Bool → Phase
behind true = Digits
behind false = Marked

-- before the first number of a line: behind a blank, or at its start
abbrev pub leading : Bool → Phase
leading true = Lead
leading false = Start

-- the same but for the phase
abbrev pub moved : Phase → Machine → Machine
moved phase m = placed m phase m.body m.left

-- a header or row line has ended
abbrev pub over : Machine → Machine
over m = record {
  phase = Start;
  body = true;
  rows = m.rows;
  columns = cond m.body m.columns m.value;
  left = m.left;
  digits = m.digits;
  value = m.value;
  negative = m.negative;
  inequality = m.inequality;
  equations = m.equations;
  inequalities = m.inequalities;
}

module _ (which : Bool) where
  -- ---- blanks

  blank-byte : (x x' : Machine) → on_blank x.phase x ≡ x' → is_dead x'.phase ≡ false → is_start x'.phase ≡ false
      → {b : ℕ} → IsBlank b → Passage which x (b ∷ []) x' (given (ends which x x') x)
  unfolding step
  blank-byte x x' e alive within is_space = one_byte which x space x' e alive within
  blank-byte x x' e alive within is_tab = one_byte which x tab x' e alive within

  -- where blanks change nothing
  blanks-stay : (x : Machine) → on_blank x.phase x ≡ x → is_dead x.phase ≡ false → is_start x.phase ≡ false → ends which x x ≡ false
      → {bytes : List ℕ} → Blanks bytes → Passage which x bytes x []
  blanks-stay x e alive within quiet none = stay which x
  blanks-stay x e alive within quiet (a_space blanks) =
      along which (rw quiet at (blank-byte x x e alive within is_space)) (blanks-stay x e alive within quiet blanks)
  blanks-stay x e alive within quiet (a_tab blanks) =
      along which (rw quiet at (blank-byte x x e alive within is_tab)) (blanks-stay x e alive within quiet blanks)

  gap-blanks : (x : Machine) {bytes : List ℕ} → Blanks bytes → Passage which (moved Gap x) bytes (moved Gap x) []
  unfolding on_blank ends
  gap-blanks x blanks = blanks-stay (moved Gap x) refl refl refl refl blanks

  -- behind a number or a mark the first blank ends what is in hand
  first-blank : (hand : Bool) (x : Machine) {b : ℕ} → IsBlank b
      → Passage which (moved (behind hand) x) (b ∷ []) (moved Gap x) (pending which (moved (behind hand) x))
  unfolding on_blank ends
  first-blank true x b = blank-byte _ _ refl refl refl b
  first-blank false x b = blank-byte _ _ refl refl refl b

  gap-begins : (hand : Bool) (x : Machine) {b : ℕ} {bytes : List ℕ} → IsBlank b → Blanks bytes
      → Passage which (moved (behind hand) x) (b ∷ bytes) (moved Gap x) (pending which (moved (behind hand) x))
  gap-begins hand x b blanks = rw (append-nil (pending which (moved (behind hand) x))) at (along which (first-blank hand x b) (gap-blanks x blanks))

  pub separates : (hand : Bool) (x : Machine) {bytes : List ℕ} → Separator bytes
      → Passage which (moved (behind hand) x) bytes (moved Gap x) (pending which (moved (behind hand) x))
  separates hand x (by_space blanks) = gap-begins hand x is_space blanks
  separates hand x (by_tab blanks) = gap-begins hand x is_tab blanks

  -- before the first number of a line
  lead-blank : (x : Machine) {b : ℕ} {bytes : List ℕ} → IsBlank b → Blanks bytes → Passage which (moved Start x) (b ∷ bytes) (moved Lead x) []
  unfolding on_blank ends
  lead-blank x b blanks = along which (blank-byte _ _ refl refl refl b) (blanks-stay (moved Lead x) refl refl refl refl blanks)

  pub lead : (x : Machine) {bytes : List ℕ} → Blanks bytes → (led : Bool) × Passage which (moved Start x) bytes (moved (leading led) x) []
  lead x none = (false, stay which (moved Start x))
  lead x (a_space blanks) = (true, lead-blank x is_space blanks)
  lead x (a_tab blanks) = (true, lead-blank x is_tab blanks)

  -- ---- the line ends, if none of its numbers is missing

  ends_now : (hand : Bool) (x : Machine) → x.left ≡ 0 → Line which (moved (behind hand) x) [] (over x) (pending which (moved (behind hand) x))
  unfolding step ends
  ends_now true x all = line-ends which _ _ refl (rw all) refl (rw all) (rw all) (rw all) _ refl (rw all) (rw all)
  ends_now false x all = line-ends which _ _ refl (rw all) refl (rw all) (rw all) (rw all) _ refl refl (rw all)

  gap_ends : (x : Machine) → x.left ≡ 0 → Line which (moved Gap x) [] (over x) []
  unfolding step ends
  gap_ends x all = line-ends which _ _ refl (rw all) refl (rw all) (rw all) (rw all) _ refl refl (rw all)

  ends-blank : (hand : Bool) (x : Machine) → x.left ≡ 0 → {b : ℕ} {bytes : List ℕ} → IsBlank b → Blanks bytes
      → Line which (moved (behind hand) x) (b ∷ bytes) (over x) (pending which (moved (behind hand) x))
  ends-blank hand x all {b} {bytes} blank blanks =
      rw (append-nil (b ∷ bytes), append-nil (pending which (moved (behind hand) x))) at
      (to_end which (gap-begins hand x blank blanks) (gap_ends x all))

  pub trail : (hand : Bool) (x : Machine) → x.left ≡ 0 → {bytes : List ℕ} → Blanks bytes
      → Line which (moved (behind hand) x) bytes (over x) (pending which (moved (behind hand) x))
  trail hand x all none = ends_now hand x all
  trail hand x all (a_space blanks) = ends-blank hand x all is_space blanks
  trail hand x all (a_tab blanks) = ends-blank hand x all is_tab blanks
