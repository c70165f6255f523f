-- The machine run over many bytes: how runs join, that a dead machine stays dead, and which texts a machine accepts.
use mathlib.Core.Bool.{true, false, true≢false}
use mathlib.Core.Path.{◌≡◌, refl, sym, ◌∙◌}
use mathlib.Core.List.{List, [], ◌∷◌, ◌++◌}
use Prim.Native.Nat.{ℕ}
use Rattle.matrix.specs.Bytes.{class_of, line_feed}
use Rattle.matrix.specs.Machine.{on_class, step}
use Rattle.matrix.specs.Reader.{is_return, is_dead}
use Rattle.matrix.specs.declared.Class.{Class}
use Rattle.matrix.specs.declared.Class.TheVariants.{Digit, Minus, Blank, CarriageReturn, LineFeed, CommentMark, Other}
use Rattle.matrix.specs.declared.Phase.{Phase}
use Rattle.matrix.specs.declared.Phase.TheVariants.{Start, Lead, Marked, Signed, Digits, Gap, Return, Comment, Dead}
use Rattle.matrix.specs.declared.Machine.{Machine}

unfoldable pub run : Machine → List ℕ → Machine
run m [] = m
run m (b ∷ bytes) = run (step m b) bytes

pub run-append : (m : Machine) (a b : List ℕ) → run m (a ++ b) ≡ run (run m a) b
unfolding run
run-append m [] b = refl
run-append m (x ∷ a) b = run-append (step m x) a b

-- the text from here on is accepted: the end of the text ends a line, whose line feed is not missing, and header and rows have come
pub record Accepts (m : Machine) (bytes : List ℕ) : Type 0 where
  pub ended : is_return (run m bytes).phase ≡ false
  pub alive : is_dead (step (run m bytes) line_feed).phase ≡ false
  pub headed : (step (run m bytes) line_feed).body ≡ true
  pub whole : (step (run m bytes) line_feed).rows ≡ 0

-- ---- a dead machine stays as it is

dead-phase : (phase : Phase) → is_dead phase ≡ true → phase ≡ Dead
dead-phase Start e = absurd (true≢false (sym e))
dead-phase Lead e = absurd (true≢false (sym e))
dead-phase Marked e = absurd (true≢false (sym e))
dead-phase Signed e = absurd (true≢false (sym e))
dead-phase Digits e = absurd (true≢false (sym e))
dead-phase Gap e = absurd (true≢false (sym e))
dead-phase Return e = absurd (true≢false (sym e))
dead-phase Comment e = absurd (true≢false (sym e))
dead-phase Dead e = refl

dead-class : (c : Class) (m : Machine) → m.phase ≡ Dead → on_class c m ≡ m
unfolding on_class
dead-class (Digit d) m e = rw e
dead-class Minus m e = rw e
dead-class Blank m e = rw e
dead-class CarriageReturn m e = rw e
dead-class LineFeed m e = rw e
dead-class CommentMark m e = rw e
dead-class Other m e = rw e

pub dead-step : (m : Machine) (b : ℕ) → is_dead m.phase ≡ true → step m b ≡ m
unfolding step
dead-step m b e = dead-class (class_of b) m (dead-phase m.phase e)

pub dead-stays : (m : Machine) (bytes : List ℕ) → is_dead m.phase ≡ true → is_dead (run m bytes).phase ≡ true
unfolding run
dead-stays m [] e = e
dead-stays m (b ∷ bytes) e = dead-stays (step m b) bytes (rw (dead-step m b e) e)

-- nothing that begins with what kills the machine is accepted
pub dead-refuses : (m : Machine) (bytes : List ℕ) → is_dead (run m bytes).phase ≡ true → Accepts m bytes → ⊥
dead-refuses m bytes e a = true≢false (sym (rw (dead-step (run m bytes) line_feed e) e) ∙ a.alive)
