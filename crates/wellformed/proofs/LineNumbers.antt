-- The machine on the numbers of a line: it has in hand what their digits say.
use mathlib.Core.Bool.{Bool, true, false, cond}
use mathlib.Core.Path.{◌≡◌, refl, ap, ◌∙◌}
use mathlib.Core.List.{List, [], ◌∷◌, map}
use Prim.Native.Nat.{ℕ, suc, ◌+◌, ◌*◌, ◌-◌, ◌<◌, ◌≤◌}
use native.Mathlib.Nat.{zero-add}
use native.Mathlib.Omega.{arith}
use borrow.Author.Tests.{le-leb, lt-ltb}
use lib.Dec.{eqb-suc-zero}
use lib.ListN.{length}
use lib.IntN.{ℤ, pos, neg_ℤ, neg_ℤ-neg_ℤ}
use Rattle.matrix.specs.Bytes.{minus, digit_byte, class_of}
use Rattle.wellformed.specs.Grammar.{AllDigits, said, Count, Number, plain, negative}
use Rattle.matrix.specs.Machine.{on_digit, on_class, step}
use Rattle.matrix.specs.Reader.{is_start, is_dead, entry_of, ends}
use Rattle.matrix.specs.declared.Class.TheVariants.{Digit}
use Rattle.matrix.specs.declared.Phase.TheVariants.{Signed, Digits, Gap}
use Rattle.matrix.specs.declared.Machine.{Machine}
use Rattle.wellformed.proofs.Following.{in_hand}
use Rattle.wellformed.proofs.Passages.{Passage, given, stay, along, one_byte}
use Rattle.wellformed.proofs.LinePieces.{moved}

class-digit : (d : ℕ) → d < 10 → class_of (digit_byte d) ≡ Digit d
unfolding class_of
class-digit d low =
    let above = le-leb 48 (48 + d) (omega arith) in
    let below = le-leb (48 + d) 57 (omega arith) in
    let back : 48 + d - 48 ≡ d = omega arith in
    rw (above, below, back)

module _ (which : Bool) where
  pub digit-byte : (x x' : Machine) (d : ℕ) → d < 10 → on_digit x.phase d x ≡ x' → is_dead x'.phase ≡ false → is_start x'.phase ≡ false
      → Passage which x (digit_byte d ∷ []) x' (given (ends which x x') x)
  unfolding step
  digit-byte x x' d low e alive within = one_byte which x (digit_byte d) x' (ap (λ c. on_class c x) (class-digit d low) ∙ e) alive within

  -- ---- behind the first digit, with `had` digits that say `before`; how many there are in the end matters no more
  module _ (m : Machine) (body : Bool) (left : ℕ) (sign : Bool) where
    more-digits : (digits : List ℕ) (had before : ℕ) → AllDigits digits → length digits ≤ 10 - had
        → (n : ℕ) × Passage which (in_hand m Digits body left had before sign) (map digit_byte digits) (in_hand m Digits body left n (said before digits) sign) []
    unfolding on_digit ends said
    more-digits [] had before each few = (had, stay which (in_hand m Digits body left had before sign))
    more-digits (d ∷ digits) had before each few =
        let room = lt-ltb had 10 (omega arith) in
        let (n, rest) = more-digits digits (had + 1) (before * 10 + d) each.1 (omega arith) in
        (n, along which (digit-byte _ _ d each.0 (rw room) refl refl) rest)

    -- a machine that any digit brings into a number
    pub count : (x : Machine) → ((d : ℕ) → d < 10 → Passage which x (digit_byte d ∷ []) (in_hand m Digits body left 1 d sign) [])
        → {value : ℕ} {bytes : List ℕ} → Count value bytes → (n : ℕ) × Passage which x bytes (in_hand m Digits body left n value sign) []
    unfolding said
    count x begins {value} {bytes} c = go c.digits c.each c.some c.few c.shown c.says
      where
        go : (digits : List ℕ) → AllDigits digits → 1 ≤ length digits → length digits ≤ 10 → bytes ≡ map digit_byte digits → value ≡ said 0 digits
            → (n : ℕ) × Passage which x bytes (in_hand m Digits body left n value sign) []
        go [] each some few shown says = absurd (omega arith)
        go (d ∷ digits) each some few shown says =
            let (n, rest) = more-digits digits 1 d each.1 (omega arith) in
            (n, rw (shown, says, zero-add d) (along which (begins d each.0) rest))

  -- ---- a number of a row, behind a blank
  module _ (x : Machine) (left : ℕ) (read : x.body ≡ true) (some : x.left ≡ suc left) where
    plain-begins : (d : ℕ) → d < 10 → Passage which (moved Gap x) (digit_byte d ∷ []) (in_hand x Digits true left 1 d false) []
    unfolding on_digit ends
    plain-begins d low =
        let back : suc left - 1 ≡ left = omega arith in
        digit-byte _ _ d low (rw (some, eqb-suc-zero left, read, back)) refl refl

    minus-begins : Passage which (moved Gap x) (minus ∷ []) (in_hand x Signed true left x.digits x.value true) []
    unfolding step ends
    minus-begins =
        let back : suc left - 1 ≡ left = omega arith in
        one_byte which _ minus _ (rw (read, some, eqb-suc-zero left, back)) refl refl

    signed-begins : (d : ℕ) → d < 10
        → Passage which (in_hand x Signed true left x.digits x.value true) (digit_byte d ∷ []) (in_hand x Digits true left 1 d true) []
    unfolding on_digit ends
    signed-begins d low = digit-byte _ _ d low refl refl refl

    -- the entry that the number in hand gives is this number, negated in an inequality
    pub number : {z : ℤ} {bytes : List ℕ} → Number z bytes
        → (n : ℕ) × (value : ℕ) × (sign : Bool) × Passage which (moved Gap x) bytes (in_hand x Digits true left n value sign) []
        × (entry_of (in_hand x Digits true left n value sign) ≡ cond x.inequality (neg_ℤ z) z)
    number (plain {value = value} c) =
        let (n, passed) = count x true left false (moved Gap x) plain-begins c in (n, value, false, passed, refl)
    number (negative {value = value} c) =
        let (n, passed) = count x true left true (in_hand x Signed true left x.digits x.value true) signed-begins c in
        (n, value, true, along which minus-begins passed, rw (neg_ℤ-neg_ℤ (pos value)))
