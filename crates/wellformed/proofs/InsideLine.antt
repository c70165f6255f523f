-- One byte back inside a line: a blank, a digit or a minus before what must follow it.
use mathlib.Core.Bool.{Bool, true, false}
use mathlib.Core.Path.{◌≡◌, subst}
use mathlib.Core.List.{List, ◌∷◌}
use Prim.Native.Nat.{ℕ, zero, suc, ◌+◌, ◌*◌, ◌-◌, ◌<◌}
use native.Mathlib.Omega.{arith}
use borrow.Author.Tests.{eqb-false, ltb-true}
use lib.Dec.{eqb, ltb}
use Rattle.matrix.specs.Bytes.{minus, digit_byte}
use Rattle.wellformed.specs.Grammar.{none, row}
use Rattle.matrix.specs.Machine.{on_digit, on_minus, on_blank, first_number, mark_of, next_number, next_digit, minus_begins}
use Rattle.matrix.specs.declared.Phase.{Phase}
use Rattle.matrix.specs.declared.Phase.TheVariants.{Start, Lead, Marked, Signed, Digits, Gap, Return, Comment, Dead}
use Rattle.matrix.specs.declared.Machine.{Machine}
use Rattle.matrix.proofs.ByteKinds.{IsBlank, blank-no-feed}
use Rattle.wellformed.proofs.Cuts.{Cut, grow, weaken}
use Rattle.wellformed.proofs.Pieces.{blanks-blank, Spaced, spaced-blank, counted-blank, spaced-digit, spaced-minus, minus-digit, number-digit, number-over}
use Rattle.wellformed.proofs.Pieces.{second-digit, second-over, second-begins, to-blank, first-over, first-digit, header-begins}
use Rattle.wellformed.proofs.Following.{Following, Leads, header_line, row_line, leads-after, leads-blank}
use Rattle.wellformed.proofs.Following.{Rest, placed, in_hand, rest-passed, rest-failed}

module _ (G : Following) (m : Machine) where
  -- ---- blanks
  pub back-blank : (phase : Phase) (body : Bool) (left b : ℕ) (bytes : List ℕ) → IsBlank b
      → Rest G (on_blank phase (placed m phase body left)) bytes → Rest G (placed m phase body left) (b ∷ bytes)
  unfolding on_blank
  back-blank Start body left b bytes blank rest = grow (λ line lines h. leads-after G (leads-blank G blank h)) rest
  back-blank Lead body left b bytes blank rest = grow (λ line lines h. leads-blank G blank h) rest
  back-blank Marked true left b bytes blank rest = grow (λ line lines h. (counted-blank blank h.0, h.1)) rest
  back-blank Marked false left b bytes blank rest = tt
  back-blank Signed body left b bytes blank rest = absurd rest
  back-blank Digits true left b bytes blank rest = grow (λ line lines h. (number-over m.digits m.value (counted-blank blank h.0), h.1)) rest
  back-blank Digits false zero b bytes blank rest = grow (λ line lines h. (m.value, second-over m.digits m.value (blanks-blank blank h.0), h.1)) rest
  back-blank Digits false (suc zero) b bytes blank rest = grow (λ line lines h. (m.value, h.0, first-over m.digits m.value blank h.1, h.2)) rest
  back-blank Digits false (suc (suc left)) b bytes blank rest = tt
  back-blank Gap true left b bytes blank rest = grow (λ line lines h. (spaced-blank blank h.0, h.1)) rest
  back-blank Gap false zero b bytes blank rest = grow (λ line lines h. (blanks-blank blank h.0, h.1)) rest
  back-blank Gap false (suc zero) b bytes blank rest = grow (λ line lines h. (h.0, to-blank blank h.1, h.2)) rest
  back-blank Gap false (suc (suc left)) b bytes blank rest = tt
  back-blank Return body left b bytes blank rest = absurd rest
  back-blank Comment body left b bytes blank rest = grow (λ line lines h. ((blank-no-feed blank, h.0), h.1)) rest
  back-blank Dead body left b bytes blank rest = absurd rest

  -- ---- digits
  mark-begins : (d : ℕ) (phase : Phase) (left : ℕ) (bytes : List ℕ) → suc (m.rows - 1) ≡ m.rows → Rest G (mark_of d (placed m phase true left)) bytes
      → Cut (Leads G true m.columns m.rows) (digit_byte d ∷ bytes)
  unfolding mark_of
  mark-begins zero phase left bytes some rest = grow (λ line lines h. row_line some (row {inequality = false} none h.0.long h.0.are) h.1) rest
  mark-begins (suc zero) phase left bytes some rest = grow (λ line lines h. row_line some (row {inequality = true} none h.0.long h.0.are) h.1) rest
  mark-begins (suc (suc d)) phase left bytes some rest = absurd rest

  line-begins : (phase : Phase) (body : Bool) (left d : ℕ) (bytes : List ℕ) → d < 10 → Rest G (first_number d (placed m phase body left)) bytes
      → Cut (Leads G body m.columns m.rows) (digit_byte d ∷ bytes)
  unfolding first_number
  line-begins phase true left d bytes low rest =
      let (some, marked) = rest-failed G (eqb m.rows 0) (placed m phase true left) (mark_of d (placed m phase true left)) bytes rest in
      let other = eqb-false m.rows 0 some in
      mark-begins d phase left bytes (omega arith) marked
  line-begins phase false left d bytes low rest = grow (λ line lines h. header_line (header-begins d low h.2) h.3) rest

  number-begins : (left d : ℕ) (bytes : List ℕ) → d < 10 → Rest G (next_number d (placed m Gap true left)) bytes → Rest G (placed m Gap true left) (digit_byte d ∷ bytes)
  unfolding next_number
  number-begins left d bytes low rest =
      let (some, begun) = rest-failed G (eqb left 0) (placed m Gap true left) (in_hand m Digits true (left - 1) 1 d false) bytes rest in
      let other = eqb-false left 0 some in
      let back : suc (left - 1) ≡ left = omega arith in
      grow (λ line lines h. (subst (λ n. Spaced n (digit_byte d ∷ line)) back (spaced-digit d low h.0), h.1)) begun

  -- one more digit, if there is room
  has_room : (body : Bool) (left d : ℕ) (bytes : List ℕ) → Rest G (next_digit d (placed m Digits body left)) bytes
      → (m.digits < 10) × Rest G (in_hand m Digits body left (m.digits + 1) (m.value * 10 + d) m.negative) bytes
  unfolding next_digit
  has_room body left d bytes rest =
      let (room, longer) = rest-passed G (ltb m.digits 10) (in_hand m Digits body left (m.digits + 1) (m.value * 10 + d) m.negative) (placed m Digits body left) bytes rest in
      (ltb-true m.digits 10 room, longer)

  pub back-digit : (phase : Phase) (body : Bool) (left d : ℕ) (bytes : List ℕ) → d < 10
      → Rest G (on_digit phase d (placed m phase body left)) bytes → Rest G (placed m phase body left) (digit_byte d ∷ bytes)
  unfolding on_digit next_number
  back-digit Start body left d bytes low rest = weaken (λ line lines h. leads-after G h) (line-begins Start body left d bytes low rest)
  back-digit Lead body left d bytes low rest = line-begins Lead body left d bytes low rest
  back-digit Marked body left d bytes low rest = absurd rest
  back-digit Signed true left d bytes low rest = grow (λ line lines h. (minus-digit d low h.0, h.1)) rest
  back-digit Signed false left d bytes low rest = tt
  back-digit Digits true left d bytes low rest =
      let (room, longer) = has_room true left d bytes rest in
      grow (λ line lines h. (number-digit d low room h.0, h.1)) longer
  back-digit Digits false zero d bytes low rest =
      let (room, longer) = has_room false zero d bytes rest in
      grow (λ line lines h. (h.0, second-digit d low room h.1, h.2)) longer
  back-digit Digits false (suc zero) d bytes low rest =
      let (room, longer) = has_room false (suc zero) d bytes rest in
      grow (λ line lines h. (h.0, h.1, first-digit d low room h.2, h.3)) longer
  back-digit Digits false (suc (suc left)) d bytes low rest = tt
  back-digit Gap true left d bytes low rest = number-begins left d bytes low rest
  back-digit Gap false zero d bytes low rest = absurd rest
  back-digit Gap false (suc zero) d bytes low rest = grow (λ line lines h. (h.0, second-begins d low h.1, h.2)) rest
  back-digit Gap false (suc (suc left)) d bytes low rest = tt
  back-digit Return body left d bytes low rest = absurd rest
  back-digit Comment body left d bytes low rest = grow (λ line lines h. ((λ e. omega arith, h.0), h.1)) rest
  back-digit Dead body left d bytes low rest = absurd rest

  -- ---- a minus
  minus-begins : (left : ℕ) (bytes : List ℕ) → Rest G (minus_begins (placed m Gap true left)) bytes → Rest G (placed m Gap true left) (minus ∷ bytes)
  unfolding minus_begins
  minus-begins left bytes rest =
      let (some, begun) = rest-failed G (eqb left 0) (placed m Gap true left) (in_hand m Signed true (left - 1) m.digits m.value true) bytes rest in
      let other = eqb-false left 0 some in
      let back : suc (left - 1) ≡ left = omega arith in
      grow (λ line lines h. (subst (λ n. Spaced n (minus ∷ line)) back (spaced-minus h.0), h.1)) begun

  pub back-minus : (phase : Phase) (body : Bool) (left : ℕ) (bytes : List ℕ)
      → Rest G (on_minus phase (placed m phase body left)) bytes → Rest G (placed m phase body left) (minus ∷ bytes)
  unfolding on_minus
  back-minus Start body left bytes rest = absurd rest
  back-minus Lead body left bytes rest = absurd rest
  back-minus Marked body left bytes rest = absurd rest
  back-minus Signed body left bytes rest = absurd rest
  back-minus Digits body left bytes rest = absurd rest
  back-minus Gap true left bytes rest = minus-begins left bytes rest
  back-minus Gap false left bytes rest = absurd rest
  back-minus Return body left bytes rest = absurd rest
  back-minus Comment body left bytes rest = grow (λ line lines h. ((λ e. omega arith, h.0), h.1)) rest
  back-minus Dead body left bytes rest = absurd rest
