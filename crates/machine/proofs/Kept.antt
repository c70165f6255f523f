-- A byte keeps the machine in bounds.
use mathlib.Core.Bool.{Bool, true, false, cond}
use mathlib.Core.Path.{◌≡◌, refl}
use Prim.Native.Nat.{ℕ, zero, suc, ◌+◌, ◌*◌, ◌≤◌, ◌<◌, ◌^◌}
use native.Mathlib.Nat.{pow-suc, pow-le-pow_right, lt_of_lt_of_le, zero-lt-suc}
use native.Mathlib.Numerals.{add-one}
use native.Mathlib.Omega.{arith}
use lib.Dec.{eqb, ltb}
use borrow.Author.Tests.{ltb-true}
use Rattle.matrix.specs.Bytes.{class_of}
use Rattle.matrix.specs.Machine.{begin, in_phase, first_count, marked, mark_of, first_number, next_number, after_minus, next_digit, minus_begins, line_ends, on_digit, on_minus, on_blank, on_carriage_return, on_line_feed, on_comment_mark, on_other, on_class, step}
use Rattle.matrix.specs.declared.Class.{Class}
use Rattle.matrix.specs.declared.Class.TheVariants.{Digit, Minus, Blank, CarriageReturn, LineFeed, CommentMark, Other}
use Rattle.matrix.specs.declared.Phase.{Phase}
use Rattle.matrix.specs.declared.Phase.TheVariants.{Start, Lead, Marked, Signed, Digits, Gap, Return, Comment, Dead}
use Rattle.matrix.specs.declared.Machine.{Machine}
use Rattle.matrix.proofs.ByteKinds.{digit-below}
use Rattle.machine.specs.Sound.{Sound}

pub begin-sound : Sound begin 0
unfolding begin
begin-sound = record { value = omega arith; digits = omega arith; equations = omega arith; inequalities = omega arith }

-- the counts that are not touched have room for one byte more
later : (m : Machine) (place : ℕ) → Sound m place → Sound m (place + 1)
later m place s = record { value = s.value; digits = s.digits; equations = omega (arith, s.equations); inequalities = omega (arith, s.inequalities) }

either : (t : Bool) (a b : Machine) (place : ℕ) → Sound a place → Sound b place → Sound (cond t a b) place
either true a b place p q = p
either false a b place p q = q

in-phase-sound : (phase : Phase) (m : Machine) (place : ℕ) → Sound m place → Sound (in_phase phase m) (place + 1)
unfolding in_phase
in-phase-sound phase m place s = record { value = s.value; digits = s.digits; equations = omega (arith, s.equations); inequalities = omega (arith, s.inequalities) }

marked-sound : (inequality : Bool) (m : Machine) (place : ℕ) → Sound m place → Sound (marked inequality m) (place + 1)
unfolding marked
marked-sound true m place s = record { value = s.value; digits = s.digits; equations = omega (arith, s.equations); inequalities = omega (arith, s.inequalities) }
marked-sound false m place s = record { value = s.value; digits = s.digits; equations = omega (arith, s.equations); inequalities = omega (arith, s.inequalities) }

mark-sound : (d : ℕ) (m : Machine) (place : ℕ) → Sound m place → Sound (mark_of d m) (place + 1)
unfolding mark_of
mark-sound zero m place s = marked-sound false m place s
mark-sound (suc zero) m place s = marked-sound true m place s
mark-sound (suc (suc d)) m place s = in-phase-sound Dead m place s

-- a number of one digit, whatever the other fields are
one-digit : (m n : Machine) (place d : ℕ) → d < 10 → n.value ≡ d → n.digits ≡ 1 → n.equations ≡ m.equations → n.inequalities ≡ m.inequalities
    → Sound m place → Sound n (place + 1)
one-digit m n place d low v k e i s =
    record {
      value = rw (v, k) low;
      digits = omega (arith, k);
      equations = omega (arith, s.equations, e);
      inequalities = omega (arith, s.inequalities, i);
    }

first-sound : (d : ℕ) (m : Machine) (place : ℕ) → d < 10 → Sound m place → Sound (first_number d m) (place + 1)
unfolding first_number first_count
first-sound d m place low s =
    either
    m.body
    _
    _
    (place + 1)
    (either (eqb m.rows 0) _ _ (place + 1) (in-phase-sound Dead m place s) (mark-sound d m place s))
    (one-digit m _ place d low refl refl refl refl s)

next-sound : (d : ℕ) (m : Machine) (place : ℕ) → d < 10 → Sound m place → Sound (next_number d m) (place + 1)
unfolding next_number
next-sound d m place low s =
    either (eqb m.left 0) _ _ (place + 1) (in-phase-sound Dead m place s) (one-digit m _ place d low refl refl refl refl s)

after-minus-sound : (d : ℕ) (m : Machine) (place : ℕ) → d < 10 → Sound m place → Sound (after_minus d m) (place + 1)
unfolding after_minus
after-minus-sound d m place low s = one-digit m _ place d low refl refl refl refl s

-- one more digit keeps the value below the power of ten
bigger : (v n d : ℕ) → v < 10 ^ n → d < 10 → v * 10 + d < 10 ^ (n + 1)
bigger v n d h l = rw (add-one, pow-suc) (omega arith)

next-digit-sound : (d : ℕ) (m : Machine) (place : ℕ) → d < 10 → Sound m place → Sound (next_digit d m) (place + 1)
unfolding next_digit
next-digit-sound d m place low s = cases (ltb m.digits 10) refl
  where
    cases : (t : Bool) → ltb m.digits 10 ≡ t → Sound (next_digit d m) (place + 1)
    cases true e =
        rw e
        (record {
          value = bigger _ _ _ s.value low;
          digits = omega (arith, ltb-true m.digits 10 e);
          equations = omega (arith, s.equations);
          inequalities = omega (arith, s.inequalities);
        })
    cases false e = rw e (in-phase-sound Dead m place s)

minus-sound : (m : Machine) (place : ℕ) → Sound m place → Sound (minus_begins m) (place + 1)
unfolding minus_begins
minus-sound m place s =
    let dead = in-phase-sound Dead m place s in
    let on = later m place s in
    either m.body _ _ (place + 1) (either (eqb m.left 0) _ _ (place + 1) dead (record { value = on.value; digits = on.digits; equations = on.equations; inequalities = on.inequalities })) dead

line-sound : (phase : Phase) (m : Machine) (place : ℕ) → Sound m place → Sound (line_ends phase m) (place + 1)
unfolding line_ends
line-sound phase m place s =
    let on = later m place s in
    either (eqb m.left 0) _ _ (place + 1) (record { value = on.value; digits = on.digits; equations = on.equations; inequalities = on.inequalities }) (in-phase-sound Dead m place s)

digit-sound : (phase : Phase) (d : ℕ) (m : Machine) (place : ℕ) → d < 10 → Sound m place → Sound (on_digit phase d m) (place + 1)
unfolding on_digit
digit-sound Start d m place low s = first-sound d m place low s
digit-sound Lead d m place low s = first-sound d m place low s
digit-sound Marked d m place low s = in-phase-sound Dead m place s
digit-sound Signed d m place low s = after-minus-sound d m place low s
digit-sound Digits d m place low s = next-digit-sound d m place low s
digit-sound Gap d m place low s = next-sound d m place low s
digit-sound Return d m place low s = in-phase-sound Dead m place s
digit-sound Comment d m place low s = later m place s
digit-sound Dead d m place low s = later m place s

on-minus-sound : (phase : Phase) (m : Machine) (place : ℕ) → Sound m place → Sound (on_minus phase m) (place + 1)
unfolding on_minus
on-minus-sound Start m place s = in-phase-sound Dead m place s
on-minus-sound Lead m place s = in-phase-sound Dead m place s
on-minus-sound Marked m place s = in-phase-sound Dead m place s
on-minus-sound Signed m place s = in-phase-sound Dead m place s
on-minus-sound Digits m place s = in-phase-sound Dead m place s
on-minus-sound Gap m place s = minus-sound m place s
on-minus-sound Return m place s = in-phase-sound Dead m place s
on-minus-sound Comment m place s = later m place s
on-minus-sound Dead m place s = later m place s

blank-sound : (phase : Phase) (m : Machine) (place : ℕ) → Sound m place → Sound (on_blank phase m) (place + 1)
unfolding on_blank
blank-sound Start m place s = in-phase-sound Lead m place s
blank-sound Lead m place s = later m place s
blank-sound Marked m place s = in-phase-sound Gap m place s
blank-sound Signed m place s = in-phase-sound Dead m place s
blank-sound Digits m place s = in-phase-sound Gap m place s
blank-sound Gap m place s = later m place s
blank-sound Return m place s = in-phase-sound Dead m place s
blank-sound Comment m place s = later m place s
blank-sound Dead m place s = later m place s

return-sound : (phase : Phase) (m : Machine) (place : ℕ) → Sound m place → Sound (on_carriage_return phase m) (place + 1)
unfolding on_carriage_return
return-sound Start m place s = in-phase-sound Return m place s
return-sound Lead m place s = in-phase-sound Return m place s
return-sound Marked m place s = line-sound Return m place s
return-sound Signed m place s = in-phase-sound Dead m place s
return-sound Digits m place s = line-sound Return m place s
return-sound Gap m place s = line-sound Return m place s
return-sound Return m place s = in-phase-sound Dead m place s
return-sound Comment m place s = later m place s
return-sound Dead m place s = later m place s

feed-sound : (phase : Phase) (m : Machine) (place : ℕ) → Sound m place → Sound (on_line_feed phase m) (place + 1)
unfolding on_line_feed
feed-sound Start m place s = later m place s
feed-sound Lead m place s = in-phase-sound Start m place s
feed-sound Marked m place s = line-sound Start m place s
feed-sound Signed m place s = in-phase-sound Dead m place s
feed-sound Digits m place s = line-sound Start m place s
feed-sound Gap m place s = line-sound Start m place s
feed-sound Return m place s = in-phase-sound Start m place s
feed-sound Comment m place s = in-phase-sound Start m place s
feed-sound Dead m place s = later m place s

comment-sound : (phase : Phase) (m : Machine) (place : ℕ) → Sound m place → Sound (on_comment_mark phase m) (place + 1)
unfolding on_comment_mark
comment-sound Start m place s = in-phase-sound Comment m place s
comment-sound Lead m place s = in-phase-sound Dead m place s
comment-sound Marked m place s = in-phase-sound Dead m place s
comment-sound Signed m place s = in-phase-sound Dead m place s
comment-sound Digits m place s = in-phase-sound Dead m place s
comment-sound Gap m place s = in-phase-sound Dead m place s
comment-sound Return m place s = in-phase-sound Dead m place s
comment-sound Comment m place s = later m place s
comment-sound Dead m place s = later m place s

other-sound : (phase : Phase) (m : Machine) (place : ℕ) → Sound m place → Sound (on_other phase m) (place + 1)
unfolding on_other
other-sound Start m place s = in-phase-sound Dead m place s
other-sound Lead m place s = in-phase-sound Dead m place s
other-sound Marked m place s = in-phase-sound Dead m place s
other-sound Signed m place s = in-phase-sound Dead m place s
other-sound Digits m place s = in-phase-sound Dead m place s
other-sound Gap m place s = in-phase-sound Dead m place s
other-sound Return m place s = in-phase-sound Dead m place s
other-sound Comment m place s = later m place s
other-sound Dead m place s = later m place s

class-sound : (c : Class) (m : Machine) (place : ℕ) → ((d : ℕ) → c ≡ Digit d → d < 10) → Sound m place → Sound (on_class c m) (place + 1)
unfolding on_class
class-sound (Digit d) m place low s = digit-sound m.phase d m place (low d refl) s
class-sound Minus m place low s = on-minus-sound m.phase m place s
class-sound Blank m place low s = blank-sound m.phase m place s
class-sound CarriageReturn m place low s = return-sound m.phase m place s
class-sound LineFeed m place low s = feed-sound m.phase m place s
class-sound CommentMark m place low s = comment-sound m.phase m place s
class-sound Other m place low s = other-sound m.phase m place s

pub step-sound : (m : Machine) (b place : ℕ) → Sound m place → Sound (step m b) (place + 1)
unfolding step
step-sound m b place s = class-sound (class_of b) m place (digit-below b) s

-- what one byte asks of the machine before it
pub asked : (m : Machine) (place : ℕ) → place ≤ 65536 → Sound m place → (m.equations ≤ 65536) × (m.inequalities ≤ 65536) × (m.value ≤ 10000000000)
asked m place h s =
    let low : m.value < 10000000000 = lt_of_lt_of_le s.value (pow-le-pow_right (zero-lt-suc 9) s.digits) in
    (omega (arith, s.equations), omega (arith, s.inequalities), omega (arith, low))
