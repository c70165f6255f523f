-- Which bytes are of which class.
use mathlib.Core.Bool.{Bool, true, false}
use mathlib.Core.Path.{◌≡◌, refl, sym, subst}
use Prim.Native.Nat.{ℕ, ◌+◌, ◌-◌, ◌<◌}
use native.Mathlib.Omega.{arith}
use borrow.Author.Tests.{eqb-true, eqb-false, leb-true}
use lib.Dec.{eqb, leb}
use Rattle.matrix.specs.Bytes.{tab, line_feed, carriage_return, space, comment_mark, minus, digit_byte, pick, class_of, class_of_other}
use Rattle.matrix.specs.declared.Class.{Class}
use Rattle.matrix.specs.declared.Class.TheVariants.{Digit, Minus, Blank, CarriageReturn, LineFeed, CommentMark, Other}

pub data IsBlank : ℕ → Type 0 where
  is_space : IsBlank space
  is_tab : IsBlank tab

pub data Kind : ℕ → Class → Type 0 where
  a_digit : (d : ℕ) → d < 10 → Kind (digit_byte d) (Digit d)
  a_minus : Kind minus Minus
  a_blank : {b : ℕ} → IsBlank b → Kind b Blank
  a_return : Kind carriage_return CarriageReturn
  a_feed : Kind line_feed LineFeed
  a_mark : Kind comment_mark CommentMark
  another : {b : ℕ} → (b ≡ line_feed → ⊥) → Kind b Other

-- one test of the chain
tested : (b n : ℕ) (c c' : Class) → Kind n c → ((b ≡ n → ⊥) → Kind b c') → Kind b (pick (eqb b n) c c')
tested b n c c' same differ = go (eqb b n) refl
  where
    go : (t : Bool) → eqb b n ≡ t → Kind b (pick t c c')
    go true e = subst (λ x. Kind x c) (sym (eqb-true b n e)) same
    go false e = differ (eqb-false b n e)

kind_other : (b : ℕ) → Kind b (class_of_other b)
kind_other b =
    tested b 45 _ _ a_minus λ _. tested b 32 _ _ (a_blank is_space) λ _. tested b 9 _ _ (a_blank is_tab)
    λ _. tested b 13 _ _ a_return λ _. tested b 10 _ _ a_feed λ feed. tested b 35 _ _ a_mark λ _. another feed

pub kind : (b : ℕ) → Kind b (class_of b)
unfolding class_of
kind b = go (leb 48 b) refl (leb b 57) refl
  where
    go : (low : Bool) → leb 48 b ≡ low → (high : Bool) → leb b 57 ≡ high
        → Kind b (pick low (pick high (Digit (b - 48)) (class_of_other b)) (class_of_other b))
    go true e true f =
        let low = leb-true 48 b e in
        let high = leb-true b 57 f in
        let back : 48 + (b - 48) ≡ b = omega arith in
        subst (λ x. Kind x (Digit (b - 48))) back (a_digit (b - 48) (omega arith))
    go true e false f = kind_other b
    go false e high f = kind_other b

pub blank-no-feed : {b : ℕ} → IsBlank b → b ≡ line_feed → ⊥
blank-no-feed is_space e = omega arith
blank-no-feed is_tab e = omega arith

-- the digit of a byte
pub digit-below : (b d : ℕ) → class_of b ≡ Digit d → d < 10
digit-below b d e = below (subst (Kind b) e (kind b))
  where
    below : {b d : ℕ} → Kind b (Digit d) → d < 10
    below (a_digit d h) = h
