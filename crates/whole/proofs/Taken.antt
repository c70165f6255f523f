-- What a branch on two signed locals tells, whose bits the test compares, and what is read back from the bits of one.
use mathlib.Core.Path.{◌≡◌, sym, ap, ap₂, ◌∙◌}
use mathlib.Core.Bool.{true, false}
use Prim.Native.Nat.{◌<◌, ◌^◌}
use lib.IntN.{ℤ, pos}
use lib.Signed.{mag, lt_z, ◌≤ℤ◌, ◌<ℤ◌}
use mir.Syntax.{Width, w64}
use mir.Val.{SFits, hbits, to_z, of_z}
use mir.Facts.{to_z-of_z}
use Rattle.whole.proofs.Order.{lt-true, lt-false}

module _ {w : Width} {a b : ℤ} (f : SFits w a) (g : SFits w b) where
  pub lt-taken : lt_z (to_z w (of_z w a)) (to_z w (of_z w b)) ≡ true → a <ℤ b
  lt-taken e = lt-true a b (sym (ap₂ lt_z (to_z-of_z f) (to_z-of_z g)) ∙ e)

  pub lt-left : lt_z (to_z w (of_z w a)) (to_z w (of_z w b)) ≡ false → b ≤ℤ a
  lt-left e = lt-false a b (sym (ap₂ lt_z (to_z-of_z f) (to_z-of_z g)) ∙ e)

-- an element that was read, `back z c.x.given`, or the result of a call, `back r c.f.ok`
pub back : (z : ℤ) → mag z < 2 ^ hbits w64 → to_z w64 (of_z w64 z) ≡ z
back z h = to_z-of_z {w = w64} (record { sfits = h })

-- a test of a number that was read against 0 compares its bits
pub zero-read : (z : ℤ) → mag z < 2 ^ hbits w64 → of_z w64 z ≡ 0 → z ≡ pos 0
zero-read z h e = sym (back z h) ∙ ap (to_z w64) e

pub nonzero-read : (z : ℤ) → (of_z w64 z ≡ 0 → ⊥) → z ≡ pos 0 → ⊥
nonzero-read z n e = n (ap (of_z w64) e)
