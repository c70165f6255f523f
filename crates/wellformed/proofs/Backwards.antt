-- One byte back: what the bytes after a byte must be says what the bytes from it on must be.
use mathlib.Core.Bool.{Bool, false}
use mathlib.Core.Path.{◌≡◌}
use mathlib.Core.List.{List, [], ◌∷◌}
use Prim.Native.Nat.{ℕ}
use Rattle.matrix.specs.Bytes.{line_feed}
use Rattle.wellformed.specs.Grammar.{last}
use Rattle.matrix.specs.Machine.{on_class, step}
use Rattle.matrix.specs.Reader.{is_return}
use Rattle.matrix.specs.declared.Class.{Class}
use Rattle.matrix.specs.declared.Phase.{Phase}
use Rattle.matrix.specs.declared.Machine.{Machine}
use Rattle.matrix.proofs.ByteKinds.{Kind, a_digit, a_minus, a_blank, a_return, a_feed, a_mark, another, kind}
use Rattle.wellformed.proofs.Following.{Following, Rest, Ended, placed}
use Rattle.wellformed.proofs.InsideLine.{back-blank, back-digit, back-minus}
use Rattle.wellformed.proofs.LineEnds.{ends, back-feed, back-return, back-mark, back-other}

module _ (G : Following) (m : Machine) where
  back-kind : {b : ℕ} {c : Class} (phase : Phase) (body : Bool) (left : ℕ) (bytes : List ℕ) → Kind b c
      → Rest G (on_class c (placed m phase body left)) bytes → Rest G (placed m phase body left) (b ∷ bytes)
  unfolding on_class
  back-kind phase body left bytes (a_digit d low) rest = back-digit G m phase body left d bytes low rest
  back-kind phase body left bytes a_minus rest = back-minus G m phase body left bytes rest
  back-kind {b} phase body left bytes (a_blank blank) rest = back-blank G m phase body left b bytes blank rest
  back-kind phase body left bytes a_return rest = back-return G m phase body left bytes rest
  back-kind phase body left bytes a_feed rest = back-feed G m phase body left bytes rest
  back-kind phase body left bytes a_mark rest = back-mark G m phase body left bytes rest
  back-kind {b} phase body left bytes (another other) rest = back-other G m phase body left b bytes other rest

  pub back : (b : ℕ) (bytes : List ℕ) → Rest G (step m b) bytes → Rest G m (b ∷ bytes)
  unfolding step
  back b bytes rest = back-kind m.phase m.body m.left bytes (kind b) rest

  -- at the end of the text
  pub back_end : is_return m.phase ≡ false → Ended G (step m line_feed) [] → Rest G m []
  unfolding step
  back_end other after = ends G m m.phase m.body m.left [] [] other last after
