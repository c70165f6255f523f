-- The cases of what the reader answers.
use mathlib.Core.Path.{◌≡◌, ap, ◌∙◌}
use mathlib.Core.List.{List}
use Prim.Native.Nat.{ℕ, ◌≤◌, ◌<◌}
use lib.IntN.{ℤ, pos}
use lib.ListN.{length, replicate}
use borrow.Author.Tests.{eq-eqb, le-leb, lt-leb}
use Rattle.rules.specs.declared.Refusal.TheVariants.{LongText}
use Rattle.rows.specs.Row.{zeros}
use Rattle.matrix.specs.Machine.{begin}
use Rattle.matrix.specs.Reader.{scan, reply, filled, read}
use Rattle.std.specs.Prelude.{Err}

-- a table once it is filled
pub blank : (size : ℕ) {filled : List ℤ} {had : ℕ} → filled ≡ replicate had (pos 0) → had ≡ size → filled ≡ zeros size
unfolding zeros
blank size e long = e ∙ ap (λ (n : ℕ). replicate n (pos 0)) long

module _ (text : List ℕ) (e i : List ℤ) where
  pub long-text : length e ≡ 1056 → length i ≡ 2112 → 65536 < length text → read text e i ≡ reply (Err LongText) (zeros 1056) (zeros 2112)
  unfolding read
  long-text g h l = simp (eq-eqb _ _ g, eq-eqb _ _ h, lt-leb _ _ l)

  pub short-text : length e ≡ 1056 → length i ≡ 2112 → length text ≤ 65536 → read text e i ≡ filled (scan begin 0 text) text
  unfolding read
  short-text g h l = simp (eq-eqb _ _ g, eq-eqb _ _ h, le-leb _ _ l)
