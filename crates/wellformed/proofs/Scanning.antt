-- The ways in which a scan of a text can end.
use mathlib.Core.Bool.{Bool, true, false, cond, ◌&&◌, true≢false}
use mathlib.Core.Path.{◌≡◌, refl, sym, ap, ◌∙◌}
use mathlib.Core.List.{List, [], ◌∷◌}
use Prim.Native.Nat.{ℕ, suc}
use borrow.Author.Tests.{eqb-true, eq-eqb}
use lib.Dec.{eqb}
use Rattle.rules.specs.declared.Refusal.TheVariants.{OutOfRange, Malformed}
use Rattle.matrix.specs.Bytes.{line_feed}
use Rattle.matrix.specs.Machine.{step}
use Rattle.matrix.specs.Reader.{is_return, is_dead, beyond, counted, at_end, scan}
use Rattle.matrix.specs.declared.Machine.{Machine}
use Rattle.wellformed.proofs.Runs.{run, Accepts}
use Rattle.std.specs.Prelude.{Result, Err}
use Rattle.rules.specs.declared.Refusal.{Refusal}
use Rattle.rules.specs.declared.System.{System}

pub data Scanned : Machine → List ℕ → ℕ → Result System Refusal → Type 0 where
  killed : {m : Machine} {b place : ℕ} {bytes : List ℕ} → is_dead (step m b).phase ≡ true → Scanned m (b ∷ bytes) place (Err (Malformed place))
  beyond_here : {m : Machine} {b place : ℕ} {bytes : List ℕ} → beyond (step m b) ≡ true → Scanned m (b ∷ bytes) place (Err OutOfRange)
  later : {m : Machine} {b place : ℕ} {bytes : List ℕ} {reading : Result System Refusal}
      → is_dead (step m b).phase ≡ false → Scanned (step m b) bytes (suc place) reading → Scanned m (b ∷ bytes) place reading
  unfinished : {m : Machine} {place : ℕ} → (Accepts m [] → ⊥) → Scanned m [] place (Err (Malformed place))
  beyond_at_end : {m : Machine} {place : ℕ} → is_return m.phase ≡ false → beyond (step m line_feed) ≡ true → Scanned m [] place (Err OutOfRange)
  finished : {m : Machine} {place : ℕ} → Accepts m [] → Scanned m [] place (counted (step m line_feed))

pub both : (a b : Bool) → (a && b) ≡ true → (a ≡ true) × (b ≡ true)
both true b e = (refl, e)
both false b e = absurd (true≢false (sym e))

scanned-end : (m : Machine) (place : ℕ) → Scanned m [] place (at_end m place)
unfolding at_end run
scanned-end m place =
    go (is_return m.phase) refl (is_dead m'.phase) refl (beyond m') refl (m'.body && eqb m'.rows 0) refl
  where
    m' : Machine
    m' = step m line_feed

    go : (r : Bool) → is_return m.phase ≡ r → (d : Bool) → is_dead m'.phase ≡ d → (out : Bool) → beyond m' ≡ out
        → (all : Bool) → (m'.body && eqb m'.rows 0) ≡ all
        → Scanned m [] place
        (cond r (Err (Malformed place))
        (cond d (Err (Malformed place)) (cond out (Err OutOfRange) (cond all (counted m') (Err (Malformed place))))))
    go true e d e' out e'' all h = unfinished (λ a. true≢false (sym e ∙ a.ended))
    go false e true e' out e'' all h = unfinished (λ a. true≢false (sym e' ∙ a.alive))
    go false e false e' true e'' all h = beyond_at_end e e''
    go false e false e' false e'' true h =
        let (headed, none) = both m'.body (eqb m'.rows 0) h in
        finished (record { ended = e; alive = e'; headed = headed; whole = eqb-true m'.rows 0 none })
    go false e false e' false e'' false h =
        unfinished (λ a. true≢false (sym (ap (λ x. x && eqb m'.rows 0) a.headed ∙ eq-eqb m'.rows 0 a.whole) ∙ h))

pub scanned : (m : Machine) (place : ℕ) (bytes : List ℕ) → Scanned m bytes place (scan m place bytes)
unfolding scan
scanned m place [] = scanned-end m place
scanned m place (b ∷ bytes) = go (is_dead next.phase) refl (beyond next) refl (scanned next (suc place) bytes)
  where
    next : Machine
    next = step m b

    go : (d : Bool) → is_dead next.phase ≡ d → (out : Bool) → beyond next ≡ out → Scanned next bytes (suc place) (scan next (suc place) bytes)
        → Scanned m (b ∷ bytes) place (cond d (Err (Malformed place)) (cond out (Err OutOfRange) (scan next (suc place) bytes)))
    go true e out e' ih = killed e
    go false e true e' ih = beyond_here e'
    go false e false e' ih = later e ih
