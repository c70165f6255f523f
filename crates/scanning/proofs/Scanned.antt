-- What is left to scan, one byte at a time.
use mathlib.Core.Bool.{true, false}
use mathlib.Core.Path.{◌≡◌, refl}
use mathlib.Core.List.{List}
use Prim.Native.Nat.{ℕ, ◌+◌, ◌<◌, ◌≤◌}
use native.Mathlib.Numerals.{add-one}
use lib.ListN.{length, drop, get_or, drop_of_length-le}
use lib.Seq.{drop-cons}
use Rattle.rules.specs.declared.Refusal.TheVariants.{OutOfRange, Malformed}
use Rattle.matrix.specs.Machine.{step}
use Rattle.matrix.specs.Reader.{is_dead, beyond, at_end, scan}
use Rattle.matrix.specs.declared.Machine.{Machine}
use Rattle.machine.proofs.Kept.{begin-sound, step-sound, asked}
use Rattle.std.specs.Prelude.{Err}

module _ (m : Machine) (place : ℕ) (text : List ℕ) where
  pub scan-dead : place < length text → is_dead (step m (get_or text place 0)).phase ≡ true → scan m place (drop place text) ≡ Err (Malformed place)
  unfolding scan
  scan-dead h dead = rw (drop-cons text place 0 h, dead) refl

  pub scan-beyond : place < length text → is_dead (step m (get_or text place 0)).phase ≡ false → beyond (step m (get_or text place 0)) ≡ true
      → scan m place (drop place text) ≡ Err OutOfRange
  unfolding scan
  scan-beyond h live out = rw (drop-cons text place 0 h, live, out) refl

  pub scan-on : place < length text → is_dead (step m (get_or text place 0)).phase ≡ false → beyond (step m (get_or text place 0)) ≡ false
      → scan m place (drop place text) ≡ scan (step m (get_or text place 0)) (place + 1) (drop (place + 1) text)
  unfolding scan
  scan-on h live within = rw (drop-cons text place 0 h, live, within, add-one place) refl

  pub scan-end : length text ≤ place → scan m place (drop place text) ≡ at_end m place
  unfolding scan
  scan-end h = rw (drop_of_length-le text h) refl

pub ruleset scanned = (scan-dead, scan-beyond, scan-on, scan-end, begin-sound, step-sound, asked)
