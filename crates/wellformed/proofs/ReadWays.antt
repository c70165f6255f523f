-- The ways in which the reader can answer, and what its two tables then hold.
use mathlib.Core.Bool.{Bool, true, false, cond, ◌&&◌}
use mathlib.Core.Path.{◌≡◌, refl}
use mathlib.Core.List.{List}
use Prim.Native.Nat.{ℕ, ◌<◌}
use native.Mathlib.Omega.{arith}
use borrow.Author.Tests.{eqb-true, eqb-false, leb-true, leb-false}
use lib.Dec.{eqb, leb}
use lib.ListN.{length}
use lib.IntN.{ℤ}
use Rattle.rows.specs.Row.{zeros}
use Rattle.rules.specs.declared.Refusal.TheVariants.{OutOfRange, WrongLength, Malformed, LongText}
use Rattle.matrix.specs.Machine.{begin}
use Rattle.matrix.specs.Reader.{scan, Read, reply, filled, read}
use Rattle.wellformed.specs.Promised.{RightLengths, Taken}
use Rattle.wellformed.proofs.Scanning.{scanned}
use Rattle.wellformed.proofs.OnePlace.{Scans, a_system, refused, malformed, scans}
use Rattle.std.specs.Prelude.{Result, Err}
use Rattle.rules.specs.declared.Refusal.{Refusal}
use Rattle.rules.specs.declared.System.{System}
use Rattle.rules.specs.Reading.{system_of}

-- a refusal that is no refusal 2 leaves zeros
abbrev pub emptied : Result System Refusal → Read
emptied reading = reply reading (zeros 1056) (zeros 2112)

module _ (text : List ℕ) (equations inequalities : List ℤ) where
  -- what the reader may answer, with what it leaves in the tables
  pub data Way : Read → Type 0 where
    wrong_lengths : (RightLengths text equations inequalities → ⊥) → Way (reply (Err WrongLength) equations inequalities)
    too_long : RightLengths text equations inequalities → 65536 < length text → Way (emptied (Err LongText))
    as_system : {n m k : ℕ} (e i : List ℤ) → Taken text equations inequalities → scan begin 0 text ≡ system_of n m k → Way (reply (system_of n m k) e i)
    as_refused : Taken text equations inequalities → scan begin 0 text ≡ Err OutOfRange → Way (emptied (Err OutOfRange))
    as_malformed : {place : ℕ} → Taken text equations inequalities → scan begin 0 text ≡ Err (Malformed place) → Way (emptied (Err (Malformed place)))

  by-scan : Taken text equations inequalities → {reading : Result System Refusal} → Scans reading → scan begin 0 text ≡ reading → Way (filled reading text)
  unfolding filled
  by-scan taken (a_system n m k) e = as_system _ _ taken e
  by-scan taken refused e = as_refused taken e
  by-scan taken (malformed place) e = as_malformed taken e

  pub way : Way (read text equations inequalities)
  unfolding read
  way = go (eqb (length equations) 1056) refl (eqb (length inequalities) 2112) refl (leb (length text) 65536) refl
    where
      go : (one : Bool) → eqb (length equations) 1056 ≡ one → (other : Bool) → eqb (length inequalities) 2112 ≡ other
          → (short : Bool) → leb (length text) 65536 ≡ short
          → Way (cond (one && other)
          (cond short (filled (scan begin 0 text) text) (emptied (Err LongText)))
          (reply (Err WrongLength) equations inequalities))
      go false e other e' short e'' = wrong_lengths (λ right. eqb-false (length equations) 1056 e right.0)
      go true e false e' short e'' = wrong_lengths (λ right. eqb-false (length inequalities) 2112 e' right.1)
      go true e true e' false e'' =
          too_long (eqb-true (length equations) 1056 e, eqb-true (length inequalities) 2112 e') (leb-false (length text) 65536 e'')
      go true e true e' true e'' =
          let right : RightLengths text equations inequalities = (eqb-true (length equations) 1056 e, eqb-true (length inequalities) 2112 e') in
          by-scan (right, leb-true (length text) 65536 e'') (scans (scanned begin 0 text)) refl

  -- lengths, and then a length, that have one answer
  pub lengths-refused : {r : Read} → Way r → (RightLengths text equations inequalities → ⊥) → r.reading ≡ Err WrongLength
  lengths-refused (wrong_lengths _) other = refl
  lengths-refused (too_long right more) other = absurd (other right)
  lengths-refused (as_system e i taken s) other = absurd (other taken.0)
  lengths-refused (as_refused taken s) other = absurd (other taken.0)
  lengths-refused (as_malformed taken s) other = absurd (other taken.0)

  pub length-refused : {r : Read} → Way r → RightLengths text equations inequalities → 65536 < length text → r.reading ≡ Err LongText
  length-refused (wrong_lengths other) right more = absurd (other right)
  length-refused (too_long _ _) right more = refl
  length-refused (as_system e i taken s) right more = let short = taken.1 in absurd (omega arith)
  length-refused (as_refused taken s) right more = let short = taken.1 in absurd (omega arith)
  length-refused (as_malformed taken s) right more = let short = taken.1 in absurd (omega arith)
