-- The program, by what the reader answers into tables of the right lengths.
use mathlib.Core.Bool.{Bool, true, false}
use mathlib.Core.Path.{◌≡◌, refl, sym, ap, subst, ◌∙◌}
use mathlib.Core.List.{List}
use Prim.Native.Nat.{ℕ, ◌+◌, ◌*◌}
use native.Mathlib.Numerals.{add-one}
use lib.Dec.{leb}
use lib.IntN.{ℤ, pos}
use lib.ListN.{length, take, replicate, length-replicate}
use borrow.Author.Tests.{leb-true, leb-false}
use Rattle.rows.specs.Row.{zeros}
use Rattle.rules.specs.declared.Refusal.{Refusal}
use Rattle.matrix.specs.Reader.{Read, reply, read}
use Rattle.matrix.proofs.Counts.{Counted, read-counted}
use Rattle.reader.proofs.Answered.{short-text, long-text}
use Rattle.matrix.specs.Printed.{error}
use Rattle.matrix.specs.Program.{answered, replied, program}
use Rattle.std.specs.Prelude.{Result, Err}
use Rattle.rules.specs.declared.System.{System}
use Rattle.rules.specs.Reading.{system_of}

read-fixed : (text : List ℕ) (e i : List ℤ) → 1056 ≡ length e → 2112 ≡ length i → read text e i ≡ read text (zeros 1056) (zeros 2112)
unfolding zeros
read-fixed text e i g h =
    let g0 = length-replicate 1056 (pos 0) in
    let h0 = length-replicate 2112 (pos 0) in
    cases g0 h0 (leb (length text) 65536) refl
  where
    cases : length (replicate 1056 (pos 0)) ≡ 1056 → length (replicate 2112 (pos 0)) ≡ 2112 → (t : Bool) → leb (length text) 65536 ≡ t
        → read text e i ≡ read text (replicate 1056 (pos 0)) (replicate 2112 (pos 0))
    cases g0 h0 true t =
        let short = leb-true (length text) 65536 t in
        short-text text e i (sym g) (sym h) short ∙ sym (short-text text (replicate 1056 (pos 0)) (replicate 2112 (pos 0)) g0 h0 short)
    cases g0 h0 false t =
        let long = leb-false (length text) 65536 t in
        long-text text e i (sym g) (sym h) long ∙ sym (long-text text (replicate 1056 (pos 0)) (replicate 2112 (pos 0)) g0 h0 long)

-- what was read, and the tables then
program-is : (text : List ℕ) (e i : List ℤ) (reading : Result System Refusal) (e' i' : List ℤ) → 1056 ≡ length e → 2112 ≡ length i
    → reply reading e' i' ≡ read text e i → program text ≡ replied reading e' i'
unfolding program
program-is text e i reading e' i' g h r =
    ap (λ (x : Read). replied x.reading x.equations x.inequalities) (sym (read-fixed text e i g h) ∙ sym r)

pub program-system : (text : List ℕ) (e i : List ℤ) (reading : Result System Refusal) (e' i' : List ℤ) (n m k : ℕ) → 1056 ≡ length e → 2112 ≡ length i
    → reply reading e' i' ≡ read text e i → reading ≡ system_of n m k → program text ≡ answered n m k (take (m * (n + 1)) e') (take (k * (n + 1)) i')
unfolding replied
program-system text e i reading e' i' n m k g h r is =
    program-is text e i reading e' i' g h r ∙ ap (λ (x : Result System Refusal). replied x e' i') is
    ∙ ap (λ (w : ℕ). answered n m k (take (m * w) e') (take (k * w) i')) (sym (add-one n))

pub program-unread : (text : List ℕ) (e i : List ℤ) (reading : Result System Refusal) (e' i' : List ℤ) (refusal : Refusal) → 1056 ≡ length e → 2112 ≡ length i
    → reply reading e' i' ≡ read text e i → reading ≡ Err refusal → program text ≡ error refusal
unfolding replied
program-unread text e i reading e' i' refusal g h r is = program-is text e i reading e' i' g h r ∙ ap (λ (x : Result System Refusal). replied x e' i') is

pub counted-reading : (text : List ℕ) (e i : List ℤ) (reading : Result System Refusal) (e' i' : List ℤ) → reply reading e' i' ≡ read text e i → Counted reading
counted-reading text e i reading e' i' r = subst (λ (x : Result System Refusal). Counted x) (sym (ap (λ (x : Read). x.reading) r)) (read-counted text e i)
