-- What is written is the whole reply, where the page has room for the longest.
use mathlib.Core.Path.{◌≡◌, refl, sym, ap, ◌∙◌}
use mathlib.Core.List.{List}
use Prim.Native.Nat.{ℕ, suc, ◌*◌, ◌≤◌, ◌<◌}
use native.Mathlib.Omega.{arith}
use mathlib.Core.Bool.{Bool, true, false}
use borrow.Author.Tests.{leb-true, leb-false, lt-leb}
use lib.Dec.{leb}
use lib.IntN.{ℤ, pos}
use lib.ListN.{length, take, length-replicate}
use lib.Seq.{length-take-le}
use Rattle.std.proofs.lemmas.List.{take_all}
use Rattle.rows.specs.Row.{zeros}
use Rattle.rules.specs.Outcomes.{solve, blank}
use Rattle.rules.specs.declared.Refusal.{Refusal}
use Rattle.rules.specs.declared.Refusal.TheVariants.{LongText}
use Rattle.rules.specs.declared.Outcome.TheVariants.{Refused}
use Rattle.matrix.specs.Poured.{Page, page, poured, written}
use Rattle.matrix.specs.Reader.{read}
use Rattle.matrix.specs.Printed.{printed, error}
use Rattle.matrix.specs.Program.{answered, replied, program}
use Rattle.matrix.proofs.Counts.{Counted, read-counted}
use Rattle.matrix.proofs.Length.{printed-short}
use Rattle.matrix.proofs.Written.{written-front, written-place, poured-front, length-poured}
use Rattle.std.specs.Prelude.{Result, Err, Ok}
use Rattle.rules.specs.declared.System.{System}

-- what was written is what stands there, and no more
all-written : (bytes cells exit : List ℕ) (place : ℕ) → length bytes ≤ length cells → page exit place ≡ written bytes (page cells 0)
    → (take place exit ≡ bytes) × (place ≤ length exit)
unfolding page
all-written bytes cells exit place h e =
    let long : place ≡ length bytes = ap (λ (p : Page ℕ). p.place) e ∙ written-place bytes cells 0 (omega arith) ∙ omega arith in
    let laid : exit ≡ poured bytes cells = ap (λ (p : Page ℕ). p.cells) e ∙ written-front bytes cells in
    (rw (long, laid) (poured-front bytes cells h), rw (long, laid, length-poured bytes cells) h)

error-short : (refusal : Refusal) → length (error refusal) ≤ 98304
unfolding printed
error-short refusal = printed-short 0 0 0 (Refused refusal) (blank 0 0 0) (omega arith) (omega arith) (omega arith)

replied-short : (r : Result System Refusal) (e i : List ℤ) → Counted r → length (replied r e i) ≤ 98304
unfolding replied answered
replied-short (Ok s) e i c =
    let a = solve s.n s.m s.k (take (s.m * suc s.n) e) (take (s.k * suc s.n) i) (blank s.n s.m s.k) in printed-short s.n s.m s.k a.outcome a.results c.1 c.2 c.3
replied-short (Err refusal) e i c = error-short refusal

pub program-short : (text : List ℕ) → length (program text) ≤ 98304
unfolding program
program-short text =
    let r = read text (zeros 1056) (zeros 2112) in replied-short r.reading r.equations r.inequalities (read-counted text (zeros 1056) (zeros 2112))

-- the page of the program has 98,304 bytes: the reply stands at its front, whole
pub reply-whole : (text cells exit : List ℕ) (place : ℕ) → 98304 ≤ length cells → page exit place ≡ written (program text) (page cells 0)
    → (take place exit ≡ program text) × (place ≤ length exit)
reply-whole text cells exit place room e = all-written (program text) cells exit place (omega (arith, program-short text, room)) e

-- a text that is too long is refused by its first 65,537 bytes
too-long : (text : List ℕ) → 65536 < length text → program text ≡ error LongText
unfolding program replied read zeros
too-long text h = simp (length-replicate 1056 (pos 0), length-replicate 2112 (pos 0), lt-leb (length text) 65536 h)

pub program-front : (text : List ℕ) → program (take 65537 text) ≡ program text
program-front text = go (leb (length text) 65537) refl
  where
    go : (b : Bool) → leb (length text) 65537 ≡ b → program (take 65537 text) ≡ program text
    go true e = ap program (take_all 65537 text (leb-true (length text) 65537 e))
    go false e =
        let long : 65537 < length text = leb-false (length text) 65537 e in
        too-long (take 65537 text) (omega (arith, length-take-le 65537 text (omega arith))) ∙ sym (too-long text (omega arith))
