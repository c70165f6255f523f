-- A text refused as out of range has a header whose counts do not fit, or is well formed.
use mathlib.Core.Bool.{Bool, true, false, ◌&&◌, true≢false}
use mathlib.Core.Logic.{◌⊎◌, inl, inr, ⊎_elim}
use mathlib.Core.Path.{◌≡◌, refl, sym, ap, ◌∙◌}
use mathlib.Core.List.{List, []}
use Prim.Native.Nat.{ℕ, suc}
use native.Mathlib.Omega.{arith}
use borrow.Author.Tests.{leb-true, le-leb, not-true}
use lib.Dec.{leb}
use Rattle.rules.specs.declared.Refusal.TheVariants.{OutOfRange}
use Rattle.matrix.specs.Bytes.{line_feed}
use Rattle.wellformed.specs.Grammar.{Lines, last, feed, return_feed, WellFormed}
use Rattle.matrix.specs.Machine.{begin, step}
use Rattle.matrix.specs.Reader.{is_start, counts_fit, beyond, scan}
use Rattle.matrix.specs.declared.Phase.{Phase}
use Rattle.matrix.specs.declared.Phase.TheVariants.{Start, Lead, Marked, Signed, Digits, Gap, Return, Comment, Dead}
use Rattle.matrix.specs.declared.Machine.{Machine}
use Rattle.wellformed.specs.Promised.{Headed}
use Rattle.wellformed.proofs.Runs.{run, Accepts}
use Rattle.wellformed.proofs.Following.{Following, Heads, skip, head, Rest, Ended}
use Rattle.wellformed.proofs.Backwards.{back, back_end}
use Rattle.wellformed.proofs.Saying.{accepts-says}
use Rattle.wellformed.proofs.Scanning.{Scanned, killed, beyond_here, later, unfinished, beyond_at_end, finished, scanned, both}
use Rattle.std.specs.Prelude.{Result, Err}
use Rattle.rules.specs.declared.Refusal.{Refusal}
use Rattle.rules.specs.declared.System.{System}

-- one row more fits no better
fits-less : (columns rows : ℕ) → counts_fit rows columns ≡ false → counts_fit (suc rows) columns ≡ false
fits-less columns rows e = go (leb (suc rows) 96) refl
  where
    wide : Bool
    wide = leb 3 columns && leb columns 34

    go : (few : Bool) → leb (suc rows) 96 ≡ few → (few && wide) ≡ false
    go true f =
        let low = leb-true (suc rows) 96 f in
        sym (ap (λ t. t && wide) (le-leb rows 96 (omega arith))) ∙ e
    go false f = refl

-- any lines may follow a header whose counts do not fit
any_lines : Following
any_lines = record {
  holds = λ columns rows lines. counts_fit rows columns ≡ false;
  skips = λ columns rows line lines skipped h. h;
  adds = λ columns rows r line lines is h. fits-less columns rows h;
}

-- ---- where a scan found the counts beyond the limits

starts : (phase : Phase) → is_start phase ≡ true → phase ≡ Start
starts Start e = refl
starts Lead e = absurd (true≢false (sym e))
starts Marked e = absurd (true≢false (sym e))
starts Signed e = absurd (true≢false (sym e))
starts Digits e = absurd (true≢false (sym e))
starts Gap e = absurd (true≢false (sym e))
starts Return e = absurd (true≢false (sym e))
starts Comment e = absurd (true≢false (sym e))
starts Dead e = absurd (true≢false (sym e))

beyond-is : (m : Machine) → beyond m ≡ true → (m.phase ≡ Start) × (m.body ≡ true) × (counts_fit m.rows m.columns ≡ false)
unfolding beyond
beyond-is m e =
    let (start, others) = both (is_start m.phase) _ e in
    let (read, unfit) = both m.body _ others in
    (starts m.phase start, read, not-true (counts_fit m.rows m.columns) unfit)

rest-beyond : (m : Machine) (bytes : List ℕ) → beyond m ≡ true → Rest any_lines m bytes
unfolding any_lines
rest-beyond m bytes out =
    let (start, read, unfit) = beyond-is m out in
    rw (start, read) (record { line = bytes; others = []; lines = last; holds = unfit })

ended-beyond : (m : Machine) → beyond m ≡ true → Ended any_lines m []
unfolding any_lines
ended-beyond m out = let (start, read, unfit) = beyond-is m out in rw (start, read) unfit

beyond-or-accepted : {m : Machine} {bytes : List ℕ} {place : ℕ} {reading : Result System Refusal} → Scanned m bytes place reading → reading ≡ Err OutOfRange
    → Rest any_lines m bytes ⊎ Accepts m bytes
unfolding run
beyond-or-accepted (killed dead) e = let z : ◌≡◌ {A = ℕ} 0 1 = cc in absurd (omega arith)
beyond-or-accepted (beyond_here {m = m} {b = b} {bytes = bytes} out) e =
    inl (back any_lines m b bytes (rest-beyond (step m b) bytes out))
beyond-or-accepted (later {m = m} {b = b} {bytes = bytes} alive rest) e =
    ⊎_elim (λ h. inl (back any_lines m b bytes h))
    (λ a. inr (record { ended = a.ended; alive = a.alive; headed = a.headed; whole = a.whole })) (beyond-or-accepted rest e)
beyond-or-accepted (unfinished refused) e = let z : ◌≡◌ {A = ℕ} 0 1 = cc in absurd (omega arith)
beyond-or-accepted (beyond_at_end {m = m} other out) e =
    inl (back_end any_lines m other (ended-beyond (step m line_feed) out))
beyond-or-accepted (finished a) e = inr a

-- ---- the header that does not fit
headed : {lines : List (List ℕ)} {bytes : List ℕ} → Heads any_lines lines → Lines lines bytes
    → (rows : ℕ) × (columns : ℕ) × Headed rows columns bytes × (counts_fit rows columns ≡ false)
unfolding any_lines
headed (skip skipped heads) (feed lines) = let (rows, columns, h, unfit) = headed heads lines in (rows, columns, Headed.skip skipped h, unfit)
headed (skip skipped heads) (return_feed lines) = let (rows, columns, h, unfit) = headed heads lines in (rows, columns, Headed.skip_return skipped h, unfit)
headed (skip {line = line} skipped heads) last = elim heads [ ]
headed (head {rows = rows} {columns = columns} line unfit) last = (rows, columns, Headed.last line, unfit)
headed (head {rows = rows} {columns = columns} line unfit) (feed {bytes = bytes} lines) = (rows, columns, Headed.feed bytes line, unfit)
headed (head {rows = rows} {columns = columns} line unfit) (return_feed {bytes = bytes} lines) = (rows, columns, Headed.return_feed bytes line, unfit)

pub out_of_range : (text : List ℕ) → scan begin 0 text ≡ Err OutOfRange
    → ((rows : ℕ) × (columns : ℕ) × Headed rows columns text × (counts_fit rows columns ≡ false)) ⊎ WellFormed text
unfolding begin
out_of_range text e =
    ⊎_elim (λ rest. inl (headed rest.holds rest.lines)) (λ a. inr (accepts-says text a)) (beyond-or-accepted (scanned begin 0 text) e)
