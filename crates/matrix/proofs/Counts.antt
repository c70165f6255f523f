-- A system that the reader answers has counts within the limits.
use mathlib.Core.Bool.{Bool, true, false, cond, not, ◌&&◌}
use mathlib.Core.Path.{◌≡◌, refl, sym, ap, ◌∙◌}
use mathlib.Core.List.{List, [], ◌∷◌}
use Prim.Native.Nat.{ℕ, suc, ◌-◌, ◌≤◌}
use native.Mathlib.Omega.{arith}
use lib.Dec.{eqb, leb}
use lib.IntN.{ℤ}
use lib.ListN.{length}
use borrow.Author.Tests.{leb-true}
use Rattle.rows.proofs.Bounded.{and_left, and_right}
use Rattle.rules.specs.declared.Refusal.TheVariants.{OutOfRange}
use Rattle.matrix.specs.Bytes.{line_feed}
use Rattle.matrix.specs.Machine.{begin, step, on_class, on_line_feed, line_ends, in_phase}
use Rattle.matrix.specs.Reader.{is_start, is_return, is_dead, counts_fit, beyond, counted, closed, at_end, scan, Read, filled, read}
use Rattle.matrix.specs.declared.Machine.{Machine}
use Rattle.matrix.specs.declared.Phase.{Phase}
use Rattle.matrix.specs.declared.Phase.TheVariants.{Start, Lead, Marked, Signed, Digits, Gap, Return, Comment, Dead}
use Rattle.std.specs.Prelude.{Result, Err, Ok}
use Rattle.rules.specs.declared.Refusal.{Refusal}
use Rattle.rules.specs.declared.System.{System}
use Rattle.rules.specs.Reading.{system_of}

-- "n variables, 1..32; m equations, 0..32; k inequalities, 0..64", where a system is answered
abbrev pub Counted : Result System Refusal → Type 0
Counted (Ok s) = (1 ≤ s.n) × (s.n ≤ 32) × (s.m ≤ 32) × (s.k ≤ 64)
Counted (Err refusal) = Unit {0}

pick : (t : Bool) (a b : Result System Refusal) → (t ≡ true → Counted a) → (t ≡ false → Counted b) → Counted (cond t a b)
pick true a b f g = f refl
pick false a b f g = g refl

counted-counted : (m : Machine) → counts_fit m.rows m.columns ≡ true → Counted (counted m)
unfolding counted
counted-counted m h =
    let columns = and_right (leb m.rows 96) (leb 3 m.columns && leb m.columns 34) h in
    let low = leb-true 3 m.columns (and_left (leb 3 m.columns) (leb m.columns 34) columns) in
    let high = leb-true m.columns 34 (and_right (leb 3 m.columns) (leb m.columns 34) columns) in
    pick
    (leb m.equations 32 && leb m.inequalities 64)
    (system_of (m.columns - 2) m.equations m.inequalities)
    (Err OutOfRange)
    (λ t. (omega (arith, low), omega (arith, high), leb-true m.equations 32 (and_left (leb m.equations 32) (leb m.inequalities 64) t), leb-true m.inequalities 64 (and_right (leb m.equations 32) (leb m.inequalities 64) t)))
    (λ _. tt)

-- once the header is read and a line has ended, counts that are not beyond fit
fits : (start body fit : Bool) → start ≡ true → start && (body && not fit) ≡ false → body ≡ true → fit ≡ true
fits true true true s h b = refl
fits true true false s h b = sym h
fits true false fit s h b = ap (λ (t : Bool). cond t true fit) b
fits false body fit s h b = ap (λ (t : Bool). cond t true fit) s

closed-counted : (m : Machine) (place : ℕ) → (is_dead m.phase ≡ false → is_start m.phase ≡ true) → Counted (closed m place)
unfolding closed beyond
closed-counted m place start =
    pick (is_dead m.phase) _ _ (λ _. tt)
    (λ alive. pick (is_start m.phase && (m.body && not (counts_fit m.rows m.columns))) _ _ (λ _. tt)
    (λ inside. pick (m.body && eqb m.rows 0) _ _
    (λ whole. counted-counted m (fits (is_start m.phase) m.body _ (start alive) inside (and_left m.body (eqb m.rows 0) whole)))
    (λ _. tt)))

-- a line feed ends a line, or there is no such text
line-started : (t : Bool) (a b : Machine) → is_start a.phase ≡ true → is_dead b.phase ≡ true → is_dead (cond t a b).phase ≡ false → is_start (cond t a b).phase ≡ true
line-started true a b s d h = s
line-started false a b s d h = ap (λ (t : Bool). cond t (is_start b.phase) true) (sym d ∙ h)

feed-starts : (phase : Phase) (m : Machine) → m.phase ≡ phase → is_dead (on_line_feed phase m).phase ≡ false → is_start (on_line_feed phase m).phase ≡ true
unfolding on_line_feed line_ends in_phase
feed-starts Start m e h = ap is_start e
feed-starts Lead m e h = refl
feed-starts Marked m e h = line-started (eqb m.left 0) _ _ refl refl h
feed-starts Signed m e h = sym h
feed-starts Digits m e h = line-started (eqb m.left 0) _ _ refl refl h
feed-starts Gap m e h = line-started (eqb m.left 0) _ _ refl refl h
feed-starts Return m e h = refl
feed-starts Comment m e h = refl
feed-starts Dead m e h = ap (λ (t : Bool). cond t (is_start m.phase) true) (ap is_dead (sym e) ∙ h)

end-counted : (m : Machine) (place : ℕ) → Counted (at_end m place)
unfolding at_end step on_class
end-counted m place = pick (is_return m.phase) _ _ (λ _. tt) (λ _. closed-counted (step m line_feed) place (feed-starts m.phase m refl))

pub scan-counted : (m : Machine) (place : ℕ) (text : List ℕ) → Counted (scan m place text)
unfolding scan
scan-counted m place [] = end-counted m place
scan-counted m place (b ∷ text) =
    pick (is_dead (step m b).phase) _ _ (λ _. tt) (λ _. pick (beyond (step m b)) _ _ (λ _. tt) (λ _. scan-counted (step m b) (suc place) text))

filled-counted : (r : Result System Refusal) (text : List ℕ) → Counted r → Counted (filled r text).reading
unfolding filled
filled-counted (Ok s) text c = c
filled-counted (Err refusal) text c = c

choose : (t : Bool) (a b : Read) → Counted a.reading → Counted b.reading → Counted (cond t a b).reading
choose true a b p q = p
choose false a b p q = q

pub read-counted : (text : List ℕ) (e i : List ℤ) → Counted (read text e i).reading
unfolding read
read-counted text e i =
    choose
    (eqb (length e) 1056 && eqb (length i) 2112)
    _
    _
    (choose (leb (length text) 65536) _ _ (filled-counted (scan begin 0 text) text (scan-counted begin 0 text)) tt)
    tt
