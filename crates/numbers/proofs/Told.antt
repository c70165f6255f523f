-- The five numbers tell the whole answer: it can be had back from them, so two answers with the same numbers are the same.
use mathlib.Core.Path.{◌≡◌, refl, sym, ap, ◌∙◌}
use mathlib.Core.Bool.{cond}
use mathlib.Core.List.{List, ◌∷◌}
use Prim.Native.Nat.{ℕ}
use lib.Dec.{eqb}
use lib.ListN.{get_or}
use Rattle.rules.specs.declared.Refusal.{Refusal}
use Rattle.rules.specs.declared.Refusal.TheVariants.{OutOfRange, WrongLength, BadEntry, TooLarge, LargeSum, Malformed, LongText}
use Rattle.rules.specs.declared.Outcome.{Outcome}
use Rattle.rules.specs.declared.Outcome.TheVariants.{Open, EquationConflict, OneRowConflict, TwoRowConflict, Refused}
use Rattle.std.specs.Prelude.{Bool, true, false, Result, Ok, Err}
use Rattle.rules.specs.declared.Table.{Table}
use Rattle.rules.specs.declared.Table.TheVariants.{Equations, Inequalities, Multipliers}
use Rattle.rules.specs.Numbers.{of_refusal, of_outcome, of_verdict, of_reading}
use Rattle.numbers.specs.Numbers.{five}
use Rattle.rules.specs.declared.System.{System}
use Rattle.rules.specs.Reading.{system_of}

-- ---- what the numbers say

abbrev place : ℕ → List ℕ → ℕ
place i numbers = get_or numbers i 0

to_table : ℕ → Table
to_table number = cond (eqb number 0) Equations (cond (eqb number 1) Inequalities Multipliers)

to_refusal : List ℕ → Refusal
to_refusal l =
    cond (eqb (place 1 l) 1) OutOfRange
    (cond (eqb (place 1 l) 2) WrongLength
    (cond (eqb (place 1 l) 3) (BadEntry (to_table (place 2 l)) (place 3 l) (place 4 l))
    (cond (eqb (place 1 l) 4) (TooLarge (place 2 l) (place 3 l))
    (cond (eqb (place 1 l) 5) (LargeSum (place 2 l))
    (cond (eqb (place 1 l) 6) (Malformed (place 2 l)) LongText)))))

to_outcome : List ℕ → Outcome
to_outcome l =
    cond (eqb (place 0 l) 0) (Open (place 1 l))
    (cond (eqb (place 0 l) 1) (EquationConflict (place 1 l) (place 2 l))
    (cond (eqb (place 0 l) 2) (OneRowConflict (place 1 l) (place 2 l))
    (cond (eqb (place 0 l) 3) (TwoRowConflict (place 1 l) (place 2 l) (place 3 l)) (Refused (to_refusal l)))))

to_verdict : List ℕ → Result Bool Refusal
to_verdict l = cond (eqb (place 0 l) 0) (Ok false) (cond (eqb (place 0 l) 1) (Ok true) (Err (to_refusal l)))

to_reading : List ℕ → Result System Refusal
to_reading l = cond (eqb (place 0 l) 0) (system_of (place 1 l) (place 2 l) (place 3 l)) (Err (to_refusal l))

-- ---- it is what was put into them

refusal-told : (r : Refusal) → to_refusal (five (4 ∷ of_refusal r)) ≡ r
unfolding five of_refusal to_refusal to_table
refusal-told OutOfRange = refl
refusal-told WrongLength = refl
refusal-told (BadEntry Equations row column) = refl
refusal-told (BadEntry Inequalities row column) = refl
refusal-told (BadEntry Multipliers row column) = refl
refusal-told (TooLarge row steps) = refl
refusal-told (LargeSum inequality) = refl
refusal-told (Malformed at) = refl
refusal-told LongText = refl

outcome-told : (o : Outcome) → to_outcome (five (of_outcome o)) ≡ o
unfolding five of_outcome to_outcome
outcome-told (Open steps) = refl
outcome-told (EquationConflict row steps) = refl
outcome-told (OneRowConflict i steps) = refl
outcome-told (TwoRowConflict i j steps) = refl
outcome-told (Refused r) = ap Refused (refusal-told r)

verdict-told : (v : Result Bool Refusal) → to_verdict (five (of_verdict v)) ≡ v
unfolding five of_verdict to_verdict
verdict-told (Ok false) = refl
verdict-told (Ok true) = refl
verdict-told (Err r) = ap Err (refusal-told r)

reading-told : (r : Result System Refusal) → to_reading (five (of_reading r)) ≡ r
unfolding five of_reading to_reading
reading-told (Ok s) = refl
reading-told (Err r) = ap Err (refusal-told r)

pub same_outcome : (a b : Outcome) → five (of_outcome a) ≡ five (of_outcome b) → a ≡ b
same_outcome a b h = sym (outcome-told a) ∙ ap to_outcome h ∙ outcome-told b

pub same-verdict : (a b : Result Bool Refusal) → five (of_verdict a) ≡ five (of_verdict b) → a ≡ b
same-verdict a b h = sym (verdict-told a) ∙ ap to_verdict h ∙ verdict-told b

pub same-reading : (a b : Result System Refusal) → five (of_reading a) ≡ five (of_reading b) → a ≡ b
same-reading a b h = sym (reading-told a) ∙ ap to_reading h ∙ reading-told b
