-- The cases of a call: refused at the first check that fails, else what the run answers.
use mathlib.Core.Path.{◌≡◌, refl, ap}
use mathlib.Core.Bool.{Bool, true, false, ◌&&◌}
use mathlib.Core.List.{List}
use Prim.Native.Nat.{ℕ, suc, ◌*◌, ◌≤◌}
use native.Mathlib.Omega.{arith}
use borrow.Author.Tests.{leb-true, eqb-true}
use lib.Dec.{eqb, leb}
use lib.IntN.{ℤ}
use Rattle.rows.specs.Row.{all_within}
use Rattle.rows.specs.Table.{rows_of}
use Rattle.rows.proofs.Bounded.{and_left, and_right}
use Rattle.rules.specs.declared.Refusal.{Refusal}
use Rattle.rules.specs.declared.Refusal.TheVariants.{OutOfRange, WrongLength}
use Rattle.rules.specs.declared.Outcome.TheVariants.{Refused}
use Rattle.rules.specs.Elimination.{elimination}
use Rattle.rules.specs.Outcomes.{Results, Answer, bad_entry, blank, in_range, right_lengths, after_run, from_entries, solve}
use Rattle.std.specs.Prelude.{Result, Ok, Err, length}
use Rattle.rules.specs.declared.Table.TheVariants.{Equations, Inequalities}
use Rattle.rules.specs.declared.System.{System}
use Rattle.rules.specs.declared.StateTables.{StateTables}
use Rattle.rules.specs.declared.RowTables.{RowTables}
use Rattle.rules.specs.Lent.{CallLengths}
use Rattle.limits.specs.Checked.{lengths_right, entries_checked}

-- ---- what the checks tell: n, m and k are in range
pub in-range : (n m k : ℕ) → in_range n m k ≡ true → (1 ≤ n) × (n ≤ 32) × (m ≤ 32) × (k ≤ 64)
unfolding in_range
in-range n m k e =
    let low = and_left (leb 1 n && leb n 32) (leb m 32 && leb k 64) e in
    let high = and_right (leb 1 n && leb n 32) (leb m 32 && leb k 64) e in (
      leb-true 1 n (and_left (leb 1 n) (leb n 32) low),
      leb-true n 32 (and_right (leb 1 n) (leb n 32) low),
      leb-true m 32 (and_left (leb m 32) (leb k 64) high),
      leb-true k 64 (and_right (leb m 32) (leb k 64) high),
    )

-- the nine tables have their lengths
both : (a b : ℕ) (more : Bool) → eqb a b && more ≡ true → (a ≡ b) × (more ≡ true)
both a b more e = (eqb-true a b (and_left (eqb a b) more e), and_right (eqb a b) more e)

pub all-long : (system : System) (equations inequalities : List ℤ) (state : StateTables) (conflict : List ℤ) (rows : RowTables)
    → lengths_right system.n system.m system.k equations inequalities state conflict rows ≡ true
    → CallLengths system equations inequalities state conflict rows
all-long system equations inequalities state conflict rows h₀ =
    let n = system.n in
    let m = system.m in
    let k = system.k in
    let (e, h₁) = both (length equations) (m * suc n) _ h₀ in
    let (i, h₂) = both (length inequalities) (k * suc n) _ h₁ in
    let (s, h₃) = both (length state.substitution.now) (n * suc n) _ h₂ in
    let (q, h₄) = both (length state.marks.now) n _ h₃ in
    let (w, h₅) = both (length state.way_back.now) (n * suc n) _ h₄ in
    let (r, h₆) = both (length state.reasons.now) (n * suc m) _ h₅ in
    let (c, h₇) = both (length conflict) (suc m) _ h₆ in
    let (t, h₈) = both (length rows.tightened.now) (k * suc n) _ h₇ in
    record {
      equations_long = e;
      inequalities_long = i;
      state_long = record { substitution = s; marks = q; way_back = w; reasons = r };
      conflict_long = c;
      rows_long = record { tightened = t; used = eqb-true (length rows.used.now) k h₈ };
    }

-- ---- the entries of both tables
module _ (n : ℕ) (equations inequalities : List ℤ) where
  checked : Bool → Bool → Result (Unit {0}) Refusal
  checked first second =
      elim first [
        | true ↦ elim second [ true ↦ Ok tt | false ↦ Err (bad_entry (suc n) Inequalities inequalities) ]
        | false ↦ Err (bad_entry (suc n) Equations equations)
      ]

  pub entries-good : ◌≡◌ {A = Result (Unit {0}) Refusal} (Ok tt) (entries_checked n equations inequalities) → (all_within equations ≡ true) × (all_within inequalities ≡ true)
  unfolding checked
  entries-good = go (all_within equations) (all_within inequalities)
    where
      go : (first second : Bool) → Ok tt ≡ checked first second → (first ≡ true) × (second ≡ true)
      go true true h = (refl, refl)
      go true false h = let z : ◌≡◌ {A = ℕ} 0 1 = cc in absurd (omega arith)
      go false second h = let z : ◌≡◌ {A = ℕ} 0 1 = cc in absurd (omega arith)

-- ---- what they lead to
module _ (n m k : ℕ) (equations inequalities : List ℤ) where
  entered : Bool → Bool → Answer
  entered first second =
      elim first [
        | true ↦ elim second [
          | true ↦ after_run n m k (rows_of (suc n) k inequalities) (elimination n m (rows_of (suc n) m equations))
          | false ↦ record { outcome = Refused (bad_entry (suc n) Inequalities inequalities); results = blank n m k }
        ]
        | false ↦ record { outcome = Refused (bad_entry (suc n) Equations equations); results = blank n m k }
      ]

  pub all-good : (all_within equations ≡ true) × (all_within inequalities ≡ true)
      → from_entries n m k equations inequalities ≡ after_run n m k (rows_of (suc n) k inequalities) (elimination n m (rows_of (suc n) m equations))
  unfolding from_entries entered
  all-good h = λ i. entered (h.0 i) (h.1 i)

  pub entries-bad : (refusal : Refusal) → Err refusal ≡ entries_checked n equations inequalities
      → from_entries n m k equations inequalities ≡ record { outcome = Refused refusal; results = blank n m k }
  unfolding from_entries entered checked
  entries-bad refusal = go (all_within equations) (all_within inequalities)
    where
      go : (first second : Bool) → Err refusal ≡ checked n equations inequalities first second → entered first second ≡ record { outcome = Refused refusal; results = blank n m k }
      go true true h = let z : ◌≡◌ {A = ℕ} 0 1 = cc in absurd (omega arith)
      go true false h = let e : bad_entry (suc n) Inequalities inequalities ≡ refusal = cc in ap (λ (r : Refusal). record { outcome = Refused r; results = blank n m k }) e
      go false second h = let e : bad_entry (suc n) Equations equations ≡ refusal = cc in ap (λ (r : Refusal). record { outcome = Refused r; results = blank n m k }) e

-- ---- what the call answers
module _ (n m k : ℕ) (equations inequalities : List ℤ) (given : Results) where
  -- by the first two checks, in their order
  answered : Bool → Bool → Answer
  answered range lengths =
      elim range [
        | true ↦ elim lengths [
          | true ↦ from_entries n m k equations inequalities
          | false ↦ record { outcome = Refused WrongLength; results = given }
        ]
        | false ↦ record { outcome = Refused OutOfRange; results = given }
      ]

  called-by : {range lengths : Bool} → in_range n m k ≡ range → right_lengths n m k equations inequalities given ≡ lengths
      → solve n m k equations inequalities given ≡ answered range lengths
  unfolding solve answered
  called-by r l = λ i. answered (r i) (l i)

  pub out_of_range : in_range n m k ≡ false → solve n m k equations inequalities given ≡ record { outcome = Refused OutOfRange; results = given }
  unfolding answered
  out_of_range r = called-by r refl

  module _ (range : in_range n m k ≡ true) where
    pub wrong-length : right_lengths n m k equations inequalities given ≡ false
        → solve n m k equations inequalities given ≡ record { outcome = Refused WrongLength; results = given }
    unfolding answered
    wrong-length l = called-by range l

    pub right-length : right_lengths n m k equations inequalities given ≡ true
        → solve n m k equations inequalities given ≡ from_entries n m k equations inequalities
    unfolding answered
    right-length l = called-by range l
