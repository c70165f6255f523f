-- The answer to a system does not hang on what its result tables held before, and what is printed of it on five of the seven.
use mathlib.Core.Bool.{true}
use mathlib.Core.Path.{◌≡◌, refl, sym, ap, ◌∙◌}
use mathlib.Core.List.{List, []}
use Prim.Native.Nat.{ℕ, suc, ◌≤◌, ◌*◌}
use lib.IntN.{ℤ}
use lib.ListN.{length, length-replicate}
use borrow.Author.Tests.{eq-eqb, le-leb}
use Rattle.rows.specs.Row.{zeros}
use Rattle.rules.specs.Outcomes.{Results, Answer, blank, in_range, right_lengths, solve}
use Rattle.rules.specs.declared.Outcome.{Outcome}
use Rattle.rules.specs.declared.Outcome.TheVariants.{Open, EquationConflict, OneRowConflict, TwoRowConflict, Refused}
use Rattle.solver.specs.Answered.{tables}
use Rattle.solver.proofs.Called.{right-length}
use Rattle.matrix.specs.Printed.{printed}
use Rattle.matrix.specs.Program.{answered}

-- only these are printed
printed-tables : (n m k : ℕ) (o : Outcome) (t : Results)
    → printed n m k o (tables t.substitution t.marks [] [] t.conflict t.tightened t.used) ≡ printed n m k o t
unfolding printed
printed-tables n m k (Open steps) t = refl
printed-tables n m k (EquationConflict row steps) t = refl
printed-tables n m k (OneRowConflict i steps) t = refl
printed-tables n m k (TwoRowConflict i j steps) t = refl
printed-tables n m k (Refused refusal) t = refl

-- what is printed of an outcome and its tables is what is printed of the answer that they show
pub printed-of : (n m k : ℕ) (o : Outcome) (t : Results) (a : Answer) → record { outcome = o; results = t } ≡ a
    → printed n m k o (tables t.substitution t.marks [] [] t.conflict t.tightened t.used) ≡ printed n m k a.outcome a.results
printed-of n m k o t a h = printed-tables n m k o t ∙ ap (λ (x : Answer). printed n m k x.outcome x.results) h

pub in-range : (n m k : ℕ) → 1 ≤ n → n ≤ 32 → m ≤ 32 → k ≤ 64 → in_range n m k ≡ true
unfolding in_range
in-range n m k a b c d = simp (le-leb _ _ a, le-leb _ _ b, le-leb _ _ c, le-leb _ _ d)

module _ (n m k : ℕ) (e i : List ℤ) where
  -- the nine lengths
  pub record Right (given : Results) : Type 0 where
    pub equations : length e ≡ m * suc n
    pub inequalities : length i ≡ k * suc n
    pub substitution : length given.substitution ≡ n * suc n
    pub marks : length given.marks ≡ n
    pub way_back : length given.way_back ≡ n * suc n
    pub reasons : length given.reasons ≡ n * suc m
    pub conflict : length given.conflict ≡ suc m
    pub tightened : length given.tightened ≡ k * suc n
    pub used : length given.used ≡ k

  right-lengths : (given : Results) → Right given → right_lengths n m k e i given ≡ true
  unfolding right_lengths
  right-lengths given r =
      simp
      (eq-eqb _ _ r.equations, eq-eqb _ _ r.inequalities, eq-eqb _ _ r.substitution, eq-eqb _ _ r.marks, eq-eqb _ _ r.way_back, eq-eqb _ _ r.reasons, eq-eqb _ _ r.conflict, eq-eqb _ _ r.tightened, eq-eqb _ _ r.used)

  blank-right : length e ≡ m * suc n → length i ≡ k * suc n → Right (blank n m k)
  unfolding blank zeros
  blank-right a b =
      record {
        equations = a;
        inequalities = b;
        substitution = length-replicate (n * suc n) _;
        marks = length-replicate n _;
        way_back = length-replicate (n * suc n) _;
        reasons = length-replicate (n * suc m) _;
        conflict = length-replicate (suc m) _;
        tightened = length-replicate (k * suc n) _;
        used = length-replicate k _;
      }

  pub answered-is : (given : Results) → in_range n m k ≡ true → Right given
      → answered n m k e i ≡ printed n m k (solve n m k e i given).outcome (solve n m k e i given).results
  unfolding answered
  answered-is given r l =
      let same : solve n m k e i (blank n m k) ≡ solve n m k e i given =
      right-length n m k e i (blank n m k) r (right-lengths (blank n m k) (blank-right l.equations l.inequalities))
      ∙ sym (right-length n m k e i given r (right-lengths given l)) in
      ap (λ (a : Answer). printed n m k a.outcome a.results) same
