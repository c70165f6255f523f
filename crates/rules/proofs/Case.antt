-- A system with the whole answer that it should get: the outcome and all seven result tables.
use mathlib.Core.List.{List}
use Prim.Native.Nat.{ℕ, suc, ◌*◌}
use lib.ListN.{replicate}
use lib.IntN.{ℤ, pos, neg_ℤ}
use Rattle.rules.specs.declared.Refusal.{Refusal}
use Rattle.rules.specs.declared.Outcome.{Outcome}
use Rattle.rules.specs.declared.Outcome.TheVariants.{Refused}
use Rattle.rules.specs.Outcomes.{Results, Answer, solve}

-- numbers as document 01 writes them: p 5 is 5, m 5 is -5
abbrev pub p : ℕ → ℤ
p i = pos i

abbrev pub m : ℕ → ℤ
m i = neg_ℤ (pos i)

-- the seven tables of the right lengths, all of them full of one number
abbrev pub full : ℕ → ℕ → ℕ → ℕ → Results
full x n m k = record {
  substitution = replicate (n * suc n) (pos x);
  marks = replicate n x;
  way_back = replicate (n * suc n) (pos x);
  reasons = replicate (n * suc m) (pos x);
  conflict = replicate (suc m) (pos x);
  tightened = replicate (k * suc n) (pos x);
  used = replicate k x;
}

pub record Case : Type 0 where
  pub variables : ℕ
  pub equation_count : ℕ
  pub inequality_count : ℕ
  pub equations : List ℤ
  pub inequalities : List ℤ
  pub expected : Answer

-- what the definitions answer, where the result tables held something else than zeros
unfoldable pub answered : Case → Answer
unfolding solve
answered c =
    let n = c.variables in
    let m = c.equation_count in
    let k = c.inequality_count in
    solve n m k c.equations c.inequalities (full 7 n m k)

module _ (n m k : ℕ) (equations inequalities : List ℤ) where
  abbrev pub case : Outcome → Results → Case
  case outcome results = record {
    variables = n;
    equation_count = m;
    inequality_count = k;
    equations = equations;
    inequalities = inequalities;
    expected = record { outcome = outcome; results = results };
  }

  -- substitution, marks, way back, reasons, tightened, used; conflict holds zeros
  abbrev pub filled : Outcome → List ℤ → List ℕ → List ℤ → List ℤ → List ℤ → List ℕ → Case
  filled outcome substitution marks way_back reasons tightened used = case outcome (record {
    substitution = substitution;
    marks = marks;
    way_back = way_back;
    reasons = reasons;
    conflict = (full 0 n m k).conflict;
    tightened = tightened;
    used = used;
  })

  -- the conflict table; all others hold zeros
  abbrev pub unmet : Outcome → List ℤ → Case
  unmet outcome conflict = let none = full 0 n m k in
      case outcome (record {
        substitution = none.substitution;
        marks = none.marks;
        way_back = none.way_back;
        reasons = none.reasons;
        conflict = conflict;
        tightened = none.tightened;
        used = none.used;
      })

  abbrev pub refused : Refusal → Case
  refused refusal = case (Refused refusal) (full 0 n m k)
