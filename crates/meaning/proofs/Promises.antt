-- What a reply of the program means for the text that it was given: where it begins with unsat, no whole numbers satisfy the matrix that
-- the text says, and the rows that it names have no common solution already; where it begins with sat, some do.
use mathlib.Core.Bool.{true, false}
use mathlib.Core.Logic.{⊎_elim}
use mathlib.Core.Path.{◌≡◌, sym, ◌∙◌, subst}
use mathlib.Core.List.{List, ◌++◌, append_cancel_left}
use Prim.Native.Nat.{ℕ}
use lib.ListN.{length}
use lib.IntN.{ℤ}
use Rattle.rules.specs.Outcomes.{Results, Answer, solve, blank}
use Rattle.rules.specs.Numbers.{of_outcome}
use Rattle.rules.specs.declared.Outcome.{Outcome}
use Rattle.rules.specs.declared.Outcome.TheVariants.{Open, EquationConflict, OneRowConflict, TwoRowConflict, Refused}
use Rattle.promises.specs.Answers.{Says, opened, equation_conflict, one_row_conflict, two_row_conflict}
use Rattle.promises.proofs.Answers.{promised}
use Rattle.matrix.specs.Printed.{unsat, sat, printed}
use Rattle.matrix.specs.Program.{answered, program}
use Rattle.wellformed.specs.Promised.{rows_of_kind, packed}
use Rattle.meaning.specs.Texts.{KeepsAll, NoneFit, SomeFit}
use Rattle.meaning.proofs.Entered.{kind-counted, names-kept, all-kept}
use Rattle.meaning.proofs.Conflicts.{NoneNamed, equations-named, one-named, two-named}
use Rattle.meaning.proofs.Replies.{Answers, answers-or-refusal}
use Rattle.meaning.proofs.Words.{error-not-unsat, error-not-sat, unsat-not-sat, open-not-unsat, open-sat}

module _ {text : List ℕ} (a : Answers text) where
  -- the solver's answer to the rows of the text
  abbrev answer : Answer
  answer = solve a.n a.m a.k (packed false a.matrix) (packed true a.matrix) (blank a.n a.m a.k)

  -- what an outcome with these tables says of those rows
  abbrev Tells : Results → Outcome → Type 0
  Tells results outcome =
      Says a.n a.m a.k (packed false a.matrix) (packed true a.matrix) (blank a.n a.m a.k) results (of_outcome outcome)

  -- ---- what is printed of an outcome begins with the word
  module _ (results : Results) where
    unsat-named : (outcome : Outcome) (line : List ℕ) → Tells results outcome → printed a.n a.m a.k outcome results ≡ unsat ++ line
        → NoneNamed a.matrix a.n line
    unfolding printed of_outcome
    unsat-named (Open steps) line tells e = absurd (open-not-unsat a.k _ line e)
    unsat-named (EquationConflict row steps) line (equation_conflict unmet others) e =
        subst (NoneNamed a.matrix a.n) (append_cancel_left unsat _ line e) (equations-named a results row unmet)
    unsat-named (OneRowConflict i steps) line (one_row_conflict unmet) e =
        subst (NoneNamed a.matrix a.n) (append_cancel_left unsat _ line e) (one-named a results i steps unmet)
    unsat-named (TwoRowConflict i j steps) line (two_row_conflict unmet) e =
        subst (NoneNamed a.matrix a.n) (append_cancel_left unsat _ line e) (two-named a results i j steps unmet)
    unsat-named (Refused refusal) line tells e = absurd (error-not-unsat refusal line e)

    sat-kept : (outcome : Outcome) (rest : List ℕ) → Tells results outcome → printed a.n a.m a.k outcome results ≡ sat ++ rest
        → (x : List ℤ) × (length x ≡ a.n) × KeepsAll x a.matrix
    unfolding printed of_outcome
    sat-kept (Open steps) rest (opened filled) e =
        let (x, long, holds) = filled.solvable in
        let none : rows_of_kind true a.matrix ≡ 0 = sym (kind-counted true a.matrix) ∙ a.count_inequalities ∙ open-sat a.k _ rest e in
        (x, long, all-kept x a.matrix none (rw a.equations at holds))
    sat-kept (EquationConflict row steps) rest tells e = absurd (unsat-not-sat _ rest e)
    sat-kept (OneRowConflict i steps) rest tells e = absurd (unsat-not-sat _ rest e)
    sat-kept (TwoRowConflict i j steps) rest tells e = absurd (unsat-not-sat _ rest e)
    sat-kept (Refused refusal) rest tells e = absurd (error-not-sat refusal rest e)

-- ---- the two words

-- what is promised of every call is promised of this one
answer-tells : {text : List ℕ} (a : Answers text) → Tells a (answer a).results (answer a).outcome
answer-tells a = promised a.n a.m a.k (packed false a.matrix) (packed true a.matrix) (blank a.n a.m a.k)

-- unsat: no whole numbers keep all rows, and none keep just those named
unsat-means : (text line : List ℕ) → program text ≡ unsat ++ line → NoneFit text line
unfolding answered
unsat-means text line e = ⊎_elim system (λ refused. absurd (error-not-unsat refused.0 line (sym refused.1 ∙ e))) (answers-or-refusal text)
  where
    system : Answers text → NoneFit text line
    system a =
        let c = unsat-named a (answer a).results (answer a).outcome line (answer-tells a) (sym a.reply ∙ e) in
        record {
          rows = a.rows;
          columns = a.columns;
          matrix = a.matrix;
          says = a.says;
          none = λ x long keeps. c.none x (long ∙ a.unknowns) (names-kept x a.matrix c.names keeps);
          names = c.names;
          named = c.named;
          none_named = λ x long keeps. c.none x (long ∙ a.unknowns) keeps;
        }

-- sat: some whole numbers keep all rows
sat-means : (text rest : List ℕ) → program text ≡ sat ++ rest → SomeFit text
unfolding answered
sat-means text rest e = ⊎_elim system (λ refused. absurd (error-not-sat refused.0 rest (sym refused.1 ∙ e))) (answers-or-refusal text)
  where
    system : Answers text → SomeFit text
    system a =
        let (x, long, keeps) = sat-kept a (answer a).results (answer a).outcome rest (answer-tells a) (sym a.reply ∙ e) in
        record {
          rows = a.rows;
          columns = a.columns;
          matrix = a.matrix;
          says = a.says;
          x = x;
          long = long ∙ sym a.unknowns;
          keeps = keeps;
        }

-- what a reply means for its text, by the word that it begins with
pub program-means : (text : List ℕ)
    → ((line : List ℕ) → program text ≡ unsat ++ line → NoneFit text line) × ((rest : List ℕ) → program text ≡ sat ++ rest → SomeFit text)
program-means text = (unsat-means text, sat-means text)
