-- "Each public function's contract determines the outcome and the content of each lent table, on every input": each contract is an
-- equation, in the words of its `ensures`, and two answers that meet it for the same input are the same, table by table.
use mathlib.Core.Path.{◌≡◌, sym, ap, ◌∙◌}
use mathlib.Core.List.{List}
use Prim.Native.Nat.{ℕ}
use lib.IntN.{ℤ}
use Rattle.rules.specs.declared.Outcome.{Outcome}
use Rattle.std.specs.Prelude.{Bool, Result}
use Rattle.rules.specs.declared.Refusal.{Refusal}
use Rattle.rules.specs.Outcomes.{Results, Answer, solve}
use Rattle.rules.specs.Checker.{check}
use Rattle.solver.specs.Answered.{answer, answer_in, tables_in}
use Rattle.matrix.specs.Poured.{Page, page, written}
use Rattle.matrix.specs.Reader.{Read, reply, read}
use Rattle.matrix.specs.Program.{program}
use Rattle.exports.specs.Numbered.{Returned, returned, solved, checked, read_into}
use Rattle.rules.specs.declared.System.{System}
use Rattle.rules.specs.declared.StateTables.{StateTables}
use Rattle.rules.specs.declared.RowTables.{RowTables}

-- what two equal records hold
abbrev shown : {A B : Type 0} (field : A → B) {first second value : A} → first ≡ value → second ≡ value → field first ≡ field second
shown field p q = ap field (p ∙ sym q)

-- ---- solver::solve: the outcome and the seven result tables
abbrev answer_of : Outcome → Results → Answer
answer_of r t = answer r t.substitution t.marks t.way_back t.reasons t.conflict t.tightened t.used

pub one-solve : (n m k : ℕ) (equations inequalities : List ℤ) (given : Results) (r r' : Outcome) (t t' : Results)
    → answer_of r t ≡ solve n m k equations inequalities given → answer_of r' t' ≡ solve n m k equations inequalities given → (r ≡ r') × (t ≡ t')
one-solve n m k equations inequalities given r r' t t' p q = (shown (λ (a : Answer). a.outcome) p q, shown (λ (a : Answer). a.results) p q)

-- ---- solver::solve_in, which the program calls: the same, of tables that are lent in two values and one
pub one-solve-in : (n m k : ℕ) (equations inequalities : List ℤ) (given : Results) (r r' : Outcome) (state state' : StateTables)
    (conflict conflict' : List ℤ) (rows rows' : RowTables) → answer_in r state conflict rows ≡ solve n m k equations inequalities given
    → answer_in r' state' conflict' rows' ≡ solve n m k equations inequalities given
    → (r ≡ r') × (tables_in state conflict rows ≡ tables_in state' conflict' rows')
one-solve-in n m k equations inequalities given r r' state state' conflict conflict' rows rows' p q =
    one-solve n m k equations inequalities given r r' (tables_in state conflict rows) (tables_in state' conflict' rows') p q

-- ---- checker::check
pub one-check : (n m : ℕ) (equations table : List ℤ) (r r' : Result Bool Refusal) → r ≡ check n m equations table → r' ≡ check n m equations table → r ≡ r'
one-check n m equations table r r' p q = p ∙ sym q

-- ---- reader::read: what was read and the two row tables
pub one-read : (text : List ℕ) (equations inequalities : List ℤ) (r r' : Result System Refusal) (e e' i i' : List ℤ)
    → reply r e i ≡ read text equations inequalities → reply r' e' i' ≡ read text equations inequalities → (r ≡ r') × (e ≡ e') × (i ≡ i')
one-read text equations inequalities r r' e e' i i' p q = (
  shown (λ (a : Read). a.reading) p q,
  shown (λ (a : Read). a.equations) p q,
  shown (λ (a : Read). a.inequalities) p q,
)

-- ---- answering::answer: the whole page and the length of the reply
pub one-page : (text cells : List ℕ) (r r' : ℕ) (exit exit' : List ℕ) → page exit r ≡ written (program text) (page cells 0)
    → page exit' r' ≡ written (program text) (page cells 0) → (r ≡ r') × (exit ≡ exit')
unfolding page
one-page text cells r r' exit exit' p q = (shown (λ (a : Page ℕ). a.place) p q, shown (λ (a : Page ℕ). a.cells) p q)

-- ---- the three functions for other languages: the result, the five numbers and the tables
module _ {T : Type 0} (r r' : ℕ) (numbers numbers' : List ℕ) (t t' : T) where
  one-returned : {value : Returned T} → returned r numbers t ≡ value → returned r' numbers' t' ≡ value → (r ≡ r') × (numbers ≡ numbers') × (t ≡ t')
  one-returned p q = (
    shown (λ (a : Returned T). a.result) p q,
    shown (λ (a : Returned T). a.numbers) p q,
    shown (λ (a : Returned T). a.tables) p q,
  )

pub one-plassobine-solve : (n m k : ℕ) (equations inequalities : List ℤ) (given : Results) (outcome : List ℕ) (r r' : ℕ) (numbers numbers' : List ℕ)
    (t t' : Results) → returned r numbers t ≡ solved n m k equations inequalities given outcome
    → returned r' numbers' t' ≡ solved n m k equations inequalities given outcome → (r ≡ r') × (numbers ≡ numbers') × (t ≡ t')
one-plassobine-solve n m k equations inequalities given outcome r r' numbers numbers' t t' p q = one-returned r r' numbers numbers' t t' p q

pub one-plassobine-check : (n m : ℕ) (equations multipliers : List ℤ) (outcome : List ℕ) (r r' : ℕ) (numbers numbers' : List ℕ)
    → returned r numbers tt ≡ checked n m equations multipliers outcome → returned r' numbers' tt ≡ checked n m equations multipliers outcome
    → (r ≡ r') × (numbers ≡ numbers')
one-plassobine-check n m equations multipliers outcome r r' numbers numbers' p q =
    let (result, same, tables) = one-returned {T = Unit {0}} r r' numbers numbers' tt tt p q in
    (result, same)

pub one-plassobine-read : (text : List ℕ) (equations inequalities : List ℤ) (outcome : List ℕ) (r r' : ℕ) (numbers numbers' : List ℕ)
    (t t' : List ℤ × List ℤ) → returned r numbers t ≡ read_into text equations inequalities outcome
    → returned r' numbers' t' ≡ read_into text equations inequalities outcome → (r ≡ r') × (numbers ≡ numbers') × (t ≡ t')
one-plassobine-read text equations inequalities outcome r r' numbers numbers' t t' p q = one-returned r r' numbers numbers' t t' p q
