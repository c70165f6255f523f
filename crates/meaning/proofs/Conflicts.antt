-- A conflict names rows that have no common solution: what is promised of the rows given to the solver, put in terms of the matrix.
use mathlib.Core.Bool.{Bool, true, false}
use mathlib.Core.Path.{◌≡◌, sym, subst}
use mathlib.Core.List.{List, [], ◌∷◌, ◌++◌}
use Prim.Native.Nat.{ℕ, suc, ◌-◌, ◌<◌}
use native.Mathlib.Omega.{arith}
use lib.ListN.{length, get_or, take, length-replicate}
use lib.IntN.{ℤ, pos}
use Rattle.rows.specs.Row.{zeros}
use Rattle.rows.specs.Table.{rows_of}
use Rattle.rows.proofs.TableLaws.{length-rows_of}
use Rattle.rules.specs.Outcomes.{Results}
use Rattle.promises.specs.Meaning.{Holds, Meets, Counts, row_number, set_number, InSet, SatisfiesSet}
use Rattle.promises.specs.Answers.{EquationsUnmet, OneRowUnmet, TwoRowsUnmet}
use Rattle.wellformed.specs.Grammar.{Row}
use Rattle.matrix.specs.Printed.{names_of_multipliers, names_of_row, names_of_rows}
use Rattle.wellformed.specs.Promised.{packed}
use Rattle.meaning.specs.Texts.{Keeps, Name, Named, KeepsNamed, names_line}
use Rattle.meaning.proofs.Entered.{named-asked}
use Rattle.meaning.proofs.Names.{
  inequality,
  marked,
  multiplied_marks,
  used_marks,
  multipliers-line,
  row_line,
  rows-line,
  multiplier-marked,
  one-marked,
  other-marked,
  kept-both,
  marked-kept,
}
use Rattle.meaning.proofs.Replies.{Answers}

-- names whose rows have no common solution, and their line
pub record NoneNamed (matrix : List Row) (n : ℕ) (line : List ℕ) : Type 0 where
  pub names : List Name
  pub named : line ≡ names_line names
  pub none : (x : List ℤ) → length x ≡ n → KeepsNamed x matrix names → ⊥

module _ {text : List ℕ} (a : Answers text) where
  -- the rows that the solver is given
  abbrev equations : List (List ℤ)
  equations = rows_of (suc a.n) a.m (packed false a.matrix)

  abbrev inequalities : List (List ℤ)
  inequalities = rows_of (suc a.n) a.k (packed true a.matrix)

  -- whole numbers that keep the rows named
  module _ (x : List ℤ) where
    equation-holds : (marks : List Bool) → KeepsNamed x a.matrix (marked 1 marks) → (j : ℕ) → j < a.m → get_or marks j false ≡ true
        → Holds x (get_or equations j [])
    equation-holds marks keeps j h e =
        rw a.equations
        (named-asked x a.matrix false j (omega (arith, a.count_equations))
        (marked-kept x a.matrix 1 marks keeps j (suc j) (omega arith) e))

    -- a set of equations that are all marked
    set-satisfied : (marks : List Bool) (set : ℕ) → ((j : ℕ) → j < a.m → InSet set j → get_or marks j false ≡ true)
        → KeepsNamed x a.matrix (marked 1 marks) → SatisfiesSet x equations set
    set-satisfied marks set are keeps j h inside =
        let within : j < a.m = omega (arith, length-rows_of (suc a.n) a.m (packed false a.matrix)) in
        equation-holds marks keeps j within (are j within inside)

    inequality-meets : (i : ℕ) → Counts i a.k → ((row : Row) → Named a.matrix (inequality i) row → Keeps x row)
        → Meets x (row_number i inequalities)
    inequality-meets i counts keeps =
        let number : suc (i - 1) ≡ i = omega (arith, counts.0) in
        rw a.inequalities
        (named-asked x a.matrix true (i - 1) (omega (arith, a.count_inequalities, counts.0, counts.1))
        (λ row named. keeps row (subst (λ z. Named a.matrix (inequality z) row) number named)))

  -- ---- the three conflicts
  module _ (results : Results) where
    -- the equations with a multiplier that is not 0: there are some, since any whole numbers would keep the rows of no names
    pub equations-named : (row : ℕ) → EquationsUnmet a.n a.m (packed false a.matrix) row results
        → NoneNamed a.matrix a.n (names_of_multipliers (take a.m results.conflict))
    unfolding zeros
    equations-named row unmet = record { names = names; named = multipliers-line multipliers some; none = none }
      where
        multipliers : List ℤ
        multipliers = take a.m results.conflict

        names : List Name
        names = marked 1 (multiplied_marks multipliers)

        none : (x : List ℤ) → length x ≡ a.n → KeepsNamed x a.matrix names → ⊥
        none x long keeps =
            unmet.never x long
            (λ j h some. equation-holds x (multiplied_marks multipliers) keeps j h (multiplier-marked a.m results.conflict j h some))

        some : names ≡ [] → ⊥
        some e = none (zeros a.n) (length-replicate a.n (pos 0)) (subst (KeepsNamed (zeros a.n) a.matrix) (sym e) tt)

    -- one inequality and the equations that it used
    pub one-named : (i steps : ℕ) → OneRowUnmet a.n a.m a.k equations inequalities steps results i
        → NoneNamed a.matrix a.n (names_of_row a.m i (set_number i results.used))
    one-named i steps unmet = record { names = marked 1 marks ++ (inequality i ∷ []); named = row_line a.m i used; none = none }
      where
        used : ℕ
        used = set_number i results.used

        marks : List Bool
        marks = used_marks a.m used 0

        none : (x : List ℤ) → length x ≡ a.n → KeepsNamed x a.matrix (marked 1 marks ++ (inequality i ∷ [])) → ⊥
        none x long keeps =
            let (some, rows) = kept-both x a.matrix (marked 1 marks) (inequality i ∷ []) keeps in
            unmet.never x long (inequality-meets x i unmet.counts rows.0) (set-satisfied x marks used (one-marked a.m used 0) some)

    -- two inequalities and the equations that either used
    pub two-named : (i j steps : ℕ) → TwoRowsUnmet a.n a.m a.k equations inequalities steps results i j
        → NoneNamed a.matrix a.n (names_of_rows a.m i j (set_number i results.used) (set_number j results.used))
    two-named i j steps unmet =
        record { names = marked 1 marks ++ (inequality i ∷ inequality j ∷ []); named = rows-line a.m i j one other; none = none }
      where
        one : ℕ
        one = set_number i results.used

        other : ℕ
        other = set_number j results.used

        marks : List Bool
        marks = used_marks a.m one other

        none : (x : List ℤ) → length x ≡ a.n → KeepsNamed x a.matrix (marked 1 marks ++ (inequality i ∷ inequality j ∷ [])) → ⊥
        none x long keeps =
            let (some, rows) = kept-both x a.matrix (marked 1 marks) (inequality i ∷ inequality j ∷ []) keeps in
            unmet.never x long
            (inequality-meets x i unmet.counts.0 rows.0)
            (inequality-meets x j unmet.counts.1 rows.1.0)
            (set-satisfied x marks one (one-marked a.m one other) some)
            (set-satisfied x marks other (other-marked a.m one other) some)
