-- What a run that finishes promises of the equations.
use Rattle.std.specs.Prelude.{◌≡◌, ◌⊎◌, List, [], ℕ, suc, ◌<◌, length, get_or, take, ℤ, pos, ◌*ℤ◌, ◌≤ℤ◌}
use Rattle.rows.specs.Row.{at, dot, values, zeros}
use Rattle.rules.specs.Elimination.{State}
use Rattle.promises.specs.Meaning.{point, Satisfies, Closed, Choice, substituted, parameters}

-- the run over these equations ended in state s
pub record Solved (n m : ℕ) (equations : List (List ℤ)) (s : State) : Type 0 where
  -- "the substitution gives every solution, each from exactly one choice, and nothing else"
  pub every_choice : (y : List ℤ) → Choice n s y → Satisfies (substituted s y) equations
  pub every_solution : (x : List ℤ) → length x ≡ n → Satisfies x equations → Choice n s (parameters s x)
  pub one_choice : (y y' : List ℤ) → Choice n s y → Choice n s y' → substituted s y ≡ substituted s y' → y ≡ y'
  -- the way back gives the choice, and the substitution leads back to it: for solutions and for all other numbers
  pub there : (x : List ℤ) → length x ≡ n → substituted s (parameters s x) ≡ x
  pub again : (y : List ℤ) → length y ≡ n → parameters s (substituted s y) ≡ y
  -- "marks, n: 1 open, 0 closed"
  pub marks : length s.marks ≡ n
  pub mark : (p : ℕ) → p < n → (get_or s.marks p 0 ≡ 1) ⊎ (get_or s.marks p 1 ≡ 0)
  -- "for a closed p, one multiplier for each equation and then a divisor >= 1; zeros for an open p"
  pub divisor : (p : ℕ) → p < n → Closed s p → pos 1 ≤ℤ at (get_or s.reasons p []) m
  pub reason : (p : ℕ) → p < n → Closed s p → (x : List ℤ) → length x ≡ n
      → at (get_or s.reasons p []) m *ℤ at (parameters s x) p ≡ dot (take m (get_or s.reasons p [])) (values equations (point x))
  pub zero_open : (p : ℕ) → p < n → (Closed s p → ⊥) → get_or s.reasons p [] ≡ zeros (suc m)

-- no whole numbers satisfy the equations
abbrev pub Unsolvable : ℕ → List (List ℤ) → Type 0
Unsolvable n equations = (x : List ℤ) → length x ≡ n → Satisfies x equations → ⊥
