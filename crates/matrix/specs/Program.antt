-- The whole program: what it prints, for every standard input.
use Rattle.std.specs.Prelude.{List, ℕ, suc, ◌*◌, ℤ, take, Result, Err, Ok}
use Rattle.rows.specs.Row.{zeros}
use Rattle.rules.specs.Outcomes.{solve, blank}
use Rattle.matrix.specs.Reader.{read}
use Rattle.matrix.specs.Printed.{printed, error}
use Rattle.rules.specs.declared.Refusal.{Refusal}
use Rattle.rules.specs.declared.System.{System}

-- the answer to a system
unfoldable pub answered : ℕ → ℕ → ℕ → List ℤ → List ℤ → List ℕ
unfolding solve blank printed
answered n m k equations inequalities = let a = solve n m k equations inequalities (blank n m k) in printed n m k a.outcome a.results

-- the answer to what the reader says, given the two row tables
unfoldable pub replied : Result System Refusal → List ℤ → List ℤ → List ℕ
unfolding answered error
replied (Ok s) equations inequalities = answered s.n s.m s.k (take (s.m * suc s.n) equations) (take (s.k * suc s.n) inequalities)
replied (Err refusal) equations inequalities = error refusal

unfoldable pub program : List ℕ → List ℕ
unfolding replied read zeros
program text = let r = read text (zeros 1056) (zeros 2112) in replied r.reading r.equations r.inequalities
