-- What a run that finishes promises of an inequality: its tightened row holds exactly when it does, and follows from it and the used
-- equations alone.
use mathlib.Core.Path.{◌≡◌, sym, ◌∙◌, subst}
use mathlib.Core.Bool.{Bool}
use mathlib.Core.List.{List, []}
use Prim.Native.Nat.{ℕ, suc}
use lib.ListN.{length}
use lib.IntN.{ℤ}
use Rattle.rows.specs.Row.{at}
use Rattle.rows.specs.Table.{Wide}
use Rattle.rules.specs.Elimination.{State, finished, run}
use Rattle.rules.specs.Inequalities.{sums}
use Rattle.promises.specs.Meaning.{point, Meets, parameters}
use Rattle.promises.specs.Solutions.{Solved}
use Rattle.promises.specs.Rows.{Tightened}
use Rattle.promises.proofs.Image.{length-values}
use Rattle.promises.proofs.Runs.{Held, Right, run-right}
use Rattle.promises.proofs.Solved.{solved}
use Rattle.promises.proofs.Tight.{row-exactly, closed-zero, length-sums}
use Rattle.promises.proofs.Values.{product-zero-r}
use Rattle.promises.proofs.Used.{closed-nothing, used-below}

module _ (fits : List ℤ → Bool) (n m : ℕ) (equations : List (List ℤ)) (l : length equations ≡ m) (w : Wide (suc n) equations) where
  pub tightened : (s : State) → run fits n m equations ≡ finished s → (inequality : List ℤ) → length inequality ≡ suc n
      → Tightened n m equations s inequality
  tightened s e inequality long =
      let held : Held n m equations s [] = subst (Right n m equations) e (run-right fits n m equations w l) in
      let done : Solved n m equations s = solved fits n m equations l w s e in
      let row = sums n s.substitution inequality in
      let exact = row-exactly n s inequality long held.0.long_x held.0.wide_x held.0.long_marks in
      record {
        exactly = λ y c. exact y c.long (λ p h z. product-zero-r (at row p) (at y p) (c.closed_zero p h z));
        used = λ x h meets holds.
            (exact (parameters s x) (length-values s.way_back (point x) ∙ held.0.long_y)
            (closed-nothing n m equations l s done held.0.long_reasons row (length-sums n s.substitution inequality) x h holds)
            ).0 (subst (λ v. Meets v inequality) (sym (done.there x h)) meets);
        closed_zero = closed-zero n s inequality;
        bits = used-below m s row;
      }
