-- `used::carrying` meets its contract: what is noted and what is left are all the columns that carry.
use mathlib.Core.Bool.{Bool, cond}
use mathlib.Core.Path.{◌≡◌, sym, ap, ◌∙◌}
use mathlib.Core.List.{List, [], ◌∷◌, ◌++◌, append_assoc, append-nil}
use Prim.Native.Nat.{ℕ, ◌+◌, ◌<◌}
use native.Mathlib.Numerals.{add-one}
use native.Mathlib.Omega.{arith}
use borrow.Author.Rules.{rules}
use lib.ListN.{length, get_or, set, take, drop}
use lib.Seq.{take-suc-set}
use Rattle.whole.proofs.Taken.{back}
use Rattle.rows.specs.Row.{at}
use Rattle.used.specs.Carrying.{carries as carries_of, carrying as carrying_of}
use Rattle.used.proofs.Carried.{carrying-none, carrying-more}
use Rattle.used.proofs.carrying.Goals.{After-carries, then-carries, else-carries}
use Rattle.used.proofs.carrying.Goals as goal

-- what a turn notes, with what is left
noted : (count p : ℕ) (columns rest : List ℕ) → count < length columns → take (count + 1) (set columns count p) ++ rest ≡ take count columns ++ (p ∷ rest)
noted count p columns rest h = rw (add-one count, take-suc-set columns count p h) (append_assoc (take count columns) (p ∷ []) rest)

-- whether the column of a turn carries decides what is left
left : (c : After-carries) → let p = c.loop-p.p in let rest = carrying_of (p + 1) (drop (p + 1) c.args.marks.now) (drop (p + 1) c.args.sums.now) in
    carrying_of p (drop p c.args.marks.now) (drop p c.args.sums.now) ≡ cond c.carries.result (p ∷ rest) rest
left c =
    let p = c.loop-p.p in
    let marks = c.args.marks.now in
    let sums = c.args.sums.now in
    let rest = carrying_of (p + 1) (drop (p + 1) marks) (drop (p + 1) sums) in
    let there : c.carries.result ≡ carries_of (get_or marks p 0) (at sums p) = c.carries.ensures ∙ ap (carries_of (get_or marks p 0)) (back (at sums p) (omega arith)) in
    carrying-more p marks sums (omega arith) (omega arith) ∙ ap (λ (b : Bool). cond b (p ∷ rest) rest) (sym there)

pub loop-p-preserved : goal.loop-p-preserved
loop-p-preserved c =
    let l = c.loop-p in
    let rest = carrying_of (l.p + 1) (drop (l.p + 1) c.args.marks.now) (drop (l.p + 1) c.args.sums.now) in
    let next = left (goal.at.loop-p-preserved c).After-carries in
    elim c.if-carries.branch [
      | then-carries w ↦
          rw (w.columns-is, w.count-is) record {
            all =
                noted l.count l.p l.columns rest (omega arith)
                ∙ ap (λ (x : List ℕ). take l.count l.columns ++ x) (sym (next ∙ ap (λ (b : Bool). cond b (l.p ∷ rest) rest) w.if-carries.true)) ∙ l.invariant.all;
            few = omega arith;
            size = search rules;
          }
      | else-carries w ↦
          rw (w.columns-is, w.count-is) record {
            all = ap (λ (x : List ℕ). take l.count l.columns ++ x) (sym (next ∙ ap (λ (b : Bool). cond b (l.p ∷ rest) rest) w.if-carries.false)) ∙ l.invariant.all;
            few = omega arith;
            size = search rules;
          }
    ]

pub returns : goal.returns
returns c =
    let l = c.loop-p in
    let none = carrying-none l.p c.args.marks.now c.args.sums.now (omega arith) in
    sym (append-nil _) ∙ ap (λ (x : List ℕ). take l.count l.columns ++ x) (sym none) ∙ l.invariant.all
