-- `in_place::gather_in` meets its contract: row k so far, gathered with the rows ahead, is the answer, and all other rows are as at first.
use mathlib.Core.Path.{◌≡◌, sym, ap, ◌∙◌}
use Prim.Native.Nat.{ℕ}
use native.Mathlib.Omega.{arith}
use mathlib.Core.List.{List}
use lib.IntN.{ℤ, pos}
use lib.ListN.{length}
use mir.Syntax.{w64}
use mir.Val.{to_z, of_z}
use Rattle.whole.specs.Limit.{W}
use Rattle.rows.specs.Row.{at}
use Rattle.rows.specs.Table.{row_at}
use Rattle.rows.proofs.Lists.{row-end}
use Rattle.rows.proofs.Bounded.{bounded_at, bounded-back}
use Rattle.tables.proofs.Multiples.{within-row, sum_fits}
use Rattle.in_place.proofs.InPlace.{gathering-start, gathering-length, gathering-row, gathering-step, gathering-past, gathering-end}
use Rattle.in_place.proofs.gather_in.Goals.{then-often-ne0, else-often-ne0}
use Rattle.in_place.proofs.gather_in.Goals as goal

-- a row that is added is not row k, which is added no times
differs : (cs : List ℤ) (k r : ℕ) → at cs k ≡ pos 0 → (of_z w64 (at cs r) ≡ 0 → ⊥) → r ≡ k → ⊥
differs cs k r none some e = some (ap (λ (j : ℕ). of_z w64 (at cs j)) e ∙ ap (of_z w64) none)

pub loop-r-init : goal.loop-r-init
loop-r-init c = let a = c.args in gathering-start a.w a.k a.cs.now a.table.now c.requires.2 c.requires.0 c.requires.5

pub add_row-requires : goal.add_row-requires
add_row-requires c =
    let a = c.args in
    let cs = a.cs.now in
    let t = a.table.now in
    let r = c.loop-r.r in
    let g = c.loop-r.invariant in
    let h = c.loop-r-test.true in
    let small = bounded_at W cs r c.requires.4 in
    let other = differs cs a.k r c.requires.3 c.if-often-ne0.true in
    let long = gathering-length a.w a.k cs t c.requires.2 c.requires.0 r g in
    rw (bounded-back W cs r c.requires.4 (omega arith), gathering-row a.w a.k cs t c.requires.2 c.requires.0 r g h other) record {
      w_in_bounds = (omega (arith, long, row-end (length cs) a.w a.k c.requires.2), omega (arith, long, row-end (length cs) a.w r h), other);
      c_bound = (small, sum_fits r (row_at a.w a.k c.loop-r.table) (omega arith) g.sum, within-row a.w r t c.requires.5);
    }

pub loop-r-preserved : goal.loop-r-preserved
loop-r-preserved c =
    let a = c.args in
    let cs = a.cs.now in
    let t = a.table.now in
    let r = c.loop-r.r in
    let g = c.loop-r.invariant in
    let b = c.loop-r-test.true in
    let read = bounded-back W cs r c.requires.4 (omega arith) in
    let small = bounded_at W cs r c.requires.4 in
    elim c.if-often-ne0.branch [
      | then-often-ne0 x ↦
          let done = rw read at x.add_row.ensures in
          let other = differs cs a.k r c.requires.3 x.if-often-ne0.true in
          rw (x.table-is, done) (gathering-step a.w a.k cs t c.requires.2 c.requires.0 r g b small c.requires.5 other)
      | else-often-ne0 x ↦
          let zero : at cs r ≡ pos 0 = sym read ∙ ap (to_z w64) x.if-often-ne0.false in
          rw x.table-is (gathering-past a.w a.k cs t c.requires.2 c.requires.0 r g b zero)
    ]

pub returns : goal.returns
returns c = let a = c.args in gathering-end a.w a.k a.cs.now a.table.now c.requires.2 c.requires.0 c.loop-r.r c.loop-r.invariant (omega arith)
