-- `turning::way_back` meets its contract: in row k of the table the rows are gathered and q's constant is added, and the row is then
-- tested.
use Rattle.std.proofs.Common.{◌≡◌, suc, pos, length, take, ℕ, List, ℤ}
use mathlib.Core.Path.{ap, ◌∙◌}
use native.Mathlib.Numerals.{add-one}
use native.Mathlib.Omega.{arith}
use lib.Seq.{length-take-le, get_or-take}
use Rattle.whole.specs.Limit.{W}
use Rattle.rows.specs.Row.{all_within}
use Rattle.rows.specs.Table.{rows_of, row_at}
use Rattle.rows.proofs.Bounded.{bounded-take}
use Rattle.rows.proofs.TableLaws.{rows_of-set_row, row-lent}
use Rattle.in_place.proofs.InPlace.{row-set}
use Rattle.turning.specs.Turned.{returned}
use Rattle.turning.proofs.TurnedRows.{length-returned, with-constant, constant-fits, with-constant-is}
use Rattle.steps.proofs.Attempts.{tried_same}
use Rattle.turning.proofs.way_back.Goals as goal

-- what `gather_in` takes of q
coefficients : (n : ℕ) (q : List ℤ) → length q ≡ suc n → length (take n q) ≡ n
coefficients n q e = length-take-le n q (omega arith)

pub gather_in-requires : goal.gather_in-requires
gather_in-requires c =
    let a = c.args in
    let r = c.requires in
    rw (coefficients a.n a.q.now r.3, add-one a.n)
    (r.0, omega arith, r.2, get_or-take a.n a.q.now a.k (pos 0) r.2 ∙ r.6, bounded-take W a.n a.q.now r.5, r.4)

pub overflow_add-table : goal.overflow_add-table
overflow_add-table c =
    let a = c.args in
    let r = c.requires in
    let gotten = rw (coefficients a.n a.q.now r.3, add-one a.n) at c.gather_in.ensures in
    constant-fits a.n a.k a.q.now a.table.now c.gather_in.new.table r.2 r.0 r.1 r.4 r.5 gotten

pub returns : goal.returns
returns c =
    let a = c.args in
    let n = a.n in
    let k = a.k in
    let t = a.table.now in
    let r = c.requires in
    let new = c.gather_in.new.table in
    let gotten = rw (coefficients n a.q.now r.3, add-one n) at c.gather_in.ensures in
    -- row k is the one that the contract names
    let done = with-constant-is n k a.q.now t new r.2 r.0 r.1 r.4 r.5 gotten r.3 in
    let row = returned n k a.q.now t in
    let long = length-returned n k a.q.now t r.2 r.0 in
    let tested = row-lent n k (with-constant n k a.q.now new) ∙ ap (row_at (suc n) k) done ∙ row-set (suc n) n k t r.2 r.0 row long in
    tried_same (c.all_within.ensures ∙ ap all_within tested)
    (ap (rows_of (suc n) n) done ∙ rows_of-set_row (suc n) n k t row r.2 r.0 long)
