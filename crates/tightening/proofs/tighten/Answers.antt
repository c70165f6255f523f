-- `tightening::tighten` meets its contract: the early return is where the row stays, and else the coefficients and the constant are what
-- the definition says.
use mathlib.Core.Path.{◌≡◌, sym, ap, ap₂, ◌∙◌}
use Prim.Native.Nat.{◌%◌, ◌≤◌}
use native.Mathlib.Omega.{arith}
use lib.ListN.{length, take}
use lib.Seq.{length-take-le}
use lib.IntN.{pos, nat_abs}
use mir.Syntax.{w64}
use mir.Val.{to_z, of_z}
use Rattle.whole.specs.Limit.{W}
use Rattle.whole.specs.Quotient.{ceiling}
use Rattle.whole.proofs.Order.{orders}
use Rattle.whole.proofs.Bounds.{bits-le}
use Rattle.whole.proofs.Taken.{back}
use Rattle.rows.specs.Row.{at, gcd_of, divided}
use Rattle.rows.proofs.Bounded.{bounded_at, bounded-take, bounded-gcd}
use Rattle.rows.proofs.Divisors.{length-divided}
use Rattle.tightening.proofs.TightRow.{tight-small, tight-even, tight-new, put_last, back-small}
use Rattle.tightening.proofs.tighten.Goals.{After-gcd_of-g, After-signed-by, Start, then-g-lt2-via-then-g-lt2, then-g-lt2-via-else-g-lt2+then-magnitude-g-eq0}
use Rattle.tightening.proofs.tighten.Goals as goal

-- the constant is within the limit
small : (s : Start) → nat_abs (at s.args.row.now s.args.n) ≤ W
small s = bounded_at W s.args.row.now s.args.n s.requires.1

pub gcd_of-g-requires : goal.gcd_of-g-requires
gcd_of-g-requires c = bounded-take W c.args.n c.args.row.now c.requires.1

pub magnitude-requires : goal.magnitude-requires
magnitude-requires c =
    omega (arith, bits-le w64 (at c.args.row.now c.args.n), small (goal.at.magnitude-requires c).Start)

pub returns-then-g-lt2 : goal.returns-then-g-lt2
returns-then-g-lt2 c =
    let a = c.args in
    let read = back-small (at a.row.now a.n) (small (goal.at.returns-then-g-lt2 c).Start) in
    elim c.then-g-lt2.branch [
      | then-g-lt2-via-then-g-lt2 w ↦ sym (tight-small a.n a.row.now (rw c.gcd_of-g.ensures at w.if-g-lt2.true))
      | then-g-lt2-via-else-g-lt2+then-magnitude-g-eq0 w ↦
          sym (tight-even a.n a.row.now (sym (ap₂ ◌%◌ (w.magnitude.ensures ∙ ap nat_abs read) c.gcd_of-g.ensures) ∙ w.if-magnitude-g-eq0.true))
    ]

pub signed-by-requires : goal.signed-by-requires
signed-by-requires c =
    let n = c.args.n in
    let row = c.args.row.now in
    omega (arith, c.gcd_of-g.ensures, bounded-gcd W (take n row) (bounded-take W n row c.requires.1))

-- the divisor, as a signed number, is that of the coefficients, and at least 2
divisor : (c : After-signed-by) → let a = c.args in to_z w64 (of_z w64 c.signed-by.result) ≡ pos (gcd_of (take a.n a.row.now))
divisor c = back c.signed-by.result c.signed-by.type_inv ∙ c.signed-by.ensures ∙ ap pos c.gcd_of-g.ensures

large : (c : After-signed-by) → let a = c.args in 2 ≤ gcd_of (take a.n a.row.now)
large c = rw c.gcd_of-g.ensures at c.if-g-lt2.false

pub divide-requires : goal.divide-requires
divide-requires c =
    let b = (goal.at.divide-requires c).After-signed-by in
    let h = large b in
    rw (divisor b) (bounded-take W c.args.n c.args.row.now c.requires.1, λ e. omega (arith, ap nat_abs e))

pub ceiling-requires : goal.ceiling-requires
ceiling-requires c =
    let b = (goal.at.ceiling-requires c).After-signed-by in
    let h = large b in
    rw (divisor b) (omega (arith, bits-le w64 (at c.args.row.now c.args.n), small (goal.at.ceiling-requires c).Start), omega (arith, orders))

pub returns : goal.returns
returns c =
    let b = (goal.at.returns c).After-signed-by in
    let s = (goal.at.returns c).Start in
    let n = c.args.n in
    let row = c.args.row.now in
    let g = pos (gcd_of (take n row)) in
    let read = back-small (at row n) (small s) in
    let coefficients : c.divide.new.row ≡ divided g (take n row) = rw (divisor b) at c.divide.ensures in
    let constant : to_z w64 (of_z w64 c.ceiling.result) ≡ ceiling (at row n) g =
    back c.ceiling.result c.ceiling.type_inv ∙ (rw (divisor b, read) at c.ceiling.ensures) in
    let long : length (divided g (take n row)) ≡ n = length-divided g (take n row) ∙ length-take-le n row (omega arith) in
    let rest = ap₂ ◌%◌ (c.magnitude.ensures ∙ ap nat_abs read) c.gcd_of-g.ensures in
    rw (coefficients, constant)
    (put_last n (divided g (take n row)) row (ceiling (at row n) g) long c.requires.0
    ∙ sym (tight-new n row (large b) (λ e. c.if-magnitude-g-eq0.false (rest ∙ e))))
