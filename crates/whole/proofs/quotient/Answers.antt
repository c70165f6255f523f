-- `whole::quotient` meets its contract: by 1 and -1 it is the number and its opposite; else the divisor is not 0, all fits 32 bits, and
-- the quotient is not further from 0 than the dividend.
use mathlib.Core.Path.{sym, ap, ◌∙◌}
use mir.Facts.{to_z-of_z}
use mir.Syntax.{w64}
use mir.Val.{to_z}
use Rattle.whole.specs.Quotient.{quotient}
use Rattle.whole.proofs.Bounds.{bounds, sfits-by, bits_pos}
use Rattle.whole.proofs.QuotientLaws.{quotient-one, quotient-minus}
use Rattle.whole.proofs.quotient.Goals as goal

pub returns-then-a-eq1 : goal.returns-then-a-eq1
returns-then-a-eq1 c =
    let s = c.before in
    let one = sym (to_z-of_z s.ranges.a) ∙ ap (to_z w64) c.if-a-eq1.true in
    to_z-of_z s.ranges.z ∙ sym (ap (quotient s.args.z) one ∙ quotient-one s.args.z)

pub overflow_sub-result : goal.overflow_sub-result
overflow_sub-result c = sfits-by (search bounds) tt

pub returns-then-a-eqminus1 : goal.returns-then-a-eqminus1
returns-then-a-eqminus1 c =
    let s = c.before.before in
    let minus = sym (to_z-of_z s.ranges.a) ∙ ap (to_z w64) c.if-a-eqminus1.true in
    rw (to_z-of_z (overflow_sub-result c), to_z-of_z s.ranges.z, minus) (sym (quotient-minus s.args.z))

pub overflow_cast-short : goal.overflow_cast-short
overflow_cast-short c = sfits-by (search bounds) tt

pub overflow_cast-short-2 : goal.overflow_cast-short-2
overflow_cast-short-2 c = sfits-by (search bounds) tt

pub nonzero_div-short : goal.nonzero_div-short
nonzero_div-short c =
    let s = c.before.before in
    let nonzero = bits_pos (overflow_cast-short-2 c) (λ e. s.requires.2 (sym (to_z-of_z s.ranges.a) ∙ e)) in
    (nonzero, sfits-by (search bounds) tt)

pub overflow_cast-result : goal.overflow_cast-result
overflow_cast-result c = sfits-by (search bounds) tt

pub returns : goal.returns
unfolding quotient
returns c =
    let s = c.before.before in
    rw (to_z-of_z (overflow_cast-result c), to_z-of_z (nonzero_div-short c).1, to_z-of_z (overflow_cast-short c), to_z-of_z (overflow_cast-short-2 c), to_z-of_z s.ranges.z, to_z-of_z s.ranges.a)
