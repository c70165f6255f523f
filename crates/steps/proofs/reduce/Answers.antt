-- `steps::reduce` meets its contract: of the numbers that are listed only the new divisor can be beyond the limit.
use Rattle.std.proofs.Common.{rules, ◌≡◌, ◌*◌, pos, to_z, of_z, w64}
use borrow.Author.Tests.{le-leb, lt-leb}
use Rattle.whole.specs.Limit.{W}
use Rattle.steps.specs.Shown.{carry}
use Rattle.steps.proofs.CorrectedRow.{reduced-is, reduced-fits}
use Rattle.steps.proofs.reduce.Goals as goal

pub returns-then-product-gt268435455 : goal.returns-then-product-gt268435455
returns-then-product-gt268435455 c =
    let a = c.args in
    let e = carry a.row.now a.multipliers.now a.d in
    rw (reduced-fits a.g e c.requires.3 c.requires.0 c.requires.1, lt-leb (a.d * a.g) W c.if-product-gt268435455.true)

pub returns : goal.returns
returns c =
    let a = c.args in
    let e = carry a.row.now a.multipliers.now a.d in
    let g : to_z w64 (of_z w64 c.signed.result) ≡ pos a.g = search rules in
    rw (
      reduced-fits a.g e c.requires.3 c.requires.0 c.requires.1,
      le-leb (a.d * a.g) W c.if-product-gt268435455.false,
      reduced-is a.g e c.requires.3,
      c.divide.ensures,
      g,
      c.lowest_terms.ensures.0,
      c.lowest_terms.ensures.1,
    )
