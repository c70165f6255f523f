-- `steps::correct` meets its contract. A row with 0 at k is left alone; of what is listed of another, f, the new multipliers and the
-- new divisor can be beyond the limit, and each is tested.
use Rattle.std.proofs.Common.{rules, ◌≡◌, true, ◌≤◌, ◌/◌, ◌*◌, pos, ℕ, ℤ, ◌*ℤ◌, to_z, of_z, w64}
use mathlib.Core.Path.{sym, ◌∙◌}
use mathlib.Core.Bool.{and-false}
use native.Mathlib.Nat.{one-le-mul, div-le_self}
use borrow.Author.Tests.{le-leb, lt-leb}
use Rattle.whole.specs.Limit.{W, within}
use Rattle.whole.specs.Gcd.{gcd}
use Rattle.whole.proofs.GcdLaws.{gcd-nonzero-r}
use Rattle.rows.specs.Row.{at}
use Rattle.rows.proofs.Bounded.{bounded_at}
use Rattle.rules.specs.Elimination.{Carried, factor}
use Rattle.steps.specs.Shown.{carry}
use Rattle.steps.proofs.CorrectedRow.{share_of, share-nonzero, corrected-none, listed-none, corrected-some, listed-some}
use Rattle.steps.proofs.correct.Goals.{then-product-gt268435455-via-then-product-gt268435455, then-product-gt268435455-via-else-product-gt268435455+then-not-within}
use Rattle.steps.proofs.correct.Goals as goal

-- d / e, from the code's e
share : (h d : ℕ) {e q : ℕ} → e ≡ gcd h d → q ≡ d / e → q ≡ d / gcd h d
share h d e f = rw (f, e)

-- f, from the code's e
factor-is : (k d : ℕ) (e : Carried) {g q : ℕ} {f : ℤ} → g ≡ gcd e.divisor d → q ≡ e.divisor / g → f ≡ at e.row k *ℤ pos q → f ≡ factor k d e
unfolding factor
factor-is k d e s q f = rw (f, q, s)

pub returns-then-b-eq0 : goal.returns-then-b-eq0
returns-then-b-eq0 c =
    let a = c.args in
    let e = carry a.row.now a.multipliers.now a.h in
    let none : at a.row.now a.k ≡ pos 0 = search rules in
    rw (listed-none a.k a.d a.reason.now e none, corrected-none a.k a.d a.reason.now e none)

-- ---- from here on the coefficient is not 0
pub over-share-requires : goal.over-share-requires
over-share-requires c = rw c.gcd-e.ensures (gcd-nonzero-r c.args.h c.args.d c.requires.k_in_bounds.3.0)

pub over-requires : goal.over-requires
over-requires c = rw c.gcd-e.ensures (gcd-nonzero-r c.args.h c.args.d c.requires.k_in_bounds.3.0)

pub product-f-requires : goal.product-f-requires
product-f-requires c =
    let b = bounded_at W c.args.row.now c.args.k c.requires.row_value.0 in
    let h = div-le_self c.args.h c.gcd-e.result in
    (search (rules, b), search (rules, h))

pub returns-then-product-gt268435455 : goal.returns-then-product-gt268435455
returns-then-product-gt268435455 c =
    let a = c.args in
    let e = carry a.row.now a.multipliers.now a.h in
    let some : at a.row.now a.k ≡ pos 0 → ⊥ = search rules in
    let decided = listed-some a.k a.d a.reason.now e some c.requires.row_value.0 in
    let f : c.product-f.result ≡ at a.row.now a.k *ℤ pos c.over.result = search rules in
    elim c.then-product-gt268435455.branch [
      | then-product-gt268435455-via-then-product-gt268435455 w ↦
          let large = rw (share a.h a.d c.gcd-e.ensures c.over-share.ensures) at w.if-product-gt268435455.true in
          rw (decided, lt-leb (a.h * share_of a.d e) W large, and-false, and-false)
      | then-product-gt268435455-via-else-product-gt268435455+then-not-within w ↦
          let fits : within (factor a.k a.d e) ≡ w.within.result = rw (← factor-is a.k a.d e c.gcd-e.ensures c.over.ensures f) (search rules) in
          rw (decided, fits ∙ w.if-not-within.true)
    ]

pub returns-then-not-blend : goal.returns-then-not-blend
returns-then-not-blend c =
    let a = c.args in
    let e = carry a.row.now a.multipliers.now a.h in
    let some : at a.row.now a.k ≡ pos 0 → ⊥ = search rules in
    let f : c.product-f.result ≡ at a.row.now a.k *ℤ pos c.over.result = search rules in
    let s : to_z w64 (of_z w64 c.signed-2.result) ≡ pos c.over-share.result = search rules in
    let z : to_z w64 (of_z w64 c.product-f.result) ≡ c.product-f.result = search rules in
    let fits = rw (s, z, factor-is a.k a.d e c.gcd-e.ensures c.over.ensures f, share a.h a.d c.gcd-e.ensures c.over-share.ensures) at c.blend.ensures.fits in
    rw (listed-some a.k a.d a.reason.now e some c.requires.row_value.0, sym fits ∙ c.if-not-blend.true, and-false)

pub lowest_terms-requires : goal.lowest_terms-requires
lowest_terms-requires c =
    let a = c.args in
    let e = carry a.row.now a.multipliers.now a.h in
    let q = share a.h a.d c.gcd-e.ensures c.over-share.ensures in
    let some : 1 ≤ c.over-share.result = rw q (share-nonzero a.d e c.requires.k_in_bounds.3.0) in
    (rw (c.blend.ensures.row, ← c.blend.ensures.fits) c.if-not-blend.false, (one-le-mul c.requires.k_in_bounds.2.0 some, c.if-product-gt268435455.false))

pub returns : goal.returns
returns c =
    let a = c.args in
    let e = carry a.row.now a.multipliers.now a.h in
    let some : at a.row.now a.k ≡ pos 0 → ⊥ = search rules in
    let f : c.product-f.result ≡ at a.row.now a.k *ℤ pos c.over.result = search rules in
    let s : to_z w64 (of_z w64 c.signed-2.result) ≡ pos c.over-share.result = search rules in
    let z : to_z w64 (of_z w64 c.product-f.result) ≡ c.product-f.result = search rules in
    let q = share a.h a.d c.gcd-e.ensures c.over-share.ensures in
    let p = factor-is a.k a.d e c.gcd-e.ensures c.over.ensures f in
    let b = rw (s, z, p, q) at c.blend.ensures in
    let fits : within (factor a.k a.d e) ≡ true = rw (← p) (search rules) in
    let small = rw q at c.if-product-gt268435455.false in
    rw (
      listed-some a.k a.d a.reason.now e some c.requires.row_value.0,
      fits,
      sym b.fits ∙ c.if-not-blend.false,
      le-leb (a.h * share_of a.d e) W small,
      corrected-some a.k a.d a.reason.now e some,
      c.lowest_terms.ensures.0,
      c.lowest_terms.ensures.1,
      b.row,
      q,
    )
