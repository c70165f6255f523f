-- `coefficients::opposites` meets its contract: rows of two lengths are no opposites, and of one length all pairs decide, each by the bits
-- of its sum, which fits.
use Rattle.std.proofs.Common.{◌≡◌, ◌≤◌, ◌<◌, Bool, true, ◌&&◌, List, [], ◌∷◌, length, get_or, ℕ, ℤ, pos, negsuc, ◌+ℤ◌, suc, nat_abs, refl, sym, ap, ap₂, ◌∙◌, eqb, nat_eq, FitsSigned, to_z-of_z, w64, to_z, of_z, rules, tests, arith}
use Rattle.std.specs.List.{zip, list_all}
use Rattle.std.proofs.lemmas.Iterator.{YieldsList-from_slice, YieldsList-from_zip}
use Rattle.std.proofs.lemmas.Iterator.Adapters.{serves_from_places}
use Rattle.std.proofs.lemmas.Iterator.Search.{all_from_yields_List}
use Rattle.std.proofs.lemmas.Slice.Zip.{length-zip, get_or-zip}
use Rattle.std.proofs.Math.Nat.{suc_inj}
use Rattle.std.proofs.lemmas.List.{get_or_default}
use borrow.Author.Tests.{ne_eqb}
use Rattle.whole.specs.Limit.{W}
use Rattle.whole.proofs.Bounds.{bounds, sfits-by}
use Rattle.rows.specs.Row.{opposite, all_within}
use Rattle.rows.proofs.Bounded.{bounded_at, bounded-drop}
use Rattle.rows.proofs.Loops.{opposite-lengths}
use Rattle.coefficients.proofs.opposites.Goals as goal

-- the test of a pair, as the code makes it
abbrev Test : ℤ × ℤ → Bool
Test p = nat_eq (of_z w64 (to_z w64 (of_z w64 p.0) +ℤ to_z w64 (of_z w64 p.1))) 0

zero-bits : (s : ℤ) → FitsSigned w64 s → eqb (of_z w64 s) 0 ≡ eqb (nat_abs s) 0
zero-bits (pos n) f = refl
zero-bits (negsuc n) f = ne_eqb _ 0 (λ e. omega (arith, f.sfits, e)) ∙ sym (ne_eqb (suc n) 0 (λ e. omega arith))

test-is : (a b : ℤ) → nat_abs a ≤ W → nat_abs b ≤ W → Test (a, b) ≡ eqb (nat_abs (a +ℤ b)) 0
test-is a b f g =
    let left : FitsSigned w64 a = sfits-by (search bounds) tt in
    let right : FitsSigned w64 b = sfits-by (search bounds) tt in
    rw (to_z-of_z left, to_z-of_z right) (zero-bits (a +ℤ b) (sfits-by (search bounds) tt))

opposite-all : (row other : List ℤ) → all_within row ≡ true → all_within other ≡ true → length row ≡ length other
    → list_all Test (zip row other) ≡ opposite row other
unfolding opposite
opposite-all [] [] e f h = refl
opposite-all [] (b ∷ other) e f h = let z : ⊥ = omega arith in absurd z
opposite-all (a ∷ row) [] e f h = let z : ⊥ = omega arith in absurd z
opposite-all (a ∷ row) (b ∷ other) e f h =
    ap₂ (λ x y. x && y) (test-is a b (bounded_at W (a ∷ row) 0 e) (bounded_at W (b ∷ other) 0 f))
    (opposite-all row other (bounded-drop W 1 (a ∷ row) e) (bounded-drop W 1 (b ∷ other) f) (suc_inj h))

-- the sum of a pair that stands in the rows
pair-fits : (row other : List ℤ) (k : ℕ) (a b : ℤ) → all_within row ≡ true → all_within other ≡ true → k < length (zip row other)
    → ◌≡◌ {A = ℤ × ℤ} (a, b) (get_or (zip row other) k (a, b)) → FitsSigned w64 (to_z w64 (of_z w64 a) +ℤ to_z w64 (of_z w64 b))
pair-fits row other k a b f g h e =
    let first : k < length row = omega (arith, length-zip row other) in
    let second : k < length other = omega (arith, length-zip row other) in
    let p = e ∙ get_or-zip row other k (a, b) first second in
    let left : nat_abs a ≤ W = rw (ap (λ (p : ℤ × ℤ). p.0) p ∙ get_or_default row k a (pos 0) first) (bounded_at W row k f) in
    let right : nat_abs b ≤ W = rw (ap (λ (p : ℤ × ℤ). p.1) p ∙ get_or_default other k b (pos 0) second) (bounded_at W other k g) in
    sfits-by (search bounds) tt

pub all-requires-clause-callable : goal.all-requires-clause-callable
all-requires-clause-callable c =
    let row = c.args.row.now in
    let other = c.args.other.now in
    serves_from_places (YieldsList-from_zip (YieldsList-from_slice row cc) (YieldsList-from_slice other cc)) (λ x q r. search rules)
    (λ x k h e _ _ _ _ _ _ _. pair-fits row other k x.0.now x.1.now c.requires.0 c.requires.1 h e)

pub returns-then-row-other : goal.returns-then-row-other
returns-then-row-other c =
    let row = c.args.row.now in
    let other = c.args.other.now in
    all_from_yields_List Test c.all.new.self _ c.all.result c.all.ensures.ran
    (YieldsList-from_zip (YieldsList-from_slice row cc) (YieldsList-from_slice other cc)) (λ x b q k. search (rules, tests))
    ∙ opposite-all row other c.requires.0 c.requires.1 c.if-row-other.true

pub returns-else-row-other : goal.returns-else-row-other
returns-else-row-other c =
    let row = c.args.row.now in
    let other = c.args.other.now in
    ne_eqb (length row) (length other) c.if-row-other.false ∙ sym (opposite-lengths row other c.if-row-other.false)
