-- `coefficients::smallest` meets its contract: `best` is the column found among those behind the n that are left, and `least` the size of the
-- number there less one, or about the limit where none is found. The column before takes its place where the definition says so.
use Rattle.std.proofs.Common.{◌≡◌, ℕ, zero, suc, ◌+◌, ◌%◌, ◌<◌, ◌≤◌, ◌⊎◌, List, [], ◌∷◌, ◌++◌, length, drop, ℤ, pos, nat_abs, refl, true, sym, subst, ap, ◌∙◌, inl, inr, ⊎_elim, append_assoc, append-nil, zero-add, w64, to_z, of_z, length-append, arith, rules}
use Rattle.std.proofs.Math.Seq.{get_or-append_seam, drop-append_seam}
use Rattle.std.proofs.Math.ListN.{get_or-eq_default, drop_of_length-le}
use Rattle.std.specs.Slice.Iter.{iter_rest}
use Rattle.whole.specs.Limit.{W}
use Rattle.rows.specs.Row.{at, smallest, all_within}
use Rattle.rows.proofs.Bounded.{bounded_at, bounded-back}
use Rattle.rows.proofs.Loops.{smallest-none, smallest-zero, smallest-here, smallest-before}
use Rattle.coefficients.proofs.smallest.Invariants.{Front, Least}
use Rattle.coefficients.proofs.smallest.Goals.{In-Some, After-magnitude-less_one}
use Rattle.coefficients.proofs.smallest.Goals as goal

-- the last of the numbers that are left, and those before it
record Turn (row left next : List ℤ) (z : ℤ) : Type 0 where
  one_more : length left ≡ length next + 1
  inside : length next < length row
  front : Front row next
  is : z ≡ at row (length next)

turn : (row left next : List ℤ) (z : ℤ) → left ≡ next ++ z ∷ [] → Front row left → Turn row left next z
turn row left next z e f =
    let behind = drop (length left) row in
    let p : next ++ z ∷ behind ≡ row = sym (append_assoc next (z ∷ []) behind) ∙ ap (λ l. l ++ behind) (sym e) ∙ f in
    let whole : length row ≡ length next + suc (length behind) = sym (ap length p) ∙ length-append next (z ∷ behind) in
    record {
      one_more = ap length e ∙ length-append next (z ∷ []);
      inside = omega arith;
      front = ap (λ l. next ++ drop (length next) l) (sym p) ∙ ap (λ l. next ++ l) (drop-append_seam next (z ∷ behind)) ∙ p;
      is = sym (get_or-append_seam next z behind (pos 0)) ∙ ap (λ l. at l (length next)) p;
    }

module _ {row left next : List ℤ} {z : ℤ} (t : Turn row left next z) where
  read : all_within row ≡ true → to_z w64 (of_z w64 z) ≡ at row (length next)
  read within = ap (λ (z : ℤ). to_z w64 (of_z w64 z)) t.is ∙ bounded-back W row (length next) within (omega arith)

  one_less : {best : ℕ} → best ≡ length left + smallest (drop (length left) row) → best ≡ length next + 1 + smallest (drop (length next + 1) row)
  one_less {best} e = subst (λ n. best ≡ n + smallest (drop n row)) t.one_more e

-- a size less one, as it wraps: of 0 it is beyond every size
abbrev wrapped : ℕ → ℕ
wrapped x = (x + 18446744073709551615) % 18446744073709551616

less_one : (x : ℕ) → x ≤ W → ((x ≡ 0) × (W < wrapped x)) ⊎ (x ≡ wrapped x + 1)
less_one zero h = inl (refl, omega arith)
less_one (suc y) h = inr (omega arith)

-- the number of column i, before the column found so far, takes its place or leaves it
module _ (row : List ℤ) (within : all_within row ≡ true) (i best least : ℕ) (h : i < length row)
    (b : best ≡ i + 1 + smallest (drop (i + 1) row)) (l : Least row best least) where
  abbrev size : ℕ → ℕ
  size j = nat_abs (at row j)

  small : (j : ℕ) → size j ≤ W
  small j = bounded_at W row j within

  taken : wrapped (size i) ≤ least → (i ≡ i + smallest (drop i row)) × Least row i (wrapped (size i))
  taken t =
      let r = wrapped (size i) in
      let low : r ≤ W = ⊎_elim (λ w. omega (arith, w.2)) (λ w. omega (arith, w, small best)) l in
      let here : size i ≡ r + 1 = ⊎_elim (λ w. absurd (omega (arith, low, w.1))) (λ w. w) (less_one (size i) (small i)) in
      let leads : (size best ≡ 0) ⊎ (size i ≤ size best) = ⊎_elim (λ w. inl w.0) (λ w. inr (omega (arith, here, w))) l in
      (smallest-here row i best h b (λ e. omega (arith, e, here)) leads, inr here)

  passed : least < wrapped (size i) → best ≡ i + smallest (drop i row)
  passed t =
      let r = wrapped (size i) in
      let larger : size i ≡ r + 1 → (0 < size best) × (size best < size i) =
      λ e. ⊎_elim (λ w. absurd (omega (arith, e, w.1, small i))) (λ w. (omega (arith, w), omega (arith, e, w))) l in
      ⊎_elim (λ w. smallest-zero row i best h b w.0)
      (λ w. smallest-before row i best h b (λ e. omega (arith, e, (larger w).0)) (larger w).1)
      (less_one (size i) (small i))

pub loop-i-init : goal.loop-i-init
loop-i-init c =
    let row = c.args.row.now in
    let all : iter_rest c.into_iter-i-iterator.result.iter.iter ≡ row = search rules in
    let none : nat_abs (at row (length row)) ≡ 0 = ap nat_abs (get_or-eq_default row (pos 0) {n = length row} (omega arith)) in
    let front : Front row row = ap (λ l. row ++ l) (drop_of_length-le row (omega arith)) ∙ append-nil row in
    rw all (search rules, front, omega (arith, smallest-none row), inl (none, omega arith, omega arith))

pub magnitude-less_one-requires : goal.magnitude-less_one-requires
magnitude-less_one-requires c =
    let t = turn _ _ _ _ c.in-Some.ensures.steps.1.0 c.loop-i.invariant.1 in
    rw (read t c.requires) (omega (arith, bounded_at W c.args.row.now (length (iter_rest c.next.new.self.iter.iter)) c.requires))

pub loop-i-preserved : goal.loop-i-preserved
loop-i-preserved c =
    let t = turn _ _ _ _ c.in-Some.ensures.steps.1.0 c.loop-i.invariant.1 in
    let size = c.magnitude-less_one.ensures ∙ ap nat_abs (read t c.requires) in
    let test = subst (λ x. c.loop-i.least < wrapped x) size c.if-less_one-least.false in
    let kept = c.loop-i.invariant.3 in
    (search rules, t.front, passed _ c.requires _ _ _ t.inside (one_less t c.loop-i.invariant.2) kept test, kept)

pub loop-i-preserved-then-less_one-least : goal.loop-i-preserved-then-less_one-least
loop-i-preserved-then-less_one-least c =
    let t = turn _ _ _ _ c.in-Some.ensures.steps.1.0 c.loop-i.invariant.1 in
    let size = c.magnitude-less_one.ensures ∙ ap nat_abs (read t c.requires) in
    let test = subst (λ x. wrapped x ≤ c.loop-i.least) size c.if-less_one-least.true in
    let here : c.in-Some.i ≡ length (iter_rest c.next.new.self.iter.iter) = omega (arith, c.in-Some.ensures.steps.1.1, c.loop-i.invariant.0) in
    let w = taken _ c.requires _ _ _ t.inside (one_less t c.loop-i.invariant.2) c.loop-i.invariant.3 test in
    (search rules, t.front, here ∙ w.0, rw (here, size) w.1)

pub returns : goal.returns
returns c = let e : length (iter_rest c.loop-i.i-iterator.iter.iter) ≡ 0 = c.in-None.ensures.steps.1.0 in
    (rw e at c.loop-i.invariant.2) ∙ zero-add _
