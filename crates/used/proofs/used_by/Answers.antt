-- `used::used_by` meets its contract: the equations from j on are a set of m - j bits, so that one bit more always fits.
use mathlib.Core.Path.{◌≡◌, sym, ap, ◌∙◌}
use mathlib.Core.Bool.{Bool, true, false}
use Prim.Native.Nat.{ℕ, suc, ◌-◌, ◌^◌, ◌<◌}
use native.Mathlib.Nat.{sub-zero, sub_self}
use native.Mathlib.Omega.{arith}
use lib.ListN.{length}
use Rattle.rules.specs.Inequalities.{used_by}
use Rattle.used.proofs.Carried.{carrying-below, rests-among}
use Rattle.used.proofs.Reasons.{set_from, set-none, set_next, set-fits}
use Rattle.used.proofs.used_by.Invariants.{answer}
use Rattle.used.proofs.used_by.Goals.{After-rests_on, At-loop-j, Start}
use Rattle.used.proofs.used_by.Goals as goal

abbrev here : Start → ℕ → Bool
here s = let a = s.args in answer a.n a.m a.marks.now a.reasons.now a.sums.now

pub loop-j-init : goal.loop-j-init
loop-j-init c =
    let s = (goal.at.loop-j-init c).Start in
    let m = s.args.m in
    sym (set-none (here s) m) ∙ ap (set_from (here s) m) (sym (sub_self m))

-- what is there so far has at most 32 bits
small : (l : At-loop-j) → l.loop-j.set < 2 ^ 32
small l =
    let s = (goal.at.At-loop-j l).Start in
    let m = s.args.m in
    let j = l.loop-j.j in
    rw l.loop-j.invariant (set-fits (here s) j (m - j) (omega arith))

pub overflow_mul-set : goal.overflow_mul-set
overflow_mul-set c = let h = small (goal.at.overflow_mul-set c).At-loop-j in omega arith

pub rests_on-requires : goal.rests_on-requires
rests_on-requires c =
    let r = c.requires in (
      r.2,
      omega arith,
      r.3,
      r.4,
      rw c.carrying-columns.ensures (λ i h. omega (arith, carrying-below 0 c.args.marks.now c.args.sums.now i h, r.0)),
    )

-- what the call tells of equation j - 1
told : (c : After-rests_on) → here (goal.at.After-rests_on c).Start (c.loop-j.j - 1) ≡ c.rests_on.result
told c =
    let a = c.args in
    let r = c.requires in
    let long : length a.sums.now ≡ suc (length a.marks.now) = r.1 ∙ ap suc (sym r.0) in
    let by-columns = rests-among (suc a.m) (c.loop-j.j - 1) a.marks.now a.reasons.now a.sums.now long (omega arith) in
    rw (sym r.0) by-columns ∙ sym (rw c.carrying-columns.ensures at c.rests_on.ensures)

pub overflow_add-set : goal.overflow_add-set
overflow_add-set c = let h = small (goal.at.overflow_add-set c).At-loop-j in omega arith

pub loop-j-preserved-then-rests_on : goal.loop-j-preserved-then-rests_on
loop-j-preserved-then-rests_on c =
    let s = (goal.at.loop-j-preserved-then-rests_on c).Start in
    let more = set_next (here s) s.args.m c.loop-j.j true (omega arith) (omega arith) (told (goal.at.loop-j-preserved-then-rests_on c).After-rests_on ∙ c.if-rests_on.true) in
    rw c.loop-j.invariant more

pub loop-j-preserved : goal.loop-j-preserved
loop-j-preserved c =
    let s = (goal.at.loop-j-preserved c).Start in
    let more = set_next (here s) s.args.m c.loop-j.j false (omega arith) (omega arith) (told (goal.at.loop-j-preserved c).After-rests_on ∙ c.if-rests_on.false) in
    rw c.loop-j.invariant (omega (arith, more))

pub returns : goal.returns
unfolding used_by
returns c =
    let zero : c.loop-j.j ≡ 0 = omega arith in
    rw (zero, sub-zero c.args.m) at c.loop-j.invariant
