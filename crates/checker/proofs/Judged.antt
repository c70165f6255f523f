-- The loop over a row, and the judgement case by case: each law has the side that the code answers.
use mathlib.Core.Path.{◌≡◌, refl, sym, ap, ◌∙◌}
use mathlib.Core.Bool.{Bool, true, false, not, ◌&&◌, and-false, and-true}
use mathlib.Core.List.{List}
use Prim.Native.Nat.{ℕ, suc, ◌+◌, ◌^◌, ◌≤◌, ◌<◌}
use native.Mathlib.Omega.{arith}
use borrow.Author.Tests.{leb-true, le-leb, lt-leb}
use lib.Dec.{leb}
use lib.ListN.{length, take, drop, drop_of_length-le}
use lib.IntN.{ℤ, pos, negsuc, nat_abs}
use lib.Signed.{non_neg, ◌≤ℤ◌, ◌<ℤ◌}
use Rattle.whole.specs.Gcd.{divides}
use Rattle.whole.proofs.Order.{lt-nat, le-nat}
use Rattle.rows.specs.Row.{at, all_within, first_beyond}
use Rattle.rows.specs.Table.{rows_of}
use Rattle.rows.proofs.Bounded.{and_right}
use Rattle.rows.proofs.Lists.{tail_at}
use Rattle.std.specs.Prelude.{Result, Ok, Err}
use Rattle.rules.specs.declared.Table.TheVariants.{Multipliers}
use Rattle.rules.specs.declared.Refusal.{Refusal}
use Rattle.rules.specs.declared.Refusal.TheVariants.{BadEntry}
use Rattle.rules.specs.Checker.{divides_all, combined, refutes, good_d, judged}

-- ---- the loop over a row
pub all_none : (d : ℕ) (row : List ℤ) (i : ℕ) → length row ≤ i → divides_all d (drop i row) ≡ true
unfolding divides_all
all_none d row i h = rw (drop_of_length-le row h)

pub all_here : (d : ℕ) (row : List ℤ) (i : ℕ) → i < length row → divides d (at row i) ≡ false → divides_all d (drop i row) ≡ false
unfolding divides_all
all_here d row i h e = rw (tail_at row i (pos 0) h, e)

pub all-later : (d : ℕ) (row : List ℤ) (i : ℕ) → i < length row → divides d (at row i) ≡ true
    → divides_all d (drop i row) ≡ divides_all d (drop (i + 1) row)
unfolding divides_all
all-later d row i h e = rw (tail_at row i (pos 0) h, e)

-- ---- the judgement: the multipliers, then D, then whether they refute the equations
abbrev pub Verdict : Type 0
Verdict = Result Bool Refusal

abbrev pub pick : Bool → Verdict → Verdict → Verdict
pick b x y = elim b [ true ↦ x | false ↦ y ]

module _ (n m : ℕ) (equations table : List ℤ) where
  verdict : Verdict
  verdict = Ok (refutes n (take m table) (nat_abs (at table m)) (rows_of (suc n) m equations))

  after_multipliers : Verdict
  unfolding verdict
  after_multipliers = pick (good_d (at table m)) verdict (Err (BadEntry Multipliers 1 (suc m)))

  bad_multiplier : Verdict
  bad_multiplier = Err (BadEntry Multipliers 1 (suc (first_beyond (take m table))))

  judged-is : judged n m equations table ≡ pick (all_within (take m table)) after_multipliers bad_multiplier
  unfolding judged after_multipliers bad_multiplier verdict
  judged-is = refl

  pub multiplier-bad : all_within (take m table) ≡ false → Err (BadEntry Multipliers 1 (suc (first_beyond (take m table)))) ≡ judged n m equations table
  unfolding bad_multiplier
  multiplier-bad h = sym (judged-is ∙ ap (λ b. pick b after_multipliers bad_multiplier) h)

  module _ (good : all_within (take m table) ≡ true) where
    past : judged n m equations table ≡ after_multipliers
    past = judged-is ∙ ap (λ b. pick b after_multipliers bad_multiplier) good

    pub d-bad : good_d (at table m) ≡ false → Err (BadEntry Multipliers 1 (suc m)) ≡ judged n m equations table
    unfolding after_multipliers
    d-bad h = sym (past ∙ ap (λ b. pick b verdict (Err (BadEntry Multipliers 1 (suc m)))) h)

    pub d-good : good_d (at table m) ≡ true → (b : Bool) → refutes n (take m table) (nat_abs (at table m)) (rows_of (suc n) m equations) ≡ b
        → Ok b ≡ judged n m equations table
    unfolding after_multipliers verdict
    d-good h b r = sym (past ∙ ap (λ c. pick c verdict (Err (BadEntry Multipliers 1 (suc m)))) h ∙ ap Ok r)

-- ---- D: from 0 to 2 ^ 56
pub d-negative : (d : ℤ) → d <ℤ pos 0 → good_d d ≡ false
unfolding good_d
d-negative (pos x) h = absurd (omega (arith, lt-nat h))
d-negative (negsuc x) h = refl

pub d-large : (d : ℤ) → pos 72057594037927936 <ℤ d → good_d d ≡ false
unfolding good_d
d-large (pos x) h = lt-leb x (2 ^ 56) (omega (arith, lt-nat h))
d-large (negsuc x) h = refl

pub d-right : (d : ℤ) → pos 0 ≤ℤ d → d ≤ℤ pos 72057594037927936 → good_d d ≡ true
unfolding good_d
d-right (pos x) h l = le-leb x (2 ^ 56) (omega (arith, le-nat l))
d-right (negsuc x) h l = absurd h.le

pub d-size : (d : ℤ) → good_d d ≡ true → nat_abs d ≤ 2 ^ 56
unfolding good_d
d-size d e = leb-true (nat_abs d) (2 ^ 56) (and_right (non_neg d) (leb (nat_abs d) (2 ^ 56)) e)

-- ---- whether the multipliers refute, by what D divides of the combined row
module _ (n : ℕ) (multipliers : List ℤ) (d : ℕ) (equations : List (List ℤ)) where
  pub constant-divided : divides d (at (combined n multipliers equations) n) ≡ true → false ≡ refutes n multipliers d equations
  unfolding refutes
  constant-divided e = sym (ap (λ (b : Bool). divides_all d (take n (combined n multipliers equations)) && not b) e ∙ and-false _)

  pub constant-left : divides d (at (combined n multipliers equations) n) ≡ false
      → divides_all d (take n (combined n multipliers equations)) ≡ refutes n multipliers d equations
  unfolding refutes
  constant-left e = sym (ap (λ (b : Bool). divides_all d (take n (combined n multipliers equations)) && not b) e ∙ and-true _)
