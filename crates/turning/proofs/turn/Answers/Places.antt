-- The first row's column and its quotients in `turning::turn`: the column is one of the coefficients', and the scratch list holds the quotients.
use mathlib.Core.Path.{◌≡◌, ap, ◌∙◌}
use mathlib.Core.Bool.{true}
use mathlib.Core.List.{List, ◌++◌}
use Prim.Native.Nat.{ℕ, suc, ◌+◌, ◌*◌, ◌≤◌, ◌<◌}
use native.Mathlib.Nat.{mul-le-mul_right}
use native.Mathlib.Numerals.{add-one}
use native.Mathlib.Omega.{arith}
use lib.IntN.{ℤ, pos, nat_abs}
use lib.ListN.{length, take, drop, set, replicate, length-set}
use lib.Seq.{take_at, take-set-lt, length-take-le, get_or-take, get_or-set_same}
use Rattle.std.proofs.Common.{rules, to_z, of_z, w64}
use Rattle.whole.specs.Limit.{W}
use Rattle.rows.specs.Row.{at, gcd_of, smallest, quotients, all_within}
use Rattle.rows.proofs.Bounded.{bounded_at}
use Rattle.rows.proofs.Divisors.{length-quotients}
use Rattle.rows.proofs.SmallestLaws.{smallest-inside, smallest-nonzero}
use Rattle.turning.proofs.TurnedStep.{picked}

module _ (n count k : ℕ) (t : List ℤ) (long : (length t ≡ count * suc n) × (1 ≤ count) × (n ≤ 32)) where
  -- there is a first row
  pub first-row : suc n ≤ length t
  first-row = omega (arith, mul-le-mul_right (suc n) long.1)

  coefficients : length (take n t) ≡ n
  coefficients = length-take-le n t (omega (arith, first-row))

  module _ (least : (all_within t ≡ true) × (0 < gcd_of (take n t)) × (k ≡ smallest (take n t))) where
    -- the column is one of the coefficients', and what stands there is not 0
    pub inside : k < n
    inside = omega (arith, least.2, smallest-inside (take n t) least.1, coefficients)

    pub nonzero : at t k ≡ pos 0 → ⊥
    nonzero e =
        let lead : 0 < nat_abs (at (take n t) k) = rw least.2 (smallest-nonzero (take n t) least.1) in
        let none : nat_abs (at (take n t) k) ≡ 0 = ap nat_abs (get_or-take n t k (pos 0) inside ∙ e) in
        omega arith

    -- the quotients with 0 at the column
    divided-length : length (quotients (at t k) (take (suc n) t)) ≡ suc n
    divided-length = length-quotients (at t k) (take (suc n) t) ∙ length-take-le (suc n) t first-row

    pub picked-length : length (picked n k t) ≡ suc n
    picked-length = length-set (quotients (at t k) (take (suc n) t)) k (pos 0) ∙ divided-length

    pub picked-zero : at (picked n k t) k ≡ pos 0
    picked-zero = get_or-set_same (quotients (at t k) (take (suc n) t)) k (pos 0) (pos 0) (omega (arith, inside, divided-length))

    -- they are in the first part of a list of 33 numbers
    pub scratch-is : (part : List ℤ) → part ≡ quotients (to_z w64 (of_z w64 (at t k))) (take (n + 1) t)
        → take (n + 1) (set (part ++ drop (n + 1) (replicate 33 (pos 0))) k (pos 0)) ≡ picked n k t
    scratch-is part e =
        let b = bounded_at W t k least.0 in
        let lead : to_z w64 (of_z w64 (at t k)) ≡ at t k = search (rules, b) in
        let e = rw (lead, add-one n) at e in
        let rest = drop (suc n) (replicate 33 (pos 0)) in
        rw (add-one n)
        (take-set-lt (suc n) (part ++ rest) k (pos 0) (omega (arith, inside))
        ∙ ap (λ (l : List ℤ). set l k (pos 0)) (take_at part rest (suc n) (ap length e ∙ divided-length) ∙ e))
