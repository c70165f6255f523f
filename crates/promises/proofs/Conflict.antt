-- Step (b), where the coefficients' gcd g is not 1: the checker accepts the row's multipliers with D = d·g. At a unit point the combined
-- row is d times the row in hand at some other point with the same last number. That is 0 for a coefficient, which D then divides, and 1
-- for the constant: if D divided it too, g would divide the whole row, whose gcd is 1.
use mathlib.Core.Path.{◌≡◌, refl, sym, ap, ◌∙◌, subst}
use mathlib.Core.Logic.{◌≢◌}
use mathlib.Core.Bool.{Bool, true, false, not}
use mathlib.Core.List.{List}
use Prim.Native.Nat.{ℕ, suc, ◌*◌, ◌<◌, ◌∣◌}
use native.Mathlib.Nat.{mul-dvd-mul_left, dvd_of_mul-dvd-mul_left, eq-one_of_dvd-one}
use native.Mathlib.Decide.{dec_lt}
use native.Mathlib.Omega.{arith}
use lib.ListN.{length, take, length-replicate, get_or-replicate}
use lib.Seq.{get_or-set_same, get_or-set_other, get_or-take, length-take-le}
use lib.IntN.{ℤ, pos, ◌*ℤ◌}
use Rattle.whole.specs.Gcd.{divides}
use Rattle.whole.proofs.Integers.{nat_abs-*}
use Rattle.whole.proofs.Divides.{◌∣ℤ◌, divides-true}
use Rattle.rows.specs.Row.{at, dot, values, zeros, unit_row, gcd_of}
use Rattle.rows.specs.Table.{Wide}
use Rattle.rows.proofs.Algebra.{length-unit}
use Rattle.rows.proofs.Bounded.{and_both}
use Rattle.rows.proofs.Divisors.{gcd_of-divides, gcd_of-greatest}
use Rattle.rules.specs.Elimination.{Carried, gcd_of_coefficients}
use Rattle.rules.specs.Checker.{combined, refutes}
use Rattle.promises.proofs.Values.{divides-value, divides-constant, divided-all, dot-at-unit}
use Rattle.promises.proofs.Checked.{length-combined, dot-combined}
use Rattle.promises.proofs.Image.{image, length-image, image-end}
use Rattle.promises.proofs.Invariant.{Sound, Carries}

-- ---- the numbers of a unit point
unit-other : (width i j : ℕ) → j ≢ i → j < width → at (unit_row width i) j ≡ pos 0
unfolding unit_row zeros
unit-other width i j e h = get_or-set_other (zeros width) i j (pos 1) (pos 0) e ∙ get_or-replicate width j (pos 0) (pos 0) h

unit-here : (width i : ℕ) → i < width → at (unit_row width i) i ≡ pos 1
unfolding unit_row zeros
unit-here width i h = get_or-set_same (zeros width) i (pos 1) (pos 0) (subst (λ w. i < w) (sym (length-replicate width (pos 0))) h)

-- ---- d·g divides d·z exactly where g divides z
times : (d g : ℕ) (z : ℤ) → g ∣ℤ z → d * g ∣ℤ pos d *ℤ z
times d g z p = record { dvd = rw (nat_abs-* (pos d) z) (mul-dvd-mul_left g d p.dvd) }

untimes : (d g : ℕ) (z : ℤ) → 0 < d → d * g ∣ℤ pos d *ℤ z → g ∣ℤ z
untimes d g z h p = record { dvd = dvd_of_mul-dvd-mul_left g h (subst (λ x. d * g ∣ x) (nat_abs-* (pos d) z) p.dvd) }

module _ (n m : ℕ) (equations X Y : List (List ℤ)) (marks : List ℕ) (reasons : List (List ℤ)) (w : Wide (suc n) equations)
    (s : Sound n m equations X Y marks reasons) (equation : List ℤ) (e : Carried) (c : Carries n m equations X marks equation e) where
  row : List ℤ
  row = combined n e.multipliers equations

  D : ℕ
  D = e.divisor * gcd_of_coefficients n e

  -- the combined row's number at i, by the row in hand
  number : (i : ℕ) → i < suc n → at row i ≡ pos e.divisor *ℤ dot e.row (image n Y (unit_row (suc n) i))
  unfolding row
  number i h =
      let x = unit_row (suc n) i in
      sym (dot-at-unit row (suc n) i h)
      ∙ dot-combined n e.multipliers equations w x
      ∙ ap (λ z. dot e.multipliers (values equations z)) (sym (s.there x (length-unit (suc n) i)))
      ∙ sym (c.value (image n Y x) (length-image n Y s.long_y x))

  coefficients : (i : ℕ) → gcd_of_coefficients n e ∣ℤ at (take n e.row) i
  unfolding gcd_of_coefficients
  coefficients i = gcd_of-divides (take n e.row) i

  divides-coefficient : (i : ℕ) → i < n → D ∣ℤ at row i
  unfolding D
  divides-coefficient i h =
      let x = unit_row (suc n) i in
      let y = image n Y x in
      subst (λ z. D ∣ℤ z) (sym (number i (omega arith)))
      (times e.divisor (gcd_of_coefficients n e) (dot e.row y)
      (divides-value (gcd_of_coefficients n e) n e.row y c.wide (length-image n Y s.long_y x) coefficients
      (image-end n Y s.long_y x ∙ unit-other (suc n) i n (omega arith) (omega arith))))

  divides-all : D ∣ℤ at row n → (i : ℕ) → i < length e.row → gcd_of_coefficients n e ∣ℤ at e.row i
  unfolding D
  divides-all p i l = go (dec_lt i n)
    where
      x : List ℤ
      x = unit_row (suc n) n

      constant : gcd_of_coefficients n e ∣ℤ at e.row n
      constant =
          divides-constant (gcd_of_coefficients n e) n e.row (image n Y x) c.wide (length-image n Y s.long_y x) coefficients
          (image-end n Y s.long_y x ∙ unit-here (suc n) n (omega arith))
          (untimes e.divisor (gcd_of_coefficients n e) (dot e.row (image n Y x)) c.least (subst (λ z. D ∣ℤ z) (number n (omega arith)) p))

      go : Dec (i < n) → gcd_of_coefficients n e ∣ℤ at e.row i
      go (yes h) = subst (λ z. gcd_of_coefficients n e ∣ℤ z) (get_or-take n e.row i (pos 0) h) (coefficients i)
      go (no h) = let same : i ≡ n = omega (arith, c.wide) in subst (λ j. gcd_of_coefficients n e ∣ℤ at e.row j) (sym same) constant

  pub row-refutes : gcd_of e.row ≡ 1 → (gcd_of_coefficients n e ≡ 1 → ⊥)
      → refutes n e.multipliers (e.divisor * gcd_of_coefficients n e) equations ≡ true
  unfolding refutes row D
  row-refutes one other =
      and_both
      (divided-all D (take n row) (λ i h.
      let l : i < n = omega (arith, length-take-le n row (omega (arith, length-combined n e.multipliers equations))) in
      subst (λ z. D ∣ℤ z) (sym (get_or-take n row i (pos 0) l)) (divides-coefficient i l)))
      (go (divides D (at row n)) refl)
    where
      go : (b : Bool) → divides D (at row n) ≡ b → not b ≡ true
      go true h =
          let g : gcd_of_coefficients n e ∣ gcd_of e.row = gcd_of-greatest e.row (gcd_of_coefficients n e) (divides-all (divides-true D (at row n) h)) in
          absurd (other (eq-one_of_dvd-one (subst (λ x. gcd_of_coefficients n e ∣ x) one g)))
      go false h = refl
