-- The gcd of a row from that of its coefficients, and that of the coefficients after the division of (a).
use mathlib.Core.Path.{◌≡◌, refl, sym, ap, ap₂, ◌∙◌}
use mathlib.Core.Bool.{Bool, true, false}
use mathlib.Core.List.{List, [], ◌∷◌}
use Prim.Native.Nat.{ℕ, zero, suc, ◌*◌, ◌/◌, ◌≤◌, ◌<◌}
use native.Mathlib.Nat.{mul_comm, mul-div_cancel_left, div-one}
use native.Mathlib.Omega.{arith}
use borrow.Author.Tests.{le-leb, leb-true, leb-false}
use lib.Dec.{leb}
use lib.ListN.{take}
use lib.IntN.{ℤ, pos, nat_abs}
use Rattle.whole.specs.Gcd.{gcd}
use Rattle.whole.specs.Quotient.{exactly}
use Rattle.whole.proofs.Integers.{nat_abs-*}
use Rattle.whole.proofs.GcdLaws.{gcd-comm, gcd-assoc, gcd-zero-r, gcd-mul}
use Rattle.whole.proofs.Divides.{◌∣ℤ◌, dvd-zero}
use Rattle.whole.proofs.QuotientLaws.{exactly-mul}
use Rattle.rows.specs.Row.{at, gcd_of, divided}
use Rattle.rows.proofs.Divisors.{gcd_of-divides}
use Rattle.rules.specs.Elimination.{Carried, gcd_of_coefficients, lowest_terms, by_gcd, reduced}
use Rattle.one_row.proofs.Works.{one-reduced}

-- the last number's with that of the numbers before it
pub row-gcd : (n : ℕ) (row : List ℤ) → gcd (nat_abs (at row n)) (gcd_of (take n row)) ≡ gcd_of (take (suc n) row)
unfolding gcd_of
row-gcd zero [] = gcd-zero-r 0
row-gcd (suc n) [] = gcd-zero-r 0
row-gcd zero (a ∷ row) = refl
row-gcd (suc n) (a ∷ row) =
    let x = nat_abs (at row n) in
    let y = nat_abs a in
    let rest = gcd_of (take n row) in
    sym (gcd-assoc x y rest) ∙ ap (λ (g : ℕ). gcd g rest) (gcd-comm x y) ∙ gcd-assoc y x rest ∙ ap (gcd y) (row-gcd n row)

-- a common divisor of all numbers is a factor of their gcd
factor-out : (g : ℕ) (row : List ℤ) → ((i : ℕ) → g ∣ℤ at row i) → gcd_of row ≡ g * gcd_of (divided (pos g) row)
unfolding gcd_of divided
factor-out g [] h = omega arith
factor-out g (a ∷ row) h =
    let part : nat_abs a ≡ g * nat_abs (exactly a (pos g)) =
    ap nat_abs (sym (exactly-mul a g (h 0))) ∙ nat_abs-* (exactly a (pos g)) (pos g) ∙ mul_comm (nat_abs (exactly a (pos g))) g in
    ap₂ gcd part (factor-out g row (λ i. h (suc i))) ∙ gcd-mul g (nat_abs (exactly a (pos g))) (gcd_of (divided (pos g) row))

first-divided : (g n : ℕ) (row : List ℤ) → take n (divided (pos g) row) ≡ divided (pos g) (take n row)
unfolding divided
first-divided g zero row = refl
first-divided g (suc n) [] = refl
first-divided g (suc n) (a ∷ row) = ap (λ (l : List ℤ). exactly a (pos g) ∷ l) (first-divided g n row)

first-divides : (g n : ℕ) (row : List ℤ) → ((i : ℕ) → g ∣ℤ at row i) → (i : ℕ) → g ∣ℤ at (take n row) i
first-divides g zero row h i = dvd-zero
first-divides g (suc n) [] h i = dvd-zero
first-divides g (suc n) (a ∷ row) h zero = h 0
first-divides g (suc n) (a ∷ row) h (suc i) = first-divides g n row (λ j. h (suc j)) i

-- ---- after (a)
module _ (n : ℕ) (e : Carried) (alive : 0 < gcd_of e.row) where
  abbrev g : ℕ
  g = gcd_of e.row

  by_one : g < 2 → gcd_of_coefficients n (reduced g e) ≡ gcd_of_coefficients n e / g
  by_one h =
      let one : g ≡ 1 = omega (arith, alive) in
      ap (gcd_of_coefficients n) (one-reduced g e h) ∙ sym (ap (λ (d : ℕ). gcd_of_coefficients n e / d) one ∙ div-one (gcd_of_coefficients n e))

  divided-row : 2 ≤ g → (reduced g e).row ≡ divided (pos g) e.row
  unfolding reduced lowest_terms by_gcd
  divided-row h = ap (λ (b : Bool). (elim b as (λ x. Carried) [ true ↦ lowest_terms (by_gcd g e) | false ↦ e ]).row) (le-leb 2 g h)

  by-more : 2 ≤ g → gcd_of_coefficients n (reduced g e) ≡ gcd_of_coefficients n e / g
  unfolding gcd_of_coefficients
  by-more h =
      let first = take n e.row in
      let out = factor-out g first (first-divides g n e.row (gcd_of-divides e.row)) in
      ap (λ (l : List ℤ). gcd_of (take n l)) (divided-row h) ∙ ap gcd_of (first-divided g n e.row)
      ∙ sym (ap (λ (c : ℕ). c / g) out ∙ mul-div_cancel_left (gcd_of (divided (pos g) first)) alive)

  -- the gcd of the coefficients is divided as they are
  pub coefficients-left : gcd_of_coefficients n (reduced g e) ≡ gcd_of_coefficients n e / g
  coefficients-left = go (leb 2 g) refl
    where
      go : (b : Bool) → leb 2 g ≡ b → gcd_of_coefficients n (reduced g e) ≡ gcd_of_coefficients n e / g
      go true h = by-more (leb-true 2 g h)
      go false h = by_one (leb-false 2 g h)
