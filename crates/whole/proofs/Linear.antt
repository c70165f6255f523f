-- The order of compound integers for `omega`: an expression over ρ, found by `search reify`, is the difference of the two naturals
-- `PN ρ e`, made of the parts of ρ's entries. So `le-by ρ (search reify) (search reify) (omega (arith, orders))` proves a `≤ℤ`, and
-- `eq-on ρ (search reify) (search reify) e` lets `omega` use the equation e. A product that is to stay whole stands in ρ.
use mathlib.Core.Path.{◌≡◌, refl, sym, ap, ap₂, ◌∙◌}
use mathlib.Core.List.{List, [], ◌∷◌}
use Prim.Native.Nat.{ℕ, ◌+◌, ◌*◌, ◌≤◌, ◌<◌}
use native.Mathlib.Omega.{arith}
use lib.IntN.{ℤ, pos, neg_ℤ, ◌+ℤ◌, ◌-ℤ◌, ◌*ℤ◌}
use lib.Signed.{◌≤ℤ◌, ◌<ℤ◌}
use Rattle.whole.proofs.Order.{pz, nz, le-nat, nat_le, lt-nat, nat_lt, eq-nat, nat_eq, sub}
use Rattle.whole.proofs.Ring.{E, var, con, ◌⊕◌, ◌⊗◌, ◌⊖◌, neg, at, eval}
use Rattle.whole.proofs.Reify.{Is, reify, ring}

abbrev pub PN : List ℤ → E → ℕ × ℕ
PN ρ (var i) = (pz (at ρ i), nz (at ρ i))
PN ρ (con c) = (pz c, nz c)
PN ρ (a ⊕ b) = ((PN ρ a).0 + (PN ρ b).0, (PN ρ a).1 + (PN ρ b).1)
PN ρ (a ⊗ b) = ((PN ρ a).0 * (PN ρ b).0 + (PN ρ a).1 * (PN ρ b).1, (PN ρ a).0 * (PN ρ b).1 + (PN ρ a).1 * (PN ρ b).0)
PN ρ (a ⊖ b) = ((PN ρ a).0 + (PN ρ b).1, (PN ρ a).1 + (PN ρ b).0)
PN ρ (neg a) = ((PN ρ a).1, (PN ρ a).0)

-- an integer is the difference of its parts
parts : (z : ℤ) → z ≡ pos (pz z) -ℤ pos (nz z)
parts z = nat_eq (omega (arith, sub (pos (pz z)) (pos (nz z))))

re-add : (x y z w : ℤ) → (x -ℤ y) +ℤ (z -ℤ w) ≡ (x +ℤ z) -ℤ (y +ℤ w)
re-add x y z w = ring (x ∷ y ∷ z ∷ w ∷ []) (search reify) (search reify) refl

re-sub : (x y z w : ℤ) → (x -ℤ y) -ℤ (z -ℤ w) ≡ (x +ℤ w) -ℤ (y +ℤ z)
re-sub x y z w = ring (x ∷ y ∷ z ∷ w ∷ []) (search reify) (search reify) refl

re-mul : (x y z w : ℤ) → (x -ℤ y) *ℤ (z -ℤ w) ≡ (x *ℤ z +ℤ y *ℤ w) -ℤ (x *ℤ w +ℤ y *ℤ z)
re-mul x y z w = ring (x ∷ y ∷ z ∷ w ∷ []) (search reify) (search reify) refl

re-neg : (x y : ℤ) → neg_ℤ (x -ℤ y) ≡ y -ℤ x
re-neg x y = ring (x ∷ y ∷ []) (search reify) (search reify) refl

module _ (ρ : List ℤ) where
  pn-is : (e : E) → eval ρ e ≡ pos (PN ρ e).0 -ℤ pos (PN ρ e).1
  pn-is (var i) = parts (at ρ i)
  pn-is (con c) = parts c
  pn-is (a ⊕ b) = ap₂ (λ x y. x +ℤ y) (pn-is a) (pn-is b) ∙ re-add (pos (PN ρ a).0) (pos (PN ρ a).1) (pos (PN ρ b).0) (pos (PN ρ b).1)
  pn-is (a ⊗ b) = ap₂ (λ x y. x *ℤ y) (pn-is a) (pn-is b) ∙ re-mul (pos (PN ρ a).0) (pos (PN ρ a).1) (pos (PN ρ b).0) (pos (PN ρ b).1)
  pn-is (a ⊖ b) = ap₂ (λ x y. x -ℤ y) (pn-is a) (pn-is b) ∙ re-sub (pos (PN ρ a).0) (pos (PN ρ a).1) (pos (PN ρ b).0) (pos (PN ρ b).1)
  pn-is (neg a) = ap neg_ℤ (pn-is a) ∙ re-neg (pos (PN ρ a).0) (pos (PN ρ a).1)

  -- the parts of z against those of an expression of it
  pub pn : {z : ℤ} (x : Is ρ z) → pz z + (PN ρ x.e).1 ≡ nz z + (PN ρ x.e).0
  pn {z} x = omega (arith, eq-nat (sym x.is ∙ pn-is x.e), sub (pos (PN ρ x.e).0) (pos (PN ρ x.e).1))

  -- an inequality from that of the parts
  pub le-by : {a b : ℤ} (x : Is ρ a) (y : Is ρ b) → (PN ρ x.e).0 + (PN ρ y.e).1 ≤ (PN ρ y.e).0 + (PN ρ x.e).1 → a ≤ℤ b
  le-by x y h = nat_le (omega (arith, pn x, pn y))

  pub lt_by : {a b : ℤ} (x : Is ρ a) (y : Is ρ b) → (PN ρ x.e).0 + (PN ρ y.e).1 < (PN ρ y.e).0 + (PN ρ x.e).1 → a <ℤ b
  lt_by x y h = nat_lt (omega (arith, pn x, pn y))

  -- what an inequality or an equation tells of the parts
  pub le_on : {a b : ℤ} (x : Is ρ a) (y : Is ρ b) → a ≤ℤ b → (PN ρ x.e).0 + (PN ρ y.e).1 ≤ (PN ρ y.e).0 + (PN ρ x.e).1
  le_on x y h = omega (arith, le-nat h, pn x, pn y)

  pub lt-on : {a b : ℤ} (x : Is ρ a) (y : Is ρ b) → a <ℤ b → (PN ρ x.e).0 + (PN ρ y.e).1 < (PN ρ y.e).0 + (PN ρ x.e).1
  lt-on x y h = omega (arith, lt-nat h, pn x, pn y)

  pub eq-on : {a b : ℤ} (x : Is ρ a) (y : Is ρ b) → a ≡ b → (PN ρ x.e).0 + (PN ρ y.e).1 ≡ (PN ρ y.e).0 + (PN ρ x.e).1
  eq-on x y h = omega (arith, eq-nat h, pn x, pn y)
