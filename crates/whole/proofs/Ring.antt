-- A solver for identities of integers. `E` is an expression over numbered variables and `norm` its polynomial, a sorted list of
-- monomials with coefficients that are not 0. An expression's value is its polynomial's (`sound`), so two expressions with one
-- polynomial have the same value: `ring-eq`, where that they have one polynomial computes.
use mathlib.Core.Path.{◌≡◌, refl, sym, ap, ap₂, ◌∙◌, subst}
use mathlib.Core.List.{List, [], ◌∷◌}
use mathlib.Core.Bool.{Bool, true, false}
use Prim.Native.Nat.{ℕ, zero, suc, compare, Ordering}
use lib.Dec.{T, leb, compare_is_eq, eqb→eq}
use lib.ListN.{get_or}
use lib.IntN.{ℤ, pos, negsuc, neg_ℤ, one, ◌+ℤ◌, ◌-ℤ◌, ◌*ℤ◌}
use lib.IntN.{+ℤ_comm, +ℤ_assoc, +ℤ_idl, +ℤ_idr, *ℤ_comm, zero-*ℤ, *ℤ-zero, *ℤ-one, neg_ℤ-+ℤ}
use Rattle.whole.proofs.Integers.{+ℤ-left-comm, *ℤ-left-comm, *ℤ-assoc, *ℤ-distr-l, *ℤ-distr-r, negℤ-*ℤ}

-- to sort sums of products in which nothing cancels: enough for the solver itself
ruleset sorted = (+ℤ_assoc, +ℤ_comm, +ℤ-left-comm, *ℤ-assoc, *ℤ_comm, *ℤ-left-comm, *ℤ-distr-l, *ℤ-distr-r)

infixl 6 ◌⊕◌ ◌⊖◌
infixl 7 ◌⊗◌
pub data E : Type 0 where
  var : ℕ → E
  con : ℤ → E
  ◌⊕◌ ◌⊗◌ ◌⊖◌ : E → E → E
  neg : E → E

-- the variable i, where ρ has what the variables are
abbrev pub at : List ℤ → ℕ → ℤ
at ρ i = get_or ρ i (pos 0)

abbrev pub eval : List ℤ → E → ℤ
eval ρ (var i) = at ρ i
eval ρ (con c) = c
eval ρ (a ⊕ b) = eval ρ a +ℤ eval ρ b
eval ρ (a ⊗ b) = eval ρ a *ℤ eval ρ b
eval ρ (a ⊖ b) = eval ρ a -ℤ eval ρ b
eval ρ (neg a) = neg_ℤ (eval ρ a)

-- ---- monomials: a sorted list of variables, the empty one being 1
eval_m : List ℤ → List ℕ → ℤ
eval_m ρ [] = pos 1
eval_m ρ (i ∷ m) = at ρ i *ℤ eval_m ρ m

abbrev ins_m : ℕ → List ℕ → List ℕ
ins_m i [] = i ∷ []
ins_m i (j ∷ m) = elim (leb i j) [ true ↦ i ∷ j ∷ m | false ↦ j ∷ ins_m i m ]

abbrev mul_m : List ℕ → List ℕ → List ℕ
mul_m [] n = n
mul_m (i ∷ m) n = ins_m i (mul_m m n)

-- the order of the first variables, and where those are the same, of the rest
abbrev first : Ordering → Ordering → Ordering
first Ordering.lt o = Ordering.lt
first Ordering.eq o = o
first Ordering.gt o = Ordering.gt

abbrev cmp_m : List ℕ → List ℕ → Ordering
cmp_m [] [] = Ordering.eq
cmp_m [] (j ∷ n) = Ordering.lt
cmp_m (i ∷ m) [] = Ordering.gt
cmp_m (i ∷ m) (j ∷ n) = first (compare i j) (cmp_m m n)

-- ---- polynomials: terms sorted by their monomials
pub data Poly : Type 0 where
  nil : Poly
  term : ℤ → List ℕ → Poly → Poly

-- a term before a polynomial, unless its coefficient is 0
abbrev put : ℤ → List ℕ → Poly → Poly
put (pos zero) m p = p
put (pos (suc k)) m p = term (pos (suc k)) m p
put (negsuc k) m p = term (negsuc k) m p

abbrev ins_p : ℤ → List ℕ → Poly → Poly
ins_p c m nil = put c m nil
ins_p c m (term d n p) = elim (cmp_m m n) [
  | Ordering.lt ↦ term c m (term d n p)
  | Ordering.eq ↦ put (c +ℤ d) m p
  | Ordering.gt ↦ term d n (ins_p c m p)
]

abbrev add_p : Poly → Poly → Poly
add_p nil q = q
add_p (term c m p) q = ins_p c m (add_p p q)

abbrev scale_p : ℤ → List ℕ → Poly → Poly
scale_p c m nil = nil
scale_p c m (term d n p) = ins_p (c *ℤ d) (mul_m m n) (scale_p c m p)

abbrev mul_p : Poly → Poly → Poly
mul_p nil q = nil
mul_p (term c m p) q = add_p (scale_p c m q) (mul_p p q)

abbrev neg_p : Poly → Poly
neg_p nil = nil
neg_p (term c m p) = term (neg_ℤ c) m (neg_p p)

abbrev pub norm : E → Poly
norm (var i) = term (pos 1) (i ∷ []) nil
norm (con c) = put c [] nil
norm (a ⊕ b) = add_p (norm a) (norm b)
norm (a ⊗ b) = mul_p (norm a) (norm b)
norm (a ⊖ b) = add_p (norm a) (neg_p (norm b))
norm (neg a) = neg_p (norm a)

-- ---- monomials that compare as equal are equal
compare-eq : (i j : ℕ) → compare i j ≡ Ordering.eq → i ≡ j
compare-eq i j e = eqb→eq i j (subst (λ (o : Ordering). T (compare_is_eq o)) (sym e) tt)

cmp_m-eq : (m n : List ℕ) → cmp_m m n ≡ Ordering.eq → m ≡ n
cmp_m-eq [] [] e = refl
cmp_m-eq [] (j ∷ n) e = cc
cmp_m-eq (i ∷ m) [] e = cc
cmp_m-eq (i ∷ m) (j ∷ n) e = go (compare i j) refl (cmp_m-eq m n) e
  where
    go : (o : Ordering) → compare i j ≡ o → (cmp_m m n ≡ Ordering.eq → m ≡ n) → first o (cmp_m m n) ≡ Ordering.eq → i ∷ m ≡ j ∷ n
    go Ordering.lt c ih e = cc
    go Ordering.eq c ih e = ap₂ (λ x y. x ∷ y) (compare-eq i j c) (ih e)
    go Ordering.gt c ih e = cc

-- ---- the value of a polynomial, and that each step above keeps it
eval_p : List ℤ → Poly → ℤ
eval_p ρ nil = pos 0
eval_p ρ (term c m p) = c *ℤ eval_m ρ m +ℤ eval_p ρ p

one-*ℤ : (a : ℤ) → pos 1 *ℤ a ≡ a
unfolding one
one-*ℤ a = *ℤ_comm (pos 1) a ∙ *ℤ-one a

module _ (ρ : List ℤ) where
  ins_m-is : (i : ℕ) (m : List ℕ) → eval_m ρ (ins_m i m) ≡ at ρ i *ℤ eval_m ρ m
  unfolding eval_m
  ins_m-is i [] = refl
  ins_m-is i (j ∷ m) = go (leb i j) (ins_m-is i m)
    where
      go : (b : Bool) → eval_m ρ (ins_m i m) ≡ at ρ i *ℤ eval_m ρ m → eval_m ρ (elim b [ true ↦ i ∷ j ∷ m | false ↦ j ∷ ins_m i m ]) ≡ at ρ i *ℤ (at ρ j *ℤ eval_m ρ m)
      go true h = refl
      go false h = rw h (*ℤ-left-comm (at ρ j) (at ρ i) (eval_m ρ m))

  mul_m-is : (m n : List ℕ) → eval_m ρ (mul_m m n) ≡ eval_m ρ m *ℤ eval_m ρ n
  unfolding eval_m
  mul_m-is [] n = sym (one-*ℤ (eval_m ρ n))
  mul_m-is (i ∷ m) n = ins_m-is i (mul_m m n) ∙ rw (mul_m-is m n) (sym (*ℤ-assoc (at ρ i) (eval_m ρ m) (eval_m ρ n)))

  put_is : (c : ℤ) (m : List ℕ) (p : Poly) → eval_p ρ (put c m p) ≡ c *ℤ eval_m ρ m +ℤ eval_p ρ p
  unfolding eval_p
  put_is (pos zero) m p = sym (rw (zero-*ℤ (eval_m ρ m)) (+ℤ_idl (eval_p ρ p)))
  put_is (pos (suc k)) m p = refl
  put_is (negsuc k) m p = refl

  ins_p-is : (c : ℤ) (m : List ℕ) (p : Poly) → eval_p ρ (ins_p c m p) ≡ c *ℤ eval_m ρ m +ℤ eval_p ρ p
  unfolding eval_p
  ins_p-is c m nil = put_is c m nil
  ins_p-is c m (term d n p) = go (cmp_m m n) refl (ins_p-is c m p)
    where
      all : Ordering → Poly
      all o = elim o [ Ordering.lt ↦ term c m (term d n p) | Ordering.eq ↦ put (c +ℤ d) m p | Ordering.gt ↦ term d n (ins_p c m p) ]

      go : (o : Ordering) → cmp_m m n ≡ o → eval_p ρ (ins_p c m p) ≡ c *ℤ eval_m ρ m +ℤ eval_p ρ p → eval_p ρ (all o) ≡ c *ℤ eval_m ρ m +ℤ (d *ℤ eval_m ρ n +ℤ eval_p ρ p)
      go Ordering.lt e h = refl
      go Ordering.eq e h = rw (put_is (c +ℤ d) m p, ← (cmp_m-eq m n e)) (simp sorted)
      go Ordering.gt e h = rw h (simp sorted)

  add_p-is : (p q : Poly) → eval_p ρ (add_p p q) ≡ eval_p ρ p +ℤ eval_p ρ q
  unfolding eval_p
  add_p-is nil q = sym (+ℤ_idl (eval_p ρ q))
  add_p-is (term c m p) q = ins_p-is c m (add_p p q) ∙ rw (add_p-is p q) (sym (+ℤ_assoc (c *ℤ eval_m ρ m) (eval_p ρ p) (eval_p ρ q)))

  scale_p-is : (c : ℤ) (m : List ℕ) (p : Poly) → eval_p ρ (scale_p c m p) ≡ c *ℤ eval_m ρ m *ℤ eval_p ρ p
  unfolding eval_p
  scale_p-is c m nil = sym (*ℤ-zero (c *ℤ eval_m ρ m))
  scale_p-is c m (term d n p) =
      ins_p-is (c *ℤ d) (mul_m m n) (scale_p c m p) ∙ rw (mul_m-is m n, scale_p-is c m p) (re c d (eval_m ρ m) (eval_m ρ n) (eval_p ρ p))
    where
      re : (c d m n p : ℤ) → c *ℤ d *ℤ (m *ℤ n) +ℤ c *ℤ m *ℤ p ≡ c *ℤ m *ℤ (d *ℤ n +ℤ p)
      re c d m n p = simp sorted

  mul_p-is : (p q : Poly) → eval_p ρ (mul_p p q) ≡ eval_p ρ p *ℤ eval_p ρ q
  unfolding eval_p
  mul_p-is nil q = sym (zero-*ℤ (eval_p ρ q))
  mul_p-is (term c m p) q =
      add_p-is (scale_p c m q) (mul_p p q) ∙ rw (scale_p-is c m q, mul_p-is p q) (sym (*ℤ-distr-r (c *ℤ eval_m ρ m) (eval_p ρ p) (eval_p ρ q)))

  neg_p-is : (p : Poly) → eval_p ρ (neg_p p) ≡ neg_ℤ (eval_p ρ p)
  unfolding eval_p
  neg_p-is nil = refl
  neg_p-is (term c m p) = rw (negℤ-*ℤ c (eval_m ρ m), neg_p-is p) (sym (neg_ℤ-+ℤ (c *ℤ eval_m ρ m) (eval_p ρ p)))

  sound : (e : E) → eval ρ e ≡ eval_p ρ (norm e)
  unfolding eval_p eval_m
  sound (var i) = sym (rw (+ℤ_idr (pos 1 *ℤ (at ρ i *ℤ pos 1)), one-*ℤ (at ρ i *ℤ pos 1), *ℤ_comm (at ρ i) (pos 1)) (one-*ℤ (at ρ i)))
  sound (con c) = sym (put_is c [] nil ∙ rw (+ℤ_idr (c *ℤ pos 1), *ℤ_comm c (pos 1)) (one-*ℤ c))
  sound (a ⊕ b) = rw (sound a, sound b) (sym (add_p-is (norm a) (norm b)))
  sound (a ⊗ b) = rw (sound a, sound b) (sym (mul_p-is (norm a) (norm b)))
  sound (a ⊖ b) = rw (sound a, sound b) (sym (add_p-is (norm a) (neg_p (norm b)) ∙ rw (neg_p-is (norm b))))
  sound (neg a) = rw (sound a) (sym (neg_p-is (norm a)))

  pub ring-eq : (a b : E) → norm a ≡ norm b → eval ρ a ≡ eval ρ b
  ring-eq a b e = sound a ∙ ap (eval_p ρ) e ∙ sym (sound b)
