-- The expression behind an integer, found by `search`: `Is ρ z` is an expression over the list ρ whose value is z.
-- An identity is then `ring (a ∷ b ∷ []) (search reify) (search reify) refl`, where the list has what counts as a variable, at most
-- twelve terms of any form; deep expressions want `search reify depth 12`.
use mathlib.Core.Path.{◌≡◌, refl, sym, ap, ap₂, ◌∙◌}
use mathlib.Core.List.{List, ◌∷◌}
use Prim.Native.Nat.{ℕ}
use lib.IntN.{ℤ, pos, negsuc, neg_ℤ, ◌+ℤ◌, ◌-ℤ◌, ◌*ℤ◌}
use Rattle.whole.proofs.Ring.{E, var, con, ◌⊕◌, ◌⊗◌, ◌⊖◌, neg, eval, norm, ring-eq}

pub record Is (ρ : List ℤ) (z : ℤ) : Type 0 where
  pub e : E
  pub is : eval ρ e ≡ z

module _ {ρ : List ℤ} where
  abbrev pub is-add : {a b : ℤ} → Is ρ a → Is ρ b → Is ρ (a +ℤ b)
  is-add x y = record { e = x.e ⊕ y.e; is = ap₂ (λ p q. p +ℤ q) x.is y.is }

  abbrev pub is-sub : {a b : ℤ} → Is ρ a → Is ρ b → Is ρ (a -ℤ b)
  is-sub x y = record { e = x.e ⊖ y.e; is = ap₂ (λ p q. p -ℤ q) x.is y.is }

  abbrev pub is_mul : {a b : ℤ} → Is ρ a → Is ρ b → Is ρ (a *ℤ b)
  is_mul x y = record { e = x.e ⊗ y.e; is = ap₂ (λ p q. p *ℤ q) x.is y.is }

  abbrev pub is-neg : {a : ℤ} → Is ρ a → Is ρ (neg_ℤ a)
  is-neg x = record { e = neg x.e; is = ap neg_ℤ x.is }

-- numerals, and with them every `pos n`
abbrev pub is_pos : {ρ : List ℤ} {n : ℕ} → Is ρ (pos n)
is_pos {n} = record { e = con (pos n); is = refl }

abbrev pub is-negsuc : {ρ : List ℤ} {n : ℕ} → Is ρ (negsuc n)
is-negsuc {n} = record { e = con (negsuc n); is = refl }

-- the variables
abbrev pub at0 : {x₀ : ℤ} {ρ : List ℤ} → Is (x₀ ∷ ρ) x₀
at0 = record { e = var 0; is = refl }

abbrev pub at1 : {x₀ x₁ : ℤ} {ρ : List ℤ} → Is (x₀ ∷ x₁ ∷ ρ) x₁
at1 = record { e = var 1; is = refl }

abbrev pub at2 : {x₀ x₁ x₂ : ℤ} {ρ : List ℤ} → Is (x₀ ∷ x₁ ∷ x₂ ∷ ρ) x₂
at2 = record { e = var 2; is = refl }

abbrev pub at3 : {x₀ x₁ x₂ x₃ : ℤ} {ρ : List ℤ} → Is (x₀ ∷ x₁ ∷ x₂ ∷ x₃ ∷ ρ) x₃
at3 = record { e = var 3; is = refl }

abbrev pub at4 : {x₀ x₁ x₂ x₃ x₄ : ℤ} {ρ : List ℤ} → Is (x₀ ∷ x₁ ∷ x₂ ∷ x₃ ∷ x₄ ∷ ρ) x₄
at4 = record { e = var 4; is = refl }

abbrev pub at5 : {x₀ x₁ x₂ x₃ x₄ x₅ : ℤ} {ρ : List ℤ} → Is (x₀ ∷ x₁ ∷ x₂ ∷ x₃ ∷ x₄ ∷ x₅ ∷ ρ) x₅
at5 = record { e = var 5; is = refl }

abbrev pub at6 : {x₀ x₁ x₂ x₃ x₄ x₅ x₆ : ℤ} {ρ : List ℤ} → Is (x₀ ∷ x₁ ∷ x₂ ∷ x₃ ∷ x₄ ∷ x₅ ∷ x₆ ∷ ρ) x₆
at6 = record { e = var 6; is = refl }

abbrev pub at7 : {x₀ x₁ x₂ x₃ x₄ x₅ x₆ x₇ : ℤ} {ρ : List ℤ} → Is (x₀ ∷ x₁ ∷ x₂ ∷ x₃ ∷ x₄ ∷ x₅ ∷ x₆ ∷ x₇ ∷ ρ) x₇
at7 = record { e = var 7; is = refl }

abbrev pub at8 : {x₀ x₁ x₂ x₃ x₄ x₅ x₆ x₇ x₈ : ℤ} {ρ : List ℤ} → Is (x₀ ∷ x₁ ∷ x₂ ∷ x₃ ∷ x₄ ∷ x₅ ∷ x₆ ∷ x₇ ∷ x₈ ∷ ρ) x₈
at8 = record { e = var 8; is = refl }

abbrev pub at9 : {x₀ x₁ x₂ x₃ x₄ x₅ x₆ x₇ x₈ x₉ : ℤ} {ρ : List ℤ} → Is (x₀ ∷ x₁ ∷ x₂ ∷ x₃ ∷ x₄ ∷ x₅ ∷ x₆ ∷ x₇ ∷ x₈ ∷ x₉ ∷ ρ) x₉
at9 = record { e = var 9; is = refl }

abbrev pub at10 : {x₀ x₁ x₂ x₃ x₄ x₅ x₆ x₇ x₈ x₉ x₁₀ : ℤ} {ρ : List ℤ} → Is (x₀ ∷ x₁ ∷ x₂ ∷ x₃ ∷ x₄ ∷ x₅ ∷ x₆ ∷ x₇ ∷ x₈ ∷ x₉ ∷ x₁₀ ∷ ρ) x₁₀
at10 = record { e = var 10; is = refl }

abbrev pub at11 : {x₀ x₁ x₂ x₃ x₄ x₅ x₆ x₇ x₈ x₉ x₁₀ x₁₁ : ℤ} {ρ : List ℤ} → Is (x₀ ∷ x₁ ∷ x₂ ∷ x₃ ∷ x₄ ∷ x₅ ∷ x₆ ∷ x₇ ∷ x₈ ∷ x₉ ∷ x₁₀ ∷ x₁₁ ∷ ρ) x₁₁
at11 = record { e = var 11; is = refl }

-- a variable is tried first, so that a compound term in the list stands for itself
pub ruleset reify = (at0, at1, at2, at3, at4, at5, at6, at7, at8, at9, at10, at11, is-sub, is-add, is_mul, is-neg, is_pos, is-negsuc)

-- an identity, by that both sides have one polynomial
pub ring : (ρ : List ℤ) {a b : ℤ} (x : Is ρ a) (y : Is ρ b) → norm x.e ≡ norm y.e → a ≡ b
ring ρ x y h = sym x.is ∙ ring-eq ρ x.e y.e h ∙ y.is
