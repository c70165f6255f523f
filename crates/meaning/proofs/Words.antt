-- The first words of a reply tell its kinds apart.
use mathlib.Core.Bool.{Bool, true, false, cond}
use mathlib.Core.Path.{◌≡◌, refl}
use mathlib.Core.List.{List, ◌++◌, head-eq_of_cons-eq, tail-eq_of_cons-eq}
use Prim.Native.Nat.{ℕ}
use native.Mathlib.Omega.{arith}
use borrow.Author.Tests.{eqb-true}
use lib.Dec.{eqb}
use Rattle.rules.specs.declared.Refusal.{Refusal}
use Rattle.matrix.specs.Printed.{error, unsat, sat, unknown, open_word}

-- a refusal begins with a bracket
pub error-not-unsat : (refusal : Refusal) (line : List ℕ) → error refusal ≡ unsat ++ line → ⊥
unfolding error
error-not-unsat refusal line e = let bad : ◌≡◌ {A = ℕ} 40 117 = head-eq_of_cons-eq e in omega arith

pub error-not-sat : (refusal : Refusal) (rest : List ℕ) → error refusal ≡ sat ++ rest → ⊥
unfolding error
error-not-sat refusal rest e = let bad : ◌≡◌ {A = ℕ} 40 115 = head-eq_of_cons-eq e in omega arith

pub unsat-not-sat : (line rest : List ℕ) → unsat ++ line ≡ sat ++ rest → ⊥
unsat-not-sat line rest e = let bad : ◌≡◌ {A = ℕ} 117 115 = head-eq_of_cons-eq e in omega arith

-- an open outcome's word is sat or unknown
pub open-not-unsat : (k : ℕ) (matrices line : List ℕ) → open_word k ++ matrices ≡ unsat ++ line → ⊥
open-not-unsat k matrices line = go (eqb k 0)
  where
    go : (none : Bool) → cond none sat unknown ++ matrices ≡ unsat ++ line → ⊥
    go true e = let bad : ◌≡◌ {A = ℕ} 115 117 = head-eq_of_cons-eq e in omega arith
    go false e = let bad : ◌≡◌ {A = ℕ} 107 115 = head-eq_of_cons-eq (tail-eq_of_cons-eq (tail-eq_of_cons-eq e)) in omega arith

-- sat, and then there is no inequality
pub open-sat : (k : ℕ) (matrices rest : List ℕ) → open_word k ++ matrices ≡ sat ++ rest → k ≡ 0
open-sat k matrices rest = go (eqb k 0) refl
  where
    go : (none : Bool) → eqb k 0 ≡ none → cond none sat unknown ++ matrices ≡ sat ++ rest → k ≡ 0
    go true is e = eqb-true k 0 is
    go false is e = let bad : ◌≡◌ {A = ℕ} 117 115 = head-eq_of_cons-eq e in omega arith
