-- An answer by its eight parts, and the answer whose result tables are all zeros.
use mathlib.Core.Path.{◌≡◌, ap, ◌∙◌}
use mathlib.Core.List.{List}
use Prim.Native.Nat.{ℕ, suc, ◌*◌}
use lib.ListN.{replicate}
use lib.IntN.{ℤ, pos}
use Rattle.rows.specs.Row.{zeros}
use Rattle.rules.specs.declared.Outcome.{Outcome}
use Rattle.rules.specs.Outcomes.{blank}
use Rattle.outcomes.specs.Answered.{answer}

-- equal parts make equal answers
pub same_answer : {outcome outcome' : Outcome} {substitution substitution' : List ℤ} {marks marks' : List ℕ} {way_back way_back' : List ℤ}
    {reasons reasons' : List ℤ} {conflict conflict' : List ℤ} {tightened tightened' : List ℤ} {used used' : List ℕ}
    → outcome ≡ outcome' → substitution ≡ substitution' → marks ≡ marks' → way_back ≡ way_back'
    → reasons ≡ reasons' → conflict ≡ conflict' → tightened ≡ tightened' → used ≡ used'
    → answer outcome substitution marks way_back reasons conflict tightened used
    ≡ answer outcome' substitution' marks' way_back' reasons' conflict' tightened' used'
same_answer o s m b r c t u = λ i. answer (o i) (s i) (m i) (b i) (r i) (c i) (t i) (u i)

-- tables of zeros of the right lengths: in the form in which `clear` tells of them
module _ (n m k : ℕ) {outcome outcome' : Outcome} {substitution : List ℤ} {marks : List ℕ} {way_back reasons conflict tightened : List ℤ}
    {used : List ℕ} {a b c d e f g : ℕ} where
  pub all-blank : outcome ≡ outcome'
      → (substitution ≡ replicate a (pos 0)) × (marks ≡ replicate b 0) × (way_back ≡ replicate c (pos 0)) × (reasons ≡ replicate d (pos 0))
      → (conflict ≡ replicate e (pos 0)) × (tightened ≡ replicate f (pos 0)) × (used ≡ replicate g 0)
      → (a ≡ n * suc n) × (b ≡ n) × (c ≡ n * suc n) × (d ≡ n * suc m) × (e ≡ suc m) × (f ≡ k * suc n) × (g ≡ k)
      → answer outcome substitution marks way_back reasons conflict tightened used
      ≡ record { outcome = outcome'; results = blank n m k }
  unfolding blank zeros
  all-blank o (s, q, w, r) (x, t, u) (la, lb, lc, ld, le, lf, lg) =
      same_answer o (s ∙ long la) (q ∙ ap (λ (l : ℕ). replicate l 0) lb) (w ∙ long lc) (r ∙ long ld) (x ∙ long le) (t ∙ long lf)
      (u ∙ ap (λ (l : ℕ). replicate l 0) lg)
    where
      long : {l l' : ℕ} → l ≡ l' → ◌≡◌ {A = List ℤ} (replicate l (pos 0)) (replicate l' (pos 0))
      long h = ap (λ (l : ℕ). replicate l (pos 0)) h
