-- Division toward zero and its remainder, `quot_z` and `rem_z`, which the language's `/` and `%` of signed numbers are.
use mathlib.Core.Path.{◌≡◌, refl, sym, ap, ◌∙◌}
use mathlib.Core.List.{[], ◌∷◌}
use Prim.Native.Nat.{ℕ, suc, ◌/◌, ◌%◌, ◌≤◌, ◌<◌}
use native.Mathlib.Nat.{div-add-mod', mod-lt, div-le_self, mod-le}
use lib.IntN.{ℤ, pos, negsuc, neg_ℤ, nat_abs, ◌+ℤ◌, ◌*ℤ◌}
use lib.Signed.{quot_z, rem_z}
use Rattle.whole.proofs.Integers.{nat_abs-neg}
use Rattle.whole.proofs.Reify.{reify, ring}

div-pos : (a b : ℕ) → pos a ≡ pos (a / b) *ℤ pos b +ℤ pos (a % b)
div-pos a b = ap pos (sym (div-add-mod' a b))

-- the same with other signs: each line is taken at numbers whose signs then compute
module _ (x q b r : ℤ) (e : x ≡ q *ℤ b +ℤ r) where
  divisor : x ≡ neg_ℤ q *ℤ neg_ℤ b +ℤ r
  divisor = e ∙ ring (q ∷ b ∷ r ∷ []) (search reify) (search reify) refl

  dividend : neg_ℤ x ≡ neg_ℤ q *ℤ b +ℤ neg_ℤ r
  dividend = ap neg_ℤ e ∙ ring (q ∷ b ∷ r ∷ []) (search reify) (search reify) refl

  both : neg_ℤ x ≡ q *ℤ neg_ℤ b +ℤ neg_ℤ r
  both = ap neg_ℤ e ∙ ring (q ∷ b ∷ r ∷ []) (search reify) (search reify) refl

-- also where the divisor is 0, which leaves all
pub quot-rem : (a b : ℤ) → a ≡ quot_z a b *ℤ b +ℤ rem_z a b
quot-rem (pos a) (pos b) = div-pos a b
quot-rem (pos a) (negsuc b) = divisor (pos a) (pos (a / suc b)) (pos (suc b)) (pos (a % suc b)) (div-pos a (suc b))
quot-rem (negsuc a) (pos b) = dividend (pos (suc a)) (pos (suc a / b)) (pos b) (pos (suc a % b)) (div-pos (suc a) b)
quot-rem (negsuc a) (negsuc b) = both (pos (suc a)) (pos (suc a / suc b)) (pos (suc b)) (pos (suc a % suc b)) (div-pos (suc a) (suc b))

-- absolute values divide as they are
pub quot-abs : (a b : ℤ) → nat_abs (quot_z a b) ≡ nat_abs a / nat_abs b
quot-abs (pos a) (pos b) = refl
quot-abs (pos a) (negsuc b) = nat_abs-neg (pos (a / suc b))
quot-abs (negsuc a) (pos b) = nat_abs-neg (pos (suc a / b))
quot-abs (negsuc a) (negsuc b) = refl

pub rem-abs : (a b : ℤ) → nat_abs (rem_z a b) ≡ nat_abs a % nat_abs b
rem-abs (pos a) b = refl
rem-abs (negsuc a) b = nat_abs-neg (pos (suc a % nat_abs b))

pub quot_le : (a b : ℤ) → nat_abs (quot_z a b) ≤ nat_abs a
quot_le a b = rw (quot-abs a b) (div-le_self (nat_abs a) (nat_abs b))

pub rem-le : (a b : ℤ) → nat_abs (rem_z a b) ≤ nat_abs a
rem-le a b = rw (rem-abs a b) (mod-le (nat_abs a) (nat_abs b))

pub rem-less : (a b : ℤ) → 0 < nat_abs b → nat_abs (rem_z a b) < nat_abs b
rem-less a b h = rw (rem-abs a b) (mod-lt (nat_abs a) h)
