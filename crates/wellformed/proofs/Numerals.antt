-- A number is printed by the digits that say it, in the sense in which the grammar reads them.
use mathlib.Core.Bool.{Bool, true, false, cond}
use mathlib.Core.Path.{◌≡◌, refl, ap, ◌∙◌}
use mathlib.Core.List.{List, [], ◌∷◌, ◌++◌, map}
use Prim.Native.Nat.{ℕ, zero, suc, ◌+◌, ◌*◌, ◌/◌, ◌%◌, ◌<◌, ◌^◌}
use native.Mathlib.Nat.{pow-suc}
use native.Mathlib.Omega.{arith}
use borrow.Author.Tests.{ltb-true}
use lib.Dec.{ltb}
use Rattle.matrix.specs.Bytes.{digit_byte}
use Rattle.wellformed.specs.Grammar.{AllDigits, said, Numeral}
use Rattle.matrix.specs.Printed.{decimal_in, decimal}

-- ---- one digit more, at the end

said_more : (before : ℕ) (digits : List ℕ) (d : ℕ) → said before (digits ++ d ∷ []) ≡ said before digits * 10 + d
unfolding said
said_more before [] d = refl
said_more before (e ∷ digits) d = said_more (before * 10 + e) digits d

each_more : (digits : List ℕ) (d : ℕ) → AllDigits digits → d < 10 → AllDigits (digits ++ d ∷ [])
each_more [] d h l = (l, tt)
each_more (e ∷ digits) d h l = (h.0, each_more digits d h.1 l)

shown-more : (digits : List ℕ) (d : ℕ) → map digit_byte digits ++ digit_byte d ∷ [] ≡ map digit_byte (digits ++ d ∷ [])
shown-more [] d = refl
shown-more (e ∷ digits) d = ap (λ (l : List ℕ). digit_byte e ∷ l) (shown-more digits d)

more : (x : ℕ) (bytes : List ℕ) → Numeral (x / 10) bytes → Numeral x (bytes ++ digit_byte (x % 10) ∷ [])
more x bytes n =
    record {
      digits = n.digits ++ x % 10 ∷ [];
      each = each_more n.digits (x % 10) n.each (omega arith);
      shown = rw n.shown (shown-more n.digits (x % 10));
      says = said_more 0 n.digits (x % 10) ∙ rw n.says (omega arith);
    }

one : (x : ℕ) → x < 10 → Numeral x (digit_byte x ∷ [])
unfolding said
one x h = record { digits = x ∷ []; each = (h, tt); shown = refl; says = omega arith }

in-places : (places x : ℕ) → x < 10 ^ places → Numeral x (decimal_in places x)
unfolding decimal_in said
in-places zero x h = record { digits = []; each = tt; shown = refl; says = omega arith }
in-places (suc places) x h = cases (ltb x 10) refl (in-places places (x / 10) (omega (arith, rw (pow-suc 10 places) at h)))
  where
    cases : (t : Bool) → ltb x 10 ≡ t → Numeral (x / 10) (decimal_in places (x / 10))
        → Numeral x (cond t (digit_byte x ∷ []) (decimal_in places (x / 10) ++ digit_byte (x % 10) ∷ []))
    cases true e n = one x (ltb-true x 10 e)
    cases false e n = more x (decimal_in places (x / 10)) n

pub decimal-says : (x : ℕ) → x < 10 ^ 20 → Numeral x (decimal x)
unfolding decimal
decimal-says x h = in-places 20 x h
