-- The pieces of a line that are still to come when its beginning is read, and how each grows by a byte in front.
use mathlib.Core.Path.{◌≡◌, refl, ap}
use mathlib.Core.List.{List, [], ◌∷◌, ◌++◌, map}
use Prim.Native.Nat.{ℕ, suc, ◌+◌, ◌*◌, ◌-◌, ◌<◌, ◌≤◌}
use native.Mathlib.Nat.{zero-add}
use native.Mathlib.Omega.{arith}
use lib.ListN.{length}
use lib.IntN.{ℤ}
use Rattle.matrix.specs.Bytes.{minus, digit_byte}
use Rattle.wellformed.specs.Grammar.{Blanks, none, a_space, a_tab, Separator, by_space, by_tab, AllDigits, said, Count, Number, plain, negative, Numbers}
use Rattle.wellformed.specs.Grammar.{HeaderLine, header}
use Rattle.matrix.proofs.ByteKinds.{IsBlank, is_space, is_tab}

pub blanks-blank : {b : ℕ} {bytes : List ℕ} → IsBlank b → Blanks bytes → Blanks (b ∷ bytes)
blanks-blank is_space blanks = a_space blanks
blanks-blank is_tab blanks = a_tab blanks

pub separates : {b : ℕ} {bytes : List ℕ} → IsBlank b → Blanks bytes → Separator (b ∷ bytes)
separates is_space blanks = by_space blanks
separates is_tab blanks = by_tab blanks

-- ---- the other digits of a number, when `had` digits are read and say `value`; in the end the number says `whole`
pub record More (had value whole : ℕ) (bytes : List ℕ) : Type 0 where
  pub digits : List ℕ
  pub each : AllDigits digits
  pub few : length digits ≤ 10 - had
  pub shown : bytes ≡ map digit_byte digits
  pub says : whole ≡ said value digits

pub no_more : (had value : ℕ) → More had value value []
unfolding said
no_more had value = record { digits = []; each = tt; few = omega arith; shown = refl; says = refl }

pub more-digit : {had value whole : ℕ} {bytes : List ℕ} (d : ℕ) → d < 10 → had < 10
    → More (had + 1) (value * 10 + d) whole bytes → More had value whole (digit_byte d ∷ bytes)
unfolding said
more-digit d low room m = record {
  digits = d ∷ m.digits;
  each = (low, m.each);
  few = omega arith;
  shown = ap (λ l. digit_byte d ∷ l) m.shown;
  says = m.says;
}

-- behind its first digit
pub more-count : {whole : ℕ} {bytes : List ℕ} (d : ℕ) → d < 10 → More 1 d whole bytes → Count whole (digit_byte d ∷ bytes)
unfolding said
more-count d low m = record {
  digits = d ∷ m.digits;
  each = (low, m.each);
  some = omega arith;
  few = omega arith;
  shown = ap (λ l. digit_byte d ∷ l) m.shown;
  says = rw zero-add m.says;
}

-- ---- numbers of a row

-- so many numbers, each behind a separator
pub record Counted (count : ℕ) (bytes : List ℕ) : Type 0 where
  pub numbers : List ℤ
  pub long : length numbers ≡ count
  pub are : Numbers numbers bytes

-- the same behind a blank: the separator has begun
pub data Spaced : ℕ → List ℕ → Type 0 where
  over : {bytes : List ℕ} → Blanks bytes → Spaced 0 bytes
  more : {z : ℤ} {count : ℕ} {gap number rest : List ℕ} → Blanks gap → Number z number → Counted count rest → Spaced (suc count) (gap ++ (number ++ rest))

-- the same inside a number, and behind its minus
pub data InNumber (had value count : ℕ) : List ℕ → Type 0 where
  in_number : {whole : ℕ} {tail rest : List ℕ} → More had value whole tail → Counted count rest → InNumber had value count (tail ++ rest)

pub data AfterMinus (count : ℕ) : List ℕ → Type 0 where
  after_minus : {whole : ℕ} {number rest : List ℕ} → Count whole number → Counted count rest → AfterMinus count (number ++ rest)

pub counted_none : {bytes : List ℕ} → Blanks bytes → Counted 0 bytes
counted_none blanks = record { numbers = []; long = refl; are = Numbers.end blanks }

pub spaced-blank : {b count : ℕ} {bytes : List ℕ} → IsBlank b → Spaced count bytes → Spaced count (b ∷ bytes)
spaced-blank blank (over blanks) = over (blanks-blank blank blanks)
spaced-blank blank (more gap number rest) = more (blanks-blank blank gap) number rest

pub counted-blank : {b count : ℕ} {bytes : List ℕ} → IsBlank b → Spaced count bytes → Counted count (b ∷ bytes)
counted-blank blank (over blanks) = counted_none (blanks-blank blank blanks)
counted-blank blank (more {z = z} gap number rest) = record {
  numbers = z ∷ rest.numbers;
  long = ap suc rest.long;
  are = Numbers.next (separates blank gap) number rest.are;
}

pub spaced-digit : {count : ℕ} {bytes : List ℕ} (d : ℕ) → d < 10 → InNumber 1 d count bytes → Spaced (suc count) (digit_byte d ∷ bytes)
spaced-digit d low (in_number tail rest) = more none (plain (more-count d low tail)) rest

pub spaced-minus : {count : ℕ} {bytes : List ℕ} → AfterMinus count bytes → Spaced (suc count) (minus ∷ bytes)
spaced-minus (after_minus number rest) = more none (negative number) rest

pub minus-digit : {count : ℕ} {bytes : List ℕ} (d : ℕ) → d < 10 → InNumber 1 d count bytes → AfterMinus count (digit_byte d ∷ bytes)
minus-digit d low (in_number tail rest) = after_minus (more-count d low tail) rest

pub number-digit : {had value count : ℕ} {bytes : List ℕ} (d : ℕ) → d < 10 → had < 10
    → InNumber (had + 1) (value * 10 + d) count bytes → InNumber had value count (digit_byte d ∷ bytes)
number-digit d low room (in_number tail rest) = in_number (more-digit d low room tail) rest

pub number-over : (had value : ℕ) {count : ℕ} {bytes : List ℕ} → Counted count bytes → InNumber had value count bytes
number-over had value rest = in_number (no_more had value) rest

-- ---- the header line: inside its second count, behind a blank in front of that, and inside the first count

pub data InSecond (had value : ℕ) : ℕ → List ℕ → Type 0 where
  in_second : {columns : ℕ} {tail trail : List ℕ} → More had value columns tail → Blanks trail → InSecond had value columns (tail ++ trail)

pub data ToSecond : ℕ → List ℕ → Type 0 where
  to_second : {columns : ℕ} {gap second trail : List ℕ} → Blanks gap → Count columns second → Blanks trail → ToSecond columns (gap ++ (second ++ trail))

pub data InFirst (had value : ℕ) : ℕ → ℕ → List ℕ → Type 0 where
  in_first : {rows columns : ℕ} {tail gap second trail : List ℕ} → More had value rows tail → Separator gap → Count columns second → Blanks trail
      → InFirst had value rows columns (tail ++ (gap ++ (second ++ trail)))

pub second-digit : {had value columns : ℕ} {bytes : List ℕ} (d : ℕ) → d < 10 → had < 10
    → InSecond (had + 1) (value * 10 + d) columns bytes → InSecond had value columns (digit_byte d ∷ bytes)
second-digit d low room (in_second tail trail) = in_second (more-digit d low room tail) trail

pub second-over : (had value : ℕ) {bytes : List ℕ} → Blanks bytes → InSecond had value value bytes
second-over had value trail = in_second (no_more had value) trail

pub second-begins : {columns : ℕ} {bytes : List ℕ} (d : ℕ) → d < 10 → InSecond 1 d columns bytes → ToSecond columns (digit_byte d ∷ bytes)
second-begins d low (in_second tail trail) = to_second none (more-count d low tail) trail

pub to-blank : {b columns : ℕ} {bytes : List ℕ} → IsBlank b → ToSecond columns bytes → ToSecond columns (b ∷ bytes)
to-blank blank (to_second gap second trail) = to_second (blanks-blank blank gap) second trail

pub first-over : (had value : ℕ) {b columns : ℕ} {bytes : List ℕ} → IsBlank b → ToSecond columns bytes → InFirst had value value columns (b ∷ bytes)
first-over had value blank (to_second gap second trail) = in_first (no_more had value) (separates blank gap) second trail

pub first-digit : {had value rows columns : ℕ} {bytes : List ℕ} (d : ℕ) → d < 10 → had < 10
    → InFirst (had + 1) (value * 10 + d) rows columns bytes → InFirst had value rows columns (digit_byte d ∷ bytes)
first-digit d low room (in_first tail gap second trail) = in_first (more-digit d low room tail) gap second trail

pub header-begins : {rows columns : ℕ} {bytes : List ℕ} (d : ℕ) → d < 10 → InFirst 1 d rows columns bytes → HeaderLine rows columns (digit_byte d ∷ bytes)
header-begins d low (in_first tail gap second trail) = header none (more-count d low tail) gap second trail
