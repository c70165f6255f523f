-- Laws of `bounded`, that no number of a row is further from 0 than a bound: what it says of each number, and which steps keep it.
use mathlib.Core.Path.{◌≡◌, refl, sym, ap, ◌∙◌}
use mathlib.Core.Bool.{Bool, true, false, ◌&&◌, and_assoc, cond}
use mathlib.Core.List.{List, [], ◌∷◌, ◌++◌, map}
use Prim.Native.Nat.{ℕ, zero, suc, ◌+◌, ◌*◌, ◌≤◌, ◌<◌, zero-le}
use native.Mathlib.Nat.{le_trans, le-add_right, add-le-add, suc-mul, mul-le-mul, zero-lt-suc}
use native.Mathlib.Omega.{arith}
use borrow.Author.Tests.{leb-true, le-leb}
use lib.Dec.{leb, eqb, eqb-suc-suc, eqb-zero-suc}
use lib.ListN.{length, take, drop, set, replicate, take-append-drop}
use lib.IntN.{ℤ, pos, neg_ℤ, nat_abs, ◌-ℤ◌, ◌*ℤ◌}
use mir.Facts.{to_z-of_z}
use mir.Syntax.{w64}
use mir.Val.{to_z, of_z}
use Rattle.std.specs.List.{list_all}
use Rattle.whole.specs.Limit.{W, within}
use Rattle.whole.specs.Gcd.{gcd}
use Rattle.whole.specs.Quotient.{quotient, exactly}
use Rattle.whole.proofs.Bounds.{fits-abs}
use Rattle.whole.proofs.Integers.{nat_abs-neg, nat_abs-*, nat_abs--}
use Rattle.whole.proofs.GcdLaws.{gcd-zero-l, gcd-le}
use Rattle.whole.proofs.QuotientLaws.{quotient_le, exactly-le}
use Rattle.rows.specs.Row.{at, zeros, unit_row, gcd_of, less, quotients, divided, gathered, bounded, all_within, first_beyond}
use Rattle.rows.specs.Table.{flat, rows_of}
use Rattle.rows.proofs.Sweep.{Swept, swept-read}

-- ---- a conjunction that is true
pub and_left : (a b : Bool) → a && b ≡ true → a ≡ true
and_left true b e = refl
and_left false b e = e

pub and_right : (a b : Bool) → a && b ≡ true → b ≡ true
and_right true b e = e
and_right false b e = cc

pub and_both : {a b : Bool} → a ≡ true → b ≡ true → a && b ≡ true
and_both e h = rw e h

-- ---- what it says of each number, also past the end, where the number is 0
pub bounded_at : (B : ℕ) (row : List ℤ) (i : ℕ) → bounded B row ≡ true → nat_abs (at row i) ≤ B
unfolding bounded
bounded_at B [] i e = zero-le
bounded_at B (a ∷ row) zero e = leb-true (nat_abs a) B (and_left (leb (nat_abs a) B) (bounded B row) e)
bounded_at B (a ∷ row) (suc i) e = bounded_at B row i (and_right (leb (nat_abs a) B) (bounded B row) e)

-- a number of a row is read back from its bits as it is
pub bounded-back : (B : ℕ) (row : List ℤ) (i : ℕ) → bounded B row ≡ true → B < 9223372036854775808 → to_z w64 (of_z w64 (at row i)) ≡ at row i
bounded-back B row i e h = to_z-of_z (fits-abs (at row i) (omega (arith, bounded_at B row i e)))

-- the same in a sweep, where the number that is read is the one that stood there at first
pub swept-back : (B : ℕ) {row now goal rest : List ℤ} {i : ℕ} → bounded B row ≡ true → B < 9223372036854775808 → Swept row now goal i rest
    → to_z w64 (of_z w64 (at now i)) ≡ at row i
swept-back B {row} {i = i} e h s = ap (λ (z : ℤ). to_z w64 (of_z w64 z)) (swept-read (pos 0) s) ∙ bounded-back B row i e h

pub bounded-from : (B : ℕ) (row : List ℤ) → ((i : ℕ) → i < length row → nat_abs (at row i) ≤ B) → bounded B row ≡ true
unfolding bounded
bounded-from B [] f = refl
bounded-from B (a ∷ row) f =
    and_both (le-leb (nat_abs a) B (f 0 (omega arith))) (bounded-from B row (λ i h. f (suc i) (omega arith)))

pub bounded-mono : (A B : ℕ) (row : List ℤ) → A ≤ B → bounded A row ≡ true → bounded B row ≡ true
bounded-mono A B row h e = bounded-from B row (λ i l. le_trans (bounded_at A row i e) h)

-- ---- parts of a row
pub bounded-nil : (B : ℕ) → bounded B [] ≡ true
unfolding bounded
bounded-nil B = refl

pub bounded-cons : (B : ℕ) (a : ℤ) (row : List ℤ) → bounded B (a ∷ row) ≡ leb (nat_abs a) B && bounded B row
unfolding bounded
bounded-cons B a row = refl

pub bounded-append : (B : ℕ) (r s : List ℤ) → bounded B (r ++ s) ≡ bounded B r && bounded B s
unfolding bounded
bounded-append B [] s = refl
bounded-append B (a ∷ r) s = rw (bounded-append B r s) (sym (and_assoc (leb (nat_abs a) B) (bounded B r) (bounded B s)))

-- a row is its first numbers and the others
split : (B n : ℕ) (row : List ℤ) → bounded B row ≡ true → bounded B (take n row) && bounded B (drop n row) ≡ true
split B n row e = sym (bounded-append B (take n row) (drop n row)) ∙ ap (bounded B) (take-append-drop n row) ∙ e

pub bounded-take : (B n : ℕ) (row : List ℤ) → bounded B row ≡ true → bounded B (take n row) ≡ true
bounded-take B n row e = and_left (bounded B (take n row)) (bounded B (drop n row)) (split B n row e)

pub bounded-drop : (B n : ℕ) (row : List ℤ) → bounded B row ≡ true → bounded B (drop n row) ≡ true
bounded-drop B n row e = and_right (bounded B (take n row)) (bounded B (drop n row)) (split B n row e)

-- ---- which steps keep it
pub bounded-set : (B : ℕ) (row : List ℤ) (i : ℕ) (z : ℤ) → bounded B row ≡ true → nat_abs z ≤ B → bounded B (set row i z) ≡ true
unfolding bounded
bounded-set B [] i z e h = refl
bounded-set B (a ∷ row) zero z e h = and_both (le-leb (nat_abs z) B h) (and_right (leb (nat_abs a) B) (bounded B row) e)
bounded-set B (a ∷ row) (suc i) z e h =
    and_both (and_left (leb (nat_abs a) B) (bounded B row) e) (bounded-set B row i z (and_right (leb (nat_abs a) B) (bounded B row) e) h)

pub bounded-zeros : (B n : ℕ) → bounded B (replicate n (pos 0)) ≡ true
unfolding bounded
bounded-zeros B zero = refl
bounded-zeros B (suc n) = and_both (le-leb 0 B zero-le) (bounded-zeros B n)

pub bounded-unit : (B width i : ℕ) → 1 ≤ B → bounded B (unit_row width i) ≡ true
unfolding zeros unit_row
bounded-unit B width i h = bounded-set B (replicate width (pos 0)) i (pos 1) (bounded-zeros B width) h

-- a table taken apart into rows
pub bounded-rows_of : (B w m : ℕ) (t : List ℤ) → bounded B t ≡ true → bounded B (flat (rows_of w m t)) ≡ true
unfolding flat rows_of
bounded-rows_of B w zero t e = bounded-nil B
bounded-rows_of B w (suc m) t e =
    bounded-append B (take w t) (flat (rows_of w m (drop w t)))
    ∙ and_both (bounded-take B w t e) (bounded-rows_of B w m (drop w t) (bounded-drop B w t e))

-- a common divisor is not above the first number that is not 0
pub bounded-gcd : (B : ℕ) (row : List ℤ) → bounded B row ≡ true → gcd_of row ≤ B
unfolding gcd_of
bounded-gcd B [] e = zero-le
bounded-gcd B (a ∷ row) e = go (nat_abs a) (bounded_at B (a ∷ row) 0 e) (bounded-gcd B row (bounded-drop B 1 (a ∷ row) e))
  where
    go : (x : ℕ) → x ≤ B → gcd_of row ≤ B → gcd x (gcd_of row) ≤ B
    go zero h k = rw (gcd-zero-l (gcd_of row)) k
    go (suc x) h k = le_trans (gcd-le (suc x) (gcd_of row) (zero-lt-suc x)) h

-- where no step leads further from 0
bounded-map : (f : ℤ → ℤ) → ((z : ℤ) → nat_abs (f z) ≤ nat_abs z) → (B : ℕ) (row : List ℤ) → bounded B row ≡ true → bounded B (map f row) ≡ true
unfolding bounded
bounded-map f h B [] e = refl
bounded-map f h B (a ∷ row) e =
    let first : nat_abs a ≤ B = leb-true (nat_abs a) B (and_left (leb (nat_abs a) B) (bounded B row) e) in
    and_both (le-leb (nat_abs (f a)) B (le_trans (h a) first)) (bounded-map f h B row (and_right (leb (nat_abs a) B) (bounded B row) e))

pub bounded-quotients : (B : ℕ) (a : ℤ) (row : List ℤ) → bounded B row ≡ true → bounded B (quotients a row) ≡ true
unfolding quotients
bounded-quotients B a row e = bounded-map (λ z. quotient z a) (λ z. quotient_le z a) B row e

pub bounded-divided : (B : ℕ) (g : ℤ) (row : List ℤ) → bounded B row ≡ true → bounded B (divided g row) ≡ true
unfolding divided
bounded-divided B g row e = bounded-map (λ z. exactly z g) (λ z. exactly-le z g) B row e

-- the bound of a difference is the sum of the bounds, and of a product their product
pub bounded-less : (A C B : ℕ) (row : List ℤ) (q : ℤ) (other : List ℤ) → bounded A row ≡ true → nat_abs q ≤ C → bounded B other ≡ true
    → bounded (A + C * B) (less row q other) ≡ true
unfolding bounded less
bounded-less A C B [] q other e h f = refl
bounded-less A C B (a ∷ row) q [] e h f = bounded-mono A (A + C * B) (a ∷ row) (le-add_right A (C * B)) e
bounded-less A C B (a ∷ row) q (b ∷ other) e h f =
    let first : nat_abs a ≤ A = bounded_at A (a ∷ row) 0 e in
    let second : nat_abs b ≤ B = bounded_at B (b ∷ other) 0 f in
    let product : nat_abs (q *ℤ b) ≤ C * B = rw (nat_abs-* q b) (mul-le-mul h second) in
    and_both (le-leb (nat_abs (a -ℤ q *ℤ b)) (A + C * B) (le_trans (nat_abs-- a (q *ℤ b)) (add-le-add first product)))
    (bounded-less A C B row q other (and_right (leb (nat_abs a) A) (bounded A row) e) h (and_right (leb (nat_abs b) B) (bounded B other) f))

-- each row that is gathered adds at most the product of the bounds
pub bounded-gathered : (A C B : ℕ) (row cs : List ℤ) (rows : List (List ℤ)) → bounded A row ≡ true → bounded C cs ≡ true
    → bounded B (flat rows) ≡ true → bounded (A + length cs * (C * B)) (gathered row cs rows) ≡ true
unfolding gathered flat
bounded-gathered A C B row [] rows e f g = bounded-mono A (A + 0 * (C * B)) row (omega arith) e
bounded-gathered A C B row (c ∷ cs) [] e f g = bounded-mono A (A + suc (length cs) * (C * B)) row (omega arith) e
bounded-gathered A C B row (c ∷ cs) (r ∷ rows) e f g =
    let both = sym (bounded-append B r (flat rows)) ∙ g in
    let small : nat_abs (neg_ℤ c) ≤ C = omega (arith, nat_abs-neg c, bounded_at C (c ∷ cs) 0 f) in
    let rest : bounded C cs ≡ true = bounded-drop C 1 (c ∷ cs) f in
    let step = bounded-less A C B row (neg_ℤ c) r e small (and_left (bounded B r) (bounded B (flat rows)) both) in
    let more = bounded-gathered (A + C * B) C B (less row (neg_ℤ c) r) cs rows step rest (and_right (bounded B r) (bounded B (flat rows)) both) in
    bounded-mono (A + C * B + length cs * (C * B)) (A + suc (length cs) * (C * B)) (gathered row (c ∷ cs) (r ∷ rows))
    (omega (arith, suc-mul (length cs) (C * B))) more

-- ---- all numbers are within the limit where each test says so
pub within-all : (row : List ℤ) → all_within row ≡ list_all within row
unfolding bounded
within-all [] = refl
within-all (a ∷ row) = ap (λ t. within a && t) (within-all row)

-- ---- and where none is found beyond it
pub bounded-first : (row : List ℤ) → all_within row ≡ eqb (first_beyond row) (length row)
unfolding bounded first_beyond
bounded-first [] = refl
bounded-first (a ∷ row) = go (within a) (bounded-first row)
  where
    go : (t : Bool) → bounded W row ≡ eqb (first_beyond row) (length row)
        → t && bounded W row ≡ eqb (cond t (suc (first_beyond row)) 0) (suc (length row))
    go true e = e ∙ sym (eqb-suc-suc (first_beyond row) (length row))
    go false e = sym (eqb-zero-suc (length row))
