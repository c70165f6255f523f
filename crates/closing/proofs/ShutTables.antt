-- A step that closes a column, on tables: the rows behind the first, lent and come back, and what is made of them put to the test.
use mathlib.Core.Path.{◌≡◌, sym, ap, ◌∙◌}
use mathlib.Core.Bool.{Bool, true, false}
use mathlib.Core.List.{List, [], ◌∷◌, ◌++◌, map, append-nil}
use Prim.Native.Nat.{ℕ, ◌-◌, ◌*◌, ◌≤◌}
use native.Mathlib.Nat.{suc-mul}
use native.Mathlib.Omega.{arith}
use lib.ListN.{length, get_or, take, drop, set, length-drop, drop_of_length-le}
use lib.Seq.{length-take-le, take_all, drop_at}
use lib.IntN.{ℤ, pos}
use Rattle.rows.specs.Row.{all_within}
use Rattle.rules.specs.Elimination.{Carried, corrected}
use Rattle.steps.specs.Shown.{made, beyond, tried, Divisor, Divisors}
use Rattle.closing.specs.Shut.{shut, listed_shut, corrected_of, shut_by}
use Rattle.steps.proofs.Attempts.{tried-fits, tried-made}

-- ---- a list from column w on, in the form in which it is lent and in which it comes back
module _ {A : Type 0} where
  pub rest-lent : (w : ℕ) (l : List A) → take (length l - w) (drop w l) ≡ drop w l
  rest-lent w l = take_all (length l - w) (drop w l) (simp length-drop (omega arith))

  pub rest_back : (w : ℕ) (l rest : List A) → w ≤ length l → drop w (take w l ++ (rest ++ drop (length l - w) (drop w l))) ≡ rest
  rest_back w l rest h =
      drop_at (take w l) (rest ++ drop (length l - w) (drop w l)) w (length-take-le w l h)
      ∙ ap (λ (m : List A). rest ++ m) (drop_of_length-le (drop w l) {i = length l - w} (simp length-drop (omega arith)))
      ∙ append-nil rest

-- ---- the first row and its divisor, and the others
pub rows_behind : {A B : Type 0} (w : ℕ) (l : List A) (ds : List B) → 1 ≤ length ds → length l ≡ length ds * w
    → length (drop w l) ≡ length (drop 1 ds) * w
rows_behind w l [] h e = absurd (omega arith)
rows_behind w l (d ∷ ds) h e = length-drop w l ∙ (omega (arith, suc-mul (length ds) w))

pub first-inside : {A B : Type 0} (w : ℕ) (l : List A) (ds : List B) → 1 ≤ length ds → length l ≡ length ds * w → w ≤ length l
first-inside w l [] h e = absurd (omega arith)
first-inside w l (d ∷ ds) h e = omega (arith, suc-mul (length ds) w)

pub divisors-first : (ds : List ℕ) → 1 ≤ length ds → Divisors ds → Divisor (get_or ds 0 0)
divisors-first [] h e = absurd (omega arith)
divisors-first (d ∷ ds) h e = e.0

pub divisors-behind : (ds : List ℕ) → Divisors ds → Divisors (drop 1 ds)
divisors-behind [] e = tt
divisors-behind (d ∷ ds) e = e.1

-- ---- whether the rows behind the first, corrected, fit, and what is then made of the tables
module _ (k d : ℕ) (reason : List ℤ) (later after : List Carried) (b : Bool)
    (done : tried b after ≡ corrected_of k d reason later)
    (marks : List ℕ) (reasons : List (List ℤ)) where
  verdict : b ≡ all_within (listed_shut k d reason later)
  verdict = tried-fits b (all_within (listed_shut k d reason later)) after (map (corrected k d reason) later) done

  pub shut_none : b ≡ false → beyond ≡ shut_by k d reason later marks reasons
  shut_none e = ap (λ (f : Bool). tried f (shut k d reason later marks reasons)) (sym e ∙ verdict)

  pub shut-made : (later' : List Carried) (marks' : List ℕ) (reasons' : List (List ℤ)) → b ≡ true → later' ≡ after → marks' ≡ set marks k 0
      → reasons' ≡ set reasons k (reason ++ pos d ∷ [])
      → made (record { later = later'; marks = marks'; reasons = reasons' }) ≡ shut_by k d reason later marks reasons
  shut-made later' marks' reasons' e f g h =
      let corrections = tried-made b (all_within (listed_shut k d reason later)) after (map (corrected k d reason) later) e done in
      rw (f, corrections, g, h) (ap (λ (x : Bool). tried x (shut k d reason later marks reasons)) (sym e ∙ verdict))
