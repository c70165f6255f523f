-- Every machine that is not dead has a continuation that it accepts: zeros and line ends for what is still to come.
use mathlib.Core.Bool.{Bool, true, false, true≢false}
use mathlib.Core.Path.{◌≡◌, refl, sym, ap, ◌∙◌}
use mathlib.Core.List.{List, [], ◌∷◌}
use Prim.Native.Nat.{ℕ, zero, suc, ◌-◌}
use native.Mathlib.Omega.{arith}
use lib.Dec.{eqb-suc-zero}
use Rattle.matrix.specs.Bytes.{line_feed, space}
use Rattle.matrix.specs.Machine.{line_ends, step}
use Rattle.matrix.specs.Reader.{is_dead}
use Rattle.matrix.specs.declared.Phase.{Phase}
use Rattle.matrix.specs.declared.Phase.TheVariants.{Start, Lead, Marked, Signed, Digits, Gap, Return, Comment, Dead}
use Rattle.matrix.specs.declared.Machine.{Machine}
use Rattle.wellformed.proofs.Runs.{run, Accepts}

abbrev pub Continued : Machine → Type 0
Continued m = (rest : List ℕ) × Accepts m rest

-- the digit 0, also the mark 0
abbrev nought : ℕ
nought = 48

before : (m : Machine) (b : ℕ) → Continued (step m b) → Continued m
unfolding run
before m b (rest, a) = (b ∷ rest, record { ended = a.ended; alive = a.alive; headed = a.headed; whole = a.whole })

-- ---- inside a line: with the header read or not, and if it is, so many rows to come after this line
record At (body : Bool) (rows : ℕ) (phase : Phase) (left : ℕ) (m : Machine) : Type 0 where
  pub phase_is : m.phase ≡ phase
  pub body_is : m.body ≡ body
  pub rows_are : body ≡ true → m.rows ≡ rows
  pub left_is : m.left ≡ left

module _ (body : Bool) (rows : ℕ)
    (next : (m : Machine) → m.phase ≡ Start → m.body ≡ true → (body ≡ true → m.rows ≡ rows) → Continued m) where
  line-over : (m : Machine) → m.left ≡ 0 → (body ≡ true → m.rows ≡ rows) → step m line_feed ≡ line_ends Start m → Continued m
  unfolding line_ends
  line-over m all keeps ends = before m line_feed (rw ends (next (line_ends Start m) (rw all) (rw all) λ e. rw all (keeps e)))

  feed-marked : (m : Machine) → At body rows Marked 0 m → Continued m
  unfolding step
  feed-marked m at = line-over m at.left_is at.rows_are (rw at.phase_is)

  feed-digits : (m : Machine) → At body rows Digits 0 m → Continued m
  unfolding step
  feed-digits m at = line-over m at.left_is at.rows_are (rw at.phase_is)

  feed-gap : (m : Machine) → At body rows Gap 0 m → Continued m
  unfolding step
  feed-gap m at = line-over m at.left_is at.rows_are (rw at.phase_is)

  blank-marked : (m : Machine) (left : ℕ) → At body rows Marked left m → At body rows Gap left (step m space)
  unfolding step
  blank-marked m left at = rw at.phase_is (record { phase_is = refl; body_is = at.body_is; rows_are = at.rows_are; left_is = at.left_is })

  blank-digits : (m : Machine) (left : ℕ) → At body rows Digits left m → At body rows Gap left (step m space)
  unfolding step
  blank-digits m left at = rw at.phase_is (record { phase_is = refl; body_is = at.body_is; rows_are = at.rows_are; left_is = at.left_is })

  nought-gap : (m : Machine) (left : ℕ) → At body rows Gap (suc left) m → At body rows Digits left (step m nought)
  unfolding step
  nought-gap m left at = rw (at.phase_is, at.left_is, eqb-suc-zero left) (record {
    phase_is = refl;
    body_is = at.body_is;
    rows_are = λ e. rw (at.body_is, e) (at.rows_are e);
    left_is = omega arith;
  })

  -- in a number, with so many numbers to come
  from-digits : (left : ℕ) (m : Machine) → At body rows Digits left m → Continued m
  from-digits zero m at = feed-digits m at
  from-digits (suc left) m at =
      let gap = step m space in
      before m space (before gap nought (from-digits left (step gap nought) (nought-gap gap left (blank-digits m (suc left) at))))

  from-gap : (left : ℕ) (m : Machine) → At body rows Gap left m → Continued m
  from-gap zero m at = feed-gap m at
  from-gap (suc left) m at = before m nought (from-digits left (step m nought) (nought-gap m left at))

  from-marked : (left : ℕ) (m : Machine) → At body rows Marked left m → Continued m
  from-marked zero m at = feed-marked m at
  from-marked (suc left) m at = before m space (from-gap (suc left) (step m space) (blank-marked m (suc left) at))

-- ---- before a line
from-rows : (rows : ℕ) (m : Machine) → m.phase ≡ Start → m.body ≡ true → m.rows ≡ rows → Continued m
unfolding run step
from-rows zero m start read none = ([], record { ended = rw start; alive = rw start; headed = rw (start, read); whole = rw (start, none) })
from-rows (suc rows) m start read some =
    before m nought (from-marked true rows (λ m' p b r. from-rows rows m' p b (r refl)) (m.columns - 1) (step m nought) at)
  where
    at : At true rows Marked (m.columns - 1) (step m nought)
    at = rw (start, read, some, eqb-suc-zero rows) (record { phase_is = refl; body_is = refl; rows_are = λ e. omega arith; left_is = refl })

-- whatever rows a header says
after-header : (body : Bool) (rows : ℕ) (m : Machine) → m.phase ≡ Start → m.body ≡ true → (body ≡ true → m.rows ≡ rows) → Continued m
after-header body rows m start read same = from-rows m.rows m start read refl

in-digits : (m : Machine) → m.phase ≡ Digits → Continued m
in-digits m e =
    from-digits m.body m.rows (after-header m.body m.rows) m.left m
    (record { phase_is = e; body_is = refl; rows_are = λ _. refl; left_is = refl })

from_start : (m : Machine) → m.phase ≡ Start → Continued m
unfolding step
from_start m start = go m.body refl
  where
    go : (body : Bool) → m.body ≡ body → Continued m
    go true e = from-rows m.rows m start e refl
    go false e = before m nought (in-digits (step m nought) (rw (start, e)))

pub continues : (m : Machine) → is_dead m.phase ≡ false → Continued m
unfolding step
continues m alive = go m.phase refl
  where
    go : (phase : Phase) → m.phase ≡ phase → Continued m
    go Start e = from_start m e
    go Lead e = before m line_feed (from_start (step m line_feed) (rw e))
    go Marked e =
        from-marked m.body m.rows (after-header m.body m.rows) m.left m
        (record { phase_is = e; body_is = refl; rows_are = λ _. refl; left_is = refl })
    go Signed e = before m nought (in-digits (step m nought) (rw e))
    go Digits e = in-digits m e
    go Gap e =
        from-gap m.body m.rows (after-header m.body m.rows) m.left m
        (record { phase_is = e; body_is = refl; rows_are = λ _. refl; left_is = refl })
    go Return e = before m line_feed (from_start (step m line_feed) (rw e))
    go Comment e = before m line_feed (from_start (step m line_feed) (rw e))
    go Dead e = absurd (true≢false (sym (ap is_dead e) ∙ alive))
