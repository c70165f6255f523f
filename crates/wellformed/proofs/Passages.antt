-- What the machine does on a piece of a line and on a whole line: how it runs on, what a scan answers, which entries it gives.
use mathlib.Core.Bool.{Bool, true, false, cond, not, ◌&&◌}
use mathlib.Core.Path.{◌≡◌, refl, ap, ◌∙◌}
use mathlib.Core.List.{List, [], ◌∷◌, ◌++◌, append_assoc}
use Prim.Native.Nat.{ℕ, suc}
use lib.IntN.{ℤ}
use Rattle.rules.specs.declared.Refusal.TheVariants.{OutOfRange}
use Rattle.matrix.specs.Bytes.{line_feed, carriage_return}
use Rattle.matrix.specs.Machine.{step}
use Rattle.matrix.specs.Reader.{is_start, is_digits, is_return, is_dead, beyond, closed, at_end, scan, entry_of, ends, numbers}
use Rattle.matrix.specs.declared.Machine.{Machine}
use Rattle.wellformed.proofs.Runs.{run}
use Rattle.std.specs.Prelude.{Result, Err}
use Rattle.rules.specs.declared.Refusal.{Refusal}
use Rattle.rules.specs.declared.System.{System}

-- a scan of these bytes answers this, wherever the first of them stands in the text
abbrev pub Answers : Machine → List ℕ → Result System Refusal → Type 0
Answers m bytes reading = (place : ℕ) → scan m place bytes ≡ reading

-- the same behind a line end, where the limits of the header are tested
abbrev pub AnswersOn : Machine → List ℕ → Result System Refusal → Type 0
AnswersOn m bytes reading = (place : ℕ) → cond (beyond m) (Err OutOfRange) (scan m place bytes) ≡ reading

pub data LineEnd : List ℕ → Type 0 where
  by_feed : LineEnd (line_feed ∷ [])
  by_return : LineEnd (carriage_return ∷ (line_feed ∷ []))

-- the entry of the number in hand, if such a one ends
abbrev pub given : Bool → Machine → List ℤ
given ended m = cond ended (entry_of m ∷ []) []

given-on : (ended : Bool) (m : Machine) (rest : List ℤ) → cond ended (entry_of m ∷ rest) rest ≡ given ended m ++ rest
given-on true m rest = refl
given-on false m rest = refl

-- the number in hand, if it is one of a row of this kind
abbrev pub pending : Bool → Machine → List ℤ
pending which m = given (is_digits m.phase && (m.body && cond which m.inequality (not m.inequality))) m

-- the entries of rows of one kind: `which` is true for inequalities
module _ (which : Bool) where
  -- a piece inside a line leads from m to m' and gives these entries, whatever more there is; a number's entry is given behind it, by the byte that ends it
  pub record Passage (m : Machine) (bytes : List ℕ) (m' : Machine) (entries : List ℤ) : Type 0 where
    pub runs : (more : List ℕ) → run m (bytes ++ more) ≡ run m' more
    pub scans : (more : List ℕ) (reading : Result System Refusal) → Answers m' more reading → Answers m (bytes ++ more) reading
    pub packs : (more : List ℕ) → numbers which m (bytes ++ more) ≡ entries ++ numbers which m' more

  -- a whole line, or the rest of one: what its end makes of it, by line feed, by carriage return and line feed, or by the end of the text
  pub record Line (m : Machine) (bytes : List ℕ) (m' : Machine) (entries : List ℤ) : Type 0 where
    pub ended : is_return (run m bytes).phase ≡ false
    pub closes : step (run m bytes) line_feed ≡ m'
    pub stops : (reading : Result System Refusal) → ((place : ℕ) → closed m' place ≡ reading) → Answers m bytes reading
    pub runs : {close : List ℕ} → LineEnd close → (more : List ℕ) → run m (bytes ++ (close ++ more)) ≡ run m' more
    pub scans : {close : List ℕ} → LineEnd close → (more : List ℕ) (reading : Result System Refusal) → AnswersOn m' more reading → Answers m (bytes ++ (close ++ more)) reading
    pub packs : {close : List ℕ} → LineEnd close → (more : List ℕ) → numbers which m (bytes ++ (close ++ more)) ≡ entries ++ numbers which m' more

  -- ---- pieces join

  pub stay : (m : Machine) → Passage m [] m []
  stay m = record { runs = λ more. refl; scans = λ more reading h. h; packs = λ more. refl }

  pub along : {m m' m'' : Machine} {a b : List ℕ} {e f : List ℤ} → Passage m a m' e → Passage m' b m'' f → Passage m (a ++ b) m'' (e ++ f)
  along {m} {m'} {m''} {a} {b} {e} {f} p q = record {
    runs = λ more. rw (append_assoc a b more) (p.runs (b ++ more) ∙ q.runs more);
    scans = λ more reading h. rw (append_assoc a b more) (p.scans (b ++ more) reading (q.scans more reading h));
    packs = λ more. rw (append_assoc a b more, append_assoc e f (numbers which m'' more)) (p.packs (b ++ more) ∙ ap (λ l. e ++ l) (q.packs more));
  }

  pub to_end : {m m' m'' : Machine} {a b : List ℕ} {e f : List ℤ} → Passage m a m' e → Line m' b m'' f → Line m (a ++ b) m'' (e ++ f)
  to_end {m} {m'} {m''} {a} {b} {e} {f} p q = record {
    ended = rw (p.runs b) q.ended;
    closes = rw (p.runs b) q.closes;
    stops = λ reading h. p.scans b reading (q.stops reading h);
    runs = λ {close} end more. rw (append_assoc a b (close ++ more)) (p.runs (b ++ (close ++ more)) ∙ q.runs end more);
    scans = λ {close} end more reading h. rw (append_assoc a b (close ++ more)) (p.scans (b ++ (close ++ more)) reading (q.scans end more reading h));
    packs = λ {close} end more.
        rw (append_assoc a b (close ++ more), append_assoc e f (numbers which m'' more)) (p.packs (b ++ (close ++ more)) ∙ ap (λ l. e ++ l) (q.packs end more));
  }

  -- ---- one byte, and no line ends

  pub one_byte : (m : Machine) (b : ℕ) (m' : Machine) → step m b ≡ m' → is_dead m'.phase ≡ false → is_start m'.phase ≡ false
      → Passage m (b ∷ []) m' (given (ends which m m') m)
  unfolding run scan beyond numbers
  one_byte m b m' e alive within = record {
    runs = λ more. ap (λ x. run x more) e;
    scans = λ more reading h place. rw (e, alive, within) (h (suc place));
    packs = λ more. rw e (given-on (ends which m m') m (numbers which m' more));
  }

  -- ---- nothing is left of the line: a line feed leads to m', and so does a carriage return with one
  module _ (m m' : Machine) (other : is_return m.phase ≡ false) (feed : step m line_feed ≡ m') (alive : is_dead m'.phase ≡ false)
      (back : step (step m carriage_return) line_feed ≡ m') (alive' : is_dead (step m carriage_return).phase ≡ false)
      (within : is_start (step m carriage_return).phase ≡ false)
      (entries : List ℤ) (now : given (ends which m m') m ≡ entries)
      (first : given (ends which m (step m carriage_return)) m ≡ entries) (then : ends which (step m carriage_return) m' ≡ false) where
    returned : Passage m (carriage_return ∷ []) (step m carriage_return) (given (ends which m (step m carriage_return)) m)
    returned = one_byte m carriage_return (step m carriage_return) refl alive' within

    fed-runs : (x : Machine) → step x line_feed ≡ m' → (more : List ℕ) → run x (line_feed ∷ more) ≡ run m' more
    unfolding run
    fed-runs x e more = ap (λ y. run y more) e

    fed-scans : (x : Machine) → step x line_feed ≡ m' → (more : List ℕ) (reading : Result System Refusal) → AnswersOn m' more reading → Answers x (line_feed ∷ more) reading
    unfolding scan
    fed-scans x e more reading h place = rw (e, alive) (h (suc place))

    fed-packs : (x : Machine) → step x line_feed ≡ m' → (more : List ℕ) → numbers which x (line_feed ∷ more) ≡ given (ends which x m') x ++ numbers which m' more
    unfolding numbers
    fed-packs x e more = rw e (given-on (ends which x m') x (numbers which m' more))

    ends-runs : {close : List ℕ} → LineEnd close → (more : List ℕ) → run m (close ++ more) ≡ run m' more
    ends-runs by_feed more = fed-runs m feed more
    ends-runs by_return more = returned.runs (line_feed ∷ more) ∙ fed-runs (step m carriage_return) back more

    ends-scans : {close : List ℕ} → LineEnd close → (more : List ℕ) (reading : Result System Refusal) → AnswersOn m' more reading → Answers m (close ++ more) reading
    ends-scans by_feed more reading h = fed-scans m feed more reading h
    ends-scans by_return more reading h = returned.scans (line_feed ∷ more) reading (fed-scans (step m carriage_return) back more reading h)

    ends-packs : {close : List ℕ} → LineEnd close → (more : List ℕ) → numbers which m (close ++ more) ≡ entries ++ numbers which m' more
    ends-packs by_feed more = rw (← now) (fed-packs m feed more)
    ends-packs by_return more =
        returned.packs (line_feed ∷ more) ∙ rw (first, fed-packs (step m carriage_return) back more, then)

    pub line-ends : Line m [] m' entries
    unfolding run scan at_end
    line-ends = record {
      ended = other;
      closes = feed;
      stops = λ reading h place. rw (other, feed) (h place);
      runs = ends-runs;
      scans = ends-scans;
      packs = ends-packs;
    }
