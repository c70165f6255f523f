-- A malformed text is refused behind its longest beginning that some well-formed text shares; a text that is read is well formed.
use mathlib.Core.Bool.{Bool, true, false, cond, ◌&&◌}
use mathlib.Core.Path.{◌≡◌, refl, subst}
use mathlib.Core.List.{List, ◌∷◌, ◌++◌}
use Prim.Native.Nat.{ℕ, suc, ◌+◌, ◌-◌, ◌<◌, ◌≤◌}
use native.Mathlib.Omega.{arith}
use lib.Dec.{leb}
use lib.ListN.{length, take}
use Rattle.rules.specs.declared.Refusal.TheVariants.{OutOfRange, Malformed}
use Rattle.matrix.specs.Bytes.{line_feed}
use Rattle.wellformed.specs.Grammar.{WellFormed}
use Rattle.matrix.specs.Machine.{begin, step}
use Rattle.matrix.specs.Reader.{is_dead, counted, scan}
use Rattle.matrix.specs.declared.Machine.{Machine}
use Rattle.wellformed.specs.Promised.{Shared, LongestShared}
use Rattle.wellformed.proofs.Runs.{run, run-append, Accepts, dead-stays, dead-refuses}
use Rattle.wellformed.proofs.Continuing.{continues}
use Rattle.wellformed.proofs.Saying.{accepts-says}
use Rattle.wellformed.proofs.Scanning.{Scanned, killed, beyond_here, later, unfinished, beyond_at_end, finished, scanned}
use Rattle.std.specs.Prelude.{Result, Err}
use Rattle.rules.specs.declared.Refusal.{Refusal}
use Rattle.rules.specs.declared.System.{System}
use Rattle.rules.specs.Reading.{system_of}

-- ---- the machine alive behind a beginning: some well-formed text begins so

accepts-append : (m : Machine) (a b : List ℕ) → Accepts (run m a) b → Accepts m (a ++ b)
accepts-append m a b h = record {
  ended = rw (run-append m a b) h.ended;
  alive = rw (run-append m a b) h.alive;
  headed = rw (run-append m a b) h.headed;
  whole = rw (run-append m a b) h.whole;
}

pub live_shared : (text : List ℕ) (place : ℕ) → is_dead (run begin (take place text)).phase ≡ false → Shared (take place text)
live_shared text place alive =
    let (rest, a) = continues (run begin (take place text)) alive in
    record { rest = rest; well_formed = accepts-says (take place text ++ rest) (accepts-append begin (take place text) rest a) }

-- ---- what a scan that says Malformed has seen

-- the machine stopped behind n bytes: at a byte that kills it, or at the end
record Stopped (m : Machine) (bytes : List ℕ) (n : ℕ) : Type 0 where
  pub within : n ≤ length bytes
  pub lives : is_dead m.phase ≡ false → is_dead (run m (take n bytes)).phase ≡ false
  pub dies : n < length bytes → is_dead (run m (take (suc n) bytes)).phase ≡ true
  pub refuses : Accepts m bytes → ⊥

never-counted : (m : Machine) (place : ℕ) → counted m ≡ Err (Malformed place) → ⊥
unfolding counted
never-counted m place = go (leb m.equations 32 && leb m.inequalities 64)
  where
    go : (few : Bool) → cond few (system_of (m.columns - 2) m.equations m.inequalities) (Err OutOfRange) ≡ Err (Malformed place) → ⊥
    go true e = let z : ◌≡◌ {A = ℕ} 0 1 = cc in omega arith
    go false e = let z : ◌≡◌ {A = ℕ} 0 1 = cc in omega arith

-- how many bytes behind the first
stops : {m : Machine} {bytes : List ℕ} {place : ℕ} {reading : Result System Refusal} → Scanned m bytes place reading
    → (p : ℕ) → reading ≡ Err (Malformed p) → (n : ℕ) × (p ≡ place + n) × Stopped m bytes n
unfolding run
stops (killed {m = m} {b = b} {place = place} {bytes = bytes} dead) p e =
    let same : place ≡ p = cc in (
      0,
      omega arith,
      record {
        within = omega arith;
        lives = λ alive. alive;
        dies = λ _. dead;
        refuses = dead-refuses m (b ∷ bytes) (dead-stays (step m b) bytes dead);
      },
    )
stops (beyond_here out) p e = let z : ◌≡◌ {A = ℕ} 0 1 = cc in absurd (omega arith)
stops (later {m = m} {b = b} alive rest) p e =
    let (n, same, stopped) = stops rest p e in (
      suc n,
      omega arith,
      record {
        within = omega arith;
        lives = λ _. stopped.lives alive;
        dies = λ h. stopped.dies (omega arith);
        refuses = λ a. stopped.refuses (record { ended = a.ended; alive = a.alive; headed = a.headed; whole = a.whole });
      },
    )
stops (unfinished {place = place} refused) p e =
    let same : place ≡ p = cc in (
      0,
      omega arith,
      record {
        within = omega arith;
        lives = λ alive. alive;
        dies = λ h. absurd (omega arith);
        refuses = refused;
      },
    )
stops (beyond_at_end other out) p e = let z : ◌≡◌ {A = ℕ} 0 1 = cc in absurd (omega arith)
stops (finished {m = m} a) p e = absurd (never-counted (step m line_feed) p e)

-- "Refusal 6 gives the length of the longest beginning that some well-formed text shares."
pub longest : ((t : List ℕ) → WellFormed t → Accepts begin t) → (text : List ℕ) (place : ℕ)
    → scan begin 0 text ≡ Err (Malformed place) → LongestShared text place
unfolding begin
longest accepted text place e =
    let (n, same, stopped') = stops (scanned begin 0 text) place e in
    let here : n ≡ place = omega arith in
    let stopped = subst (Stopped begin text) here stopped' in
    record {
      within = stopped.within;
      shared = live_shared text place (stopped.lives refl);
      no_longer = λ more shared.
          let beginning = take (suc place) text in
          let rest = shared.rest in
          dead-refuses begin (beginning ++ rest)
          (rw (run-append begin beginning rest) (dead-stays (run begin beginning) rest (stopped.dies more)))
          (accepted (beginning ++ rest) shared.well_formed);
      not_whole = λ formed. stopped.refuses (accepted text formed);
    }

-- ---- a text that is read
accepts-read : {m : Machine} {bytes : List ℕ} {place : ℕ} {reading : Result System Refusal} → Scanned m bytes place reading
    → (n rows others : ℕ) → reading ≡ system_of n rows others → Accepts m bytes
unfolding run
accepts-read (killed dead) n rows others e = let z : ◌≡◌ {A = ℕ} 0 1 = cc in absurd (omega arith)
accepts-read (beyond_here out) n rows others e = let z : ◌≡◌ {A = ℕ} 0 1 = cc in absurd (omega arith)
accepts-read (later alive rest) n rows others e =
    let a = accepts-read rest n rows others e in
    record { ended = a.ended; alive = a.alive; headed = a.headed; whole = a.whole }
accepts-read (unfinished refused) n rows others e = let z : ◌≡◌ {A = ℕ} 0 1 = cc in absurd (omega arith)
accepts-read (beyond_at_end other out) n rows others e = let z : ◌≡◌ {A = ℕ} 0 1 = cc in absurd (omega arith)
accepts-read (finished a) n rows others e = a

pub read_only : (text : List ℕ) (n m k : ℕ) → scan begin 0 text ≡ system_of n m k → WellFormed text
read_only text n m k e = accepts-says text (accepts-read (scanned begin 0 text) n m k e)
