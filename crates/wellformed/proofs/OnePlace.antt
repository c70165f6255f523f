-- A longest shared beginning has one length, and a scan of a text answers a system, refusal 1 or refusal 6.
use mathlib.Core.Bool.{Bool, true, false, cond, ◌&&◌}
use mathlib.Core.Path.{◌≡◌, refl, ap, ◌∙◌, subst}
use mathlib.Core.List.{List, [], ◌∷◌, ◌++◌, append_assoc}
use Prim.Native.Nat.{ℕ, zero, suc, ◌-◌, ◌<◌, ◌≤◌}
use native.Mathlib.Omega.{arith}
use borrow.Author.Tests.{ltb-true, ltb-false}
use lib.Dec.{leb, ltb}
use lib.ListN.{take, drop}
use Rattle.rules.specs.declared.Refusal.TheVariants.{OutOfRange, Malformed}
use Rattle.matrix.specs.Bytes.{line_feed}
use Rattle.wellformed.specs.Grammar.{WellFormed}
use Rattle.matrix.specs.Machine.{step}
use Rattle.matrix.specs.Reader.{counted}
use Rattle.matrix.specs.declared.Machine.{Machine}
use Rattle.wellformed.specs.Promised.{Shared, LongestShared}
use Rattle.wellformed.proofs.Scanning.{Scanned, killed, beyond_here, later, unfinished, beyond_at_end, finished}
use Rattle.std.specs.Prelude.{Result, Err}
use Rattle.rules.specs.declared.Refusal.{Refusal}
use Rattle.rules.specs.declared.System.{System}
use Rattle.rules.specs.Reading.{system_of}

-- ---- a beginning of a shared beginning is shared

take_more : (a b : ℕ) (l : List ℕ) → a ≤ b → take b l ≡ take a l ++ drop a (take b l)
take_more zero b l h = refl
take_more (suc a) zero l h = absurd (omega arith)
take_more (suc a) (suc b) [] h = refl
take_more (suc a) (suc b) (x ∷ l) h = ap {B = List ℕ} (λ t. x ∷ t) (take_more a b l (omega arith))

shared-less : (text : List ℕ) (a b : ℕ) → a ≤ b → Shared (take b text) → Shared (take a text)
shared-less text a b h s =
    let more = drop a (take b text) in
    let same : take b text ++ s.rest ≡ take a text ++ (more ++ s.rest) =
    ap (λ t. t ++ s.rest) (take_more a b text h) ∙ append_assoc (take a text) more s.rest in
    record { rest = more ++ s.rest; well_formed = subst WellFormed same s.well_formed }

-- ---- so no two are longest

no-further : (text : List ℕ) (p q : ℕ) → LongestShared text p → LongestShared text q → p < q → ⊥
no-further text p q short long h =
    let within = long.within in
    short.no_longer (omega arith) (shared-less text (suc p) q h long.shared)

pub one_place : (text : List ℕ) (p q : ℕ) → LongestShared text p → LongestShared text q → p ≡ q
one_place text p q a b = go (ltb p q) refl (ltb q p) refl
  where
    go : (under : Bool) → ltb p q ≡ under → (over : Bool) → ltb q p ≡ over → p ≡ q
    go true e over e' = absurd (no-further text p q a b (ltb-true p q e))
    go false e true e' = absurd (no-further text q p b a (ltb-true q p e'))
    go false e false e' =
        let low = ltb-false p q e in
        let high = ltb-false q p e' in
        omega arith

-- ---- what a scan answers

pub data Scans : Result System Refusal → Type 0 where
  a_system : (n m k : ℕ) → Scans (system_of n m k)
  refused : Scans (Err OutOfRange)
  malformed : (place : ℕ) → Scans (Err (Malformed place))

counts : (m : Machine) → Scans (counted m)
unfolding counted
counts m = go (leb m.equations 32 && leb m.inequalities 64)
  where
    go : (few : Bool) → Scans (cond few (system_of (m.columns - 2) m.equations m.inequalities) (Err OutOfRange))
    go true = a_system (m.columns - 2) m.equations m.inequalities
    go false = refused

pub scans : {m : Machine} {bytes : List ℕ} {place : ℕ} {reading : Result System Refusal} → Scanned m bytes place reading → Scans reading
scans (killed {place = place} dead) = malformed place
scans (beyond_here out) = refused
scans (later alive rest) = scans rest
scans (unfinished {place = place} wrong) = malformed place
scans (beyond_at_end other out) = refused
scans (finished {m = m} a) = counts (step m line_feed)
