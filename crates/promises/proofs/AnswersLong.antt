-- The lengths of what the run makes, for whatever test of the listed numbers: one multiplier for each equation, in every row that it
-- carries, in every reason, where a divisor follows, and in a conflict. And a conflict's row is one of the equations.
use mathlib.Core.Path.{◌≡◌, ap, ◌∙◌}
use mathlib.Core.Bool.{Bool, true, false}
use mathlib.Core.List.{List, [], ◌∷◌, ◌++◌, map}
use Prim.Native.Nat.{ℕ, zero, suc, ◌+◌, ◌*◌, ◌/◌, ◌≤◌}
use native.Mathlib.Numerals.{add-one}
use native.Mathlib.Omega.{arith}
use lib.Dec.{eqb, leb}
use lib.ListN.{length, take, replicate, length-append, length-replicate}
use lib.IntN.{ℤ, pos, nat_abs}
use Rattle.whole.specs.Gcd.{gcd}
use Rattle.rows.specs.Row.{at, gcd_of, smallest, zeros, scaled}
use Rattle.rows.specs.Table.{Wide}
use Rattle.rows.proofs.Algebra.{length-less, length-scaled, length-unit}
use Rattle.rows.proofs.TableLaws.{wide-set}
use Rattle.rows.proofs.Divisors.{length-divided}
use Rattle.rules.specs.Elimination.{State, Carried, Step, Worked, passed, unmet, large, Ended, finished, conflicting, too_large}
use Rattle.rules.specs.Elimination.{step_of, put_into, stepped, reason_of, factor, lost, corrected, shared, lowest_terms, by_gcd, closed, one_more}
use Rattle.rules.specs.Elimination.{reduced, gcd_of_coefficients}
use Rattle.rules.specs.Elimination.{closing, stepping, step_bound, work, in_order, run, start, carried}

-- a table of copies of a row of the right width
wide-replicate : (width count : ℕ) (row : List ℤ) → length row ≡ width → Wide width (replicate count row)
wide-replicate width zero row l = tt
wide-replicate width (suc count) row l = (l, wide-replicate width count row l)

module _ (m : ℕ) where
  -- of a row, of rows, and of what the work on a row and the whole run end in
  abbrev Long : Carried → Type 0
  Long e = length e.multipliers ≡ m

  abbrev AllLong : List Carried → Type 0
  AllLong [] = Unit {0}
  AllLong (e ∷ es) = Long e × AllLong es

  abbrev LongWorked : Worked → Type 0
  LongWorked (passed later s) = AllLong later × Wide (suc m) s.reasons
  LongWorked (unmet multipliers d steps) = length multipliers ≡ m
  LongWorked (large steps) = Unit {0}

  abbrev pub LongEnded : Ended → Type 0
  LongEnded (finished s) = Wide (suc m) s.reasons
  LongEnded (conflicting j multipliers d steps) = (1 ≤ j) × (j ≤ m) × (length multipliers ≡ m)
  LongEnded (too_large j steps) = Unit {0}

  all-long : (f : Carried → Carried) → ((e : Carried) → Long e → Long (f e)) → (es : List Carried) → AllLong es → AllLong (map f es)
  all-long f h [] l = tt
  all-long f h (e ∷ es) l = (h e l.0, all-long f h es l.1)

  -- ---- lowest terms, (a), (c) and (d)
  long-lowest : (e : Carried) → Long e → Long (lowest_terms e)
  unfolding lowest_terms
  long-lowest e l = length-divided (pos (shared e.multipliers e.divisor)) e.multipliers ∙ l

  long-reduced : (g : ℕ) (e : Carried) → Long e → Long (reduced g e)
  unfolding reduced
  long-reduced g e l = go (leb 2 g)
    where
      go : (b : Bool) → Long (elim b [ true ↦ lowest_terms (by_gcd g e) | false ↦ e ])
      go true = long-lowest (by_gcd g e) l
      go false = l

  long-put : (t : Step) (e : Carried) → Long e → Long (put_into t e)
  unfolding put_into
  long-put t e l = l

  long-corrected : (k d : ℕ) (reason : List ℤ) (h : Carried) → Long h → Long (corrected k d reason h)
  unfolding corrected
  long-corrected k d reason h l = go (eqb (nat_abs (at h.row k)) 0)
    where
      go : (b : Bool) → Long (elim b [ true ↦ h | false ↦ lowest_terms (lost k d reason h) ])
      go true = l
      go false =
          let share = pos (d / gcd h.divisor d) in
          long-lowest (lost k d reason h) (length-less (scaled share h.multipliers) (factor k d h) reason ∙ length-scaled share h.multipliers ∙ l)

  -- ---- the start
  carried-long : (j : ℕ) (rows : List (List ℤ)) → AllLong (carried m j rows)
  unfolding carried
  carried-long j [] = tt
  carried-long j (row ∷ rows) = (length-unit m j, carried-long (suc j) rows)

  -- ---- the run
  module _ (fits : List ℤ → Bool) (n : ℕ) where
    closing-long : (t : Step) (e : Carried) (later : List Carried) (s : State) → Long e → AllLong later → Wide (suc m) s.reasons
        → LongWorked (closing fits n t e later s)
    unfolding closing
    closing-long t e later s l all w = go (fits _)
      where
        reason : List ℤ
        reason = reason_of t e

        go : (b : Bool) → LongWorked (elim b [
          | true ↦ passed (map (corrected t.column e.divisor reason) later) (one_more (closed t.column e.divisor reason s))
          | false ↦ large s.steps
        ])
        go true = (
          all-long (corrected t.column e.divisor reason) (long-corrected t.column e.divisor reason) later all,
          wide-set (suc m) s.reasons t.column (reason ++ pos e.divisor ∷ []) w
              (length-append reason (pos e.divisor ∷ []) ∙ add-one (length reason) ∙ ap suc (length-scaled t.lead e.multipliers ∙ l)),
        )
        go false = tt

    stepping-long : (most : ℕ) (e : Carried) (later : List Carried) (s : State) → Long e → AllLong later → Wide (suc m) s.reasons
        → LongWorked (stepping fits n most e later s)
    unfolding stepping
    stepping-long zero e later s l all w = tt
    stepping-long (suc most) e later s l all w =
        go (fits _) (eqb (nat_abs t.lead) 1) (stepping-long most (put_into t e) later' (one_more (stepped n t s)) l all' w)
      where
        t : Step
        t = step_of n e.row

        later' : List Carried
        later' = map (put_into t) later

        all' : AllLong later'
        all' = all-long (put_into t) (long-put t) later all

        go : (b b' : Bool) → LongWorked (stepping fits n most (put_into t e) later' (one_more (stepped n t s))) → LongWorked (elim b [
          | true ↦ elim b' [
            | true ↦ closing fits n t (put_into t e) later' (stepped n t s)
            | false ↦ stepping fits n most (put_into t e) later' (one_more (stepped n t s))
          ]
          | false ↦ large s.steps
        ])
        go true true again = closing-long t (put_into t e) later' (stepped n t s) l all' w
        go true false again = again
        go false b' again = tt

    work-long : (e : Carried) (later : List Carried) (s : State) → Long e → AllLong later → Wide (suc m) s.reasons
        → LongWorked (work fits n e later s)
    unfolding work
    work-long e later s l all w = go (eqb (gcd_of e.row) 0) (fits _) (eqb (gcd_of_coefficients n e') 1)
      where
        e' : Carried
        e' = reduced (gcd_of e.row) e

        most : ℕ
        most = step_bound (nat_abs (at e'.row (smallest (take n e'.row))))

        go : (none fit one : Bool) → LongWorked (elim none [
          | true ↦ passed later s
          | false ↦ elim fit [
            | true ↦ elim one [
              | true ↦ stepping fits n most e' later s
              | false ↦ unmet e'.multipliers (e'.divisor * gcd_of_coefficients n e') s.steps
            ]
            | false ↦ large s.steps
          ]
        ])
        go true fit one = (all, w)
        go false true true = stepping-long most e' later s (long-reduced (gcd_of e.row) e l) all w
        go false true false = long-reduced (gcd_of e.row) e l
        go false false one = tt

    in_order-long : (left j : ℕ) (rows : List Carried) (s : State) → 1 ≤ j → j + left ≡ suc m → AllLong rows → Wide (suc m) s.reasons
        → LongEnded (in_order fits n left j rows s)
    unfolding in_order
    in_order-long zero j rows s p q all w = w
    in_order-long (suc left) j [] s p q all w = w
    in_order-long (suc left) j (e ∷ later) s p q all w = go (in_order-long left (suc j)) (work fits n e later s) (work-long e later s all.0 all.1 w)
      where
        go : ((rows : List Carried) (s : State) → 1 ≤ suc j → suc j + left ≡ suc m → AllLong rows → Wide (suc m) s.reasons
            → LongEnded (in_order fits n left (suc j) rows s))
            → (r : Worked) → LongWorked r → LongEnded (elim r [
              | passed later' s' ↦ in_order fits n left (suc j) later' s'
              | unmet multipliers d steps ↦ conflicting j multipliers d steps
              | large steps ↦ too_large j steps
            ])
        go again (passed later' s') h = again later' s' (omega arith) (omega arith) h.0 h.1
        go again (unmet multipliers d steps) h = (p, omega arith, h)
        go again (large steps) h = tt

    pub run_long : (equations : List (List ℤ)) → LongEnded (run fits n m equations)
    unfolding run
    run_long equations =
        in_order-long m 1 (carried m 0 equations) (start n m) (omega arith) (omega arith) (carried-long 0 equations)
        (wide-replicate (suc m) n (zeros (suc m)) (length-replicate (suc m) (pos 0)))
