-- What step (d) makes where a column closes, and how the tables show it.
use Rattle.std.specs.Prelude.{List, [], ◌∷◌, ◌++◌, map, ℕ, suc, get_or, take, set, ℤ, pos}
use Rattle.rows.specs.Row.{scaled, all_within}
use Rattle.rows.specs.Table.{rows_of, flat}
use Rattle.rules.specs.declared.StateTables.{StateTables}
use Rattle.rules.specs.Elimination.{Carried, corrected, listed_d}
use Rattle.steps.specs.declared.WorkTables.{WorkTables}
use Rattle.steps.specs.Shown.{Tried, tried, later_of}

-- what (d) makes where a column closes
pub record Shut : Type 0 where
  pub later : List Carried
  pub marks : List ℕ
  pub reasons : List (List ℤ)

abbrev pub shut : ℕ → ℕ → List ℤ → List Carried → List ℕ → List (List ℤ) → Shut
shut k d reason later marks reasons = record {
  later = map (corrected k d reason) later;
  marks = set marks k 0;
  reasons = set reasons k (reason ++ pos d ∷ []);
}

-- the numbers that (d) lists
abbrev pub listed_shut : ℕ → ℕ → List ℤ → List Carried → List ℤ
listed_shut k d reason later = flat (map (listed_d k d reason) later)

-- the later rows, or that a listed number is beyond the limit
abbrev pub corrected_of : ℕ → ℕ → List ℤ → List Carried → Tried (List Carried)
corrected_of k d reason later = tried (all_within (listed_shut k d reason later)) (map (corrected k d reason) later)

-- the three in tables
abbrev pub shut_tables : ℕ → ℕ → List ℤ → List ℤ → List ℕ → List ℕ → List ℤ → Shut
shut_tables n m rows multipliers divisors marks reasons = record {
  later = later_of n m rows multipliers divisors;
  marks = marks;
  reasons = rows_of (suc m) n reasons;
}

-- (d) on tables whose first row is in hand and has a, 1 or -1, at k: what it makes, or that a listed number is beyond the limit
abbrev pub shut_by : ℕ → ℕ → List ℤ → List Carried → List ℕ → List (List ℤ) → Tried Shut
shut_by k d reason later marks reasons = tried (all_within (listed_shut k d reason later)) (shut k d reason later marks reasons)

abbrev pub shut_of : ℕ → ℕ → ℕ → ℤ → List ℤ → List ℤ → List ℕ → List ℕ → List ℤ → Tried Shut
shut_of n m k a rows multipliers divisors marks reasons =
    shut_by k (get_or divisors 0 0) (scaled a (take m multipliers)) (later_of n m rows multipliers divisors) marks (rows_of (suc m) n reasons)

-- the same of the tables as the caller lends them
abbrev pub shut_shown : ℕ → ℕ → WorkTables → StateTables → Shut
shut_shown n m work state = shut_tables n m work.rows.now work.multipliers.now work.divisors.now state.marks.now state.reasons.now

abbrev pub shut_made : ℕ → ℕ → ℕ → ℤ → WorkTables → StateTables → Tried Shut
shut_made n m k a work state = shut_of n m k a work.rows.now work.multipliers.now work.divisors.now state.marks.now state.reasons.now
