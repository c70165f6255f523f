-- Tables that the caller lends in one value: which they are, whatever they hold, and how long they are.
use Rattle.std.specs.Prelude.{◌≡◌, List, ℕ, suc, ◌*◌, length, ℤ}
use Rattle.rules.specs.declared.System.{System}
use Rattle.rules.specs.declared.StateTables.{StateTables}
use Rattle.rules.specs.declared.RowTables.{RowTables}

-- the same four tables of the caller
pub record SameTables (old new : StateTables) : Type 0 where
  pub substitution : new.substitution.ghost_name ≡ old.substitution.ghost_name
  pub marks : new.marks.ghost_name ≡ old.marks.ghost_name
  pub way_back : new.way_back.ghost_name ≡ old.way_back.ghost_name
  pub reasons : new.reasons.ghost_name ≡ old.reasons.ghost_name

-- each as long as it was
pub record SameLengths (old new : StateTables) : Type 0 where
  pub substitution : length new.substitution.now ≡ length old.substitution.now
  pub marks : length new.marks.now ≡ length old.marks.now
  pub way_back : length new.way_back.now ≡ length old.way_back.now
  pub reasons : length new.reasons.now ≡ length old.reasons.now

-- the same two tables of the caller, each as long as it was
pub record SameRows (old new : RowTables) : Type 0 where
  pub tightened : new.tightened.ghost_name ≡ old.tightened.ghost_name
  pub used : new.used.ghost_name ≡ old.used.ghost_name
  pub tightened_long : length new.tightened.now ≡ length old.tightened.now
  pub used_long : length new.used.now ≡ length old.used.now

-- "Result tables, each of exactly this length"
pub record StateLengths (n m : ℕ) (state : StateTables) : Type 0 where
  pub substitution : length state.substitution.now ≡ n * suc n
  pub marks : length state.marks.now ≡ n
  pub way_back : length state.way_back.now ≡ n * suc n
  pub reasons : length state.reasons.now ≡ n * suc m

pub record RowLengths (n k : ℕ) (rows : RowTables) : Type 0 where
  pub tightened : length rows.tightened.now ≡ k * suc n
  pub used : length rows.used.now ≡ k

-- the nine tables of a call: "The input tables hold exactly m(n+1) and k(n+1) numbers", and the result tables theirs
pub record CallLengths (system : System) (equations inequalities : List ℤ) (state : StateTables) (conflict : List ℤ) (rows : RowTables) : Type 0 where
  pub equations_long : length equations ≡ system.m * suc system.n
  pub inequalities_long : length inequalities ≡ system.k * suc system.n
  pub state_long : StateLengths system.n system.m state
  pub conflict_long : length conflict ≡ suc system.m
  pub rows_long : RowLengths system.n system.k rows
