-- How the working tables show what the definitions speak of, and what an attempt shows that is refused where a listed number is
-- beyond the limit. What the tables hold after such a refusal is nobody's to read.
use Rattle.std.specs.Prelude.{◌≡◌, Bool, true, false, List, [], ◌∷◌, ℕ, suc, ◌≤◌, length, take, drop, ℤ, Option, Some, None}
use Rattle.whole.specs.Limit.{W}
use Rattle.rules.specs.Elimination.{Carried}
use Rattle.steps.specs.declared.WorkTables.{WorkTables}

pub data Tried (A : Type 0) : Type 0 where
  made : A → Tried A
  beyond : Tried A

abbrev pub tried : {A : Type 0} → Bool → A → Tried A
tried true a = made a
tried false a = beyond

-- a row with its multipliers and divisor
abbrev pub carry : List ℤ → List ℤ → ℕ → Carried
carry row multipliers d = record { row = row; multipliers = multipliers; divisor = d }

-- the same after a function that answers the divisor, or that a number is beyond the limit
abbrev pub kept_row : Option ℕ → List ℤ → List ℤ → Tried Carried
kept_row (Some d) row multipliers = made (carry row multipliers d)
kept_row None row multipliers = beyond

-- every divisor with its row, of width w, and its multipliers, m of them
unfoldable pub carried_of : ℕ → ℕ → List ℤ → List ℤ → List ℕ → List Carried
carried_of w m rows multipliers [] = []
carried_of w m rows multipliers (d ∷ divisors) =
    carry (take w rows) (take m multipliers) d ∷ carried_of w m (drop w rows) (drop m multipliers) divisors

-- all divisors lie in 1..W
abbrev pub Divisor : ℕ → Type 0
Divisor d = (1 ≤ d) × (d ≤ W)

abbrev pub Divisors : List ℕ → Type 0
Divisors [] = Unit {0}
Divisors (d ∷ divisors) = Divisor d × Divisors divisors

-- the rows behind the first
abbrev pub later_of : ℕ → ℕ → List ℤ → List ℤ → List ℕ → List Carried
later_of n m rows multipliers divisors = carried_of (suc n) m (drop (suc n) rows) (drop m multipliers) (drop 1 divisors)

-- the same three working tables of the caller, each as long as it was, whatever they hold
pub record SameWork (old new : WorkTables) : Type 0 where
  pub rows : new.rows.ghost_name ≡ old.rows.ghost_name
  pub multipliers : new.multipliers.ghost_name ≡ old.multipliers.ghost_name
  pub divisors : new.divisors.ghost_name ≡ old.divisors.ghost_name
  pub rows_long : length new.rows.now ≡ length old.rows.now
  pub multipliers_long : length new.multipliers.now ≡ length old.multipliers.now
  pub divisors_long : length new.divisors.now ≡ length old.divisors.now
