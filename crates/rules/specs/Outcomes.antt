-- Document 01, "Tables" and "Outcomes": what a call answers, and what every result table then holds.
use Rattle.std.specs.Prelude.{Bool, ◌&&◌, eqb, leb, length, ℤ}
use Rattle.std.proofs.Math.Bool.{true, false, not}
use mathlib.Core.List.{List, [], ◌∷◌, ◌++◌, map}
use Prim.Native.Nat.{ℕ, suc, ◌*◌, ◌/◌, ◌%◌}
use Rattle.std.proofs.Math.ListN.{replicate}
use Rattle.std.proofs.Math.IntN.{pos}
use Rattle.rows.specs.Row.{zeros, all_within, bounded, first_beyond}
use Rattle.rows.specs.Table.{rows_of, flat}
use Rattle.rules.specs.declared.Table.{Table}
use Rattle.rules.specs.declared.Table.TheVariants.{Equations, Inequalities}
use Rattle.rules.specs.declared.Refusal.{Refusal}
use Rattle.rules.specs.declared.Refusal.TheVariants.{OutOfRange, WrongLength, BadEntry, TooLarge, LargeSum}
use Rattle.rules.specs.declared.Outcome.{Outcome}
use Rattle.rules.specs.declared.Outcome.TheVariants.{Open, EquationConflict, OneRowConflict, TwoRowConflict, Refused}
use Rattle.rules.specs.Elimination.{State, Ended, finished, conflicting, too_large, elimination}
use Rattle.rules.specs.Inequalities.{sums, used_by, tightened_row, first_row, alone, first_pair}

-- ---- refusal 3: the first entry beyond the limit of a table with rows of this width

unfoldable pub bad_entry : ℕ → Table → List ℤ → Refusal
unfolding first_beyond
bad_entry width table numbers = let i = first_beyond numbers in BadEntry table (suc (i / width)) (suc (i % width))

-- ---- "Result tables, each of exactly this length"

pub record Results : Type 0 where
  pub substitution : List ℤ
  pub marks : List ℕ
  pub way_back : List ℤ
  pub reasons : List ℤ
  pub conflict : List ℤ
  pub tightened : List ℤ
  pub used : List ℕ

pub record Answer : Type 0 where
  pub outcome : Outcome
  pub results : Results

module _ (n m k : ℕ) where
  -- "Tables not named as filled hold zeros."
  unfoldable pub blank : Results
  unfolding zeros
  blank = record {
    substitution = zeros (n * suc n);
    marks = replicate n 0;
    way_back = zeros (n * suc n);
    reasons = zeros (n * suc m);
    conflict = zeros (suc m);
    tightened = zeros (k * suc n);
    used = replicate k 0;
  }

  -- equation conflict: "conflict filled", multipliers, then D
  unfoldable pub conflict_filled : List ℤ → ℕ → Results
  unfolding blank
  conflict_filled multipliers d = record {
    substitution = blank.substitution;
    marks = blank.marks;
    way_back = blank.way_back;
    reasons = blank.reasons;
    conflict = multipliers ++ pos d ∷ [];
    tightened = blank.tightened;
    used = blank.used;
  }

  -- open: "all but conflict filled"
  unfoldable pub all_filled : State → List (List ℤ) → List ℕ → Results
  unfolding zeros flat
  all_filled s rows used = record {
    substitution = flat s.substitution;
    marks = s.marks;
    way_back = flat s.way_back;
    reasons = flat s.reasons;
    conflict = zeros (suc m);
    tightened = flat rows;
    used = used;
  }

  -- ---- "n variables, 1..32; m equations, 0..32; k inequalities, 0..64."
  unfoldable pub in_range : Bool
  in_range = (leb 1 n && leb n 32) && (leb m 32 && leb k 64)

  -- "The input tables hold exactly m(n+1) and k(n+1) numbers."
  unfoldable pub right_lengths : List ℤ → List ℤ → Results → Bool
  right_lengths equations inequalities given =
      eqb (length equations) (m * suc n)
      && (eqb (length inequalities) (k * suc n)
      && (eqb (length given.substitution) (n * suc n)
      && (eqb (length given.marks) n
      && (eqb (length given.way_back) (n * suc n)
      && (eqb (length given.reasons) (n * suc m)
      && (eqb (length given.conflict) (suc m)
      && (eqb (length given.tightened) (k * suc n) && eqb (length given.used) k)))))))

  -- ---- "All k rows are worked before any conflict is looked for."
  unfoldable pub looked_at : ℕ → List (List ℤ) → Outcome
  unfolding first_row alone first_pair
  looked_at steps rows =
      let one = first_row (alone n) rows in
      let pair = first_pair n 1 rows in
      elim (eqb one 0) [
        | true ↦ elim (eqb pair.0 0) [ true ↦ Open steps | false ↦ TwoRowConflict pair.0 pair.1 steps ]
        | false ↦ OneRowConflict one steps
      ]

  unfoldable pub with_inequalities : List (List ℤ) → State → Answer
  unfolding sums used_by tightened_row first_row bounded looked_at all_filled blank
  with_inequalities inequalities s =
      let all = map (sums n s.substitution) inequalities in
      let bad = first_row (λ row. not (all_within row)) all in
      let rows = map (tightened_row n s) inequalities in
      elim (eqb bad 0) [
        | true ↦ record { outcome = looked_at s.steps rows; results = all_filled s rows (map (used_by m s) all) }
        | false ↦ record { outcome = Refused (LargeSum bad); results = blank }
      ]

  unfoldable pub after_run : List (List ℤ) → Ended → Answer
  unfolding with_inequalities conflict_filled blank
  after_run inequalities (finished s) = with_inequalities inequalities s
  after_run inequalities (conflicting row multipliers d steps) = record { outcome = EquationConflict row steps; results = conflict_filled multipliers d }
  after_run inequalities (too_large row steps) = record { outcome = Refused (TooLarge row steps); results = blank }

  -- ---- "Checks run in the order 1, 2, 3, then the run."
  unfoldable pub from_entries : List ℤ → List ℤ → Answer
  unfolding bounded bad_entry blank after_run elimination rows_of
  from_entries equations inequalities =
      elim (all_within equations) [
        | true ↦ elim (all_within inequalities) [
          | true ↦ after_run (rows_of (suc n) k inequalities) (elimination n m (rows_of (suc n) m equations))
          | false ↦ record { outcome = Refused (bad_entry (suc n) Inequalities inequalities); results = blank }
        ]
        | false ↦ record { outcome = Refused (bad_entry (suc n) Equations equations); results = blank }
      ]

  -- what a call answers, and the result tables after it, `given` being those before it
  unfoldable pub solve : List ℤ → List ℤ → Results → Answer
  unfolding in_range right_lengths from_entries
  solve equations inequalities given =
      elim in_range [
        | true ↦ elim (right_lengths equations inequalities given) [
          | true ↦ from_entries equations inequalities
          | false ↦ record { outcome = Refused WrongLength; results = given }
        ]
        | false ↦ record { outcome = Refused OutOfRange; results = given }
      ]
