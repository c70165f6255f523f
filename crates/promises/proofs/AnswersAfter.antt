-- What an answer says after the run over the equations: by the state that it finished in, its conflict, or refusal 4.
use mathlib.Core.Path.{◌≡◌, refl, sym, ap, ap₂, ◌∙◌, subst}
use mathlib.Core.Bool.{Bool, true, false}
use mathlib.Core.List.{List, [], ◌∷◌, map}
use Prim.Native.Nat.{ℕ, suc, ◌*◌, ◌-◌, ◌<◌}
use native.Mathlib.Omega.{arith}
use borrow.Author.Tests.{eqb-true, eqb-false}
use lib.Dec.{eqb}
use lib.ListN.{length, length-map, get_or-append}
use lib.IntN.{ℤ, pos, nat_abs}
use Rattle.rows.specs.Row.{at, all_within}
use Rattle.rows.specs.Table.{rows_of, flat, Wide}
use Rattle.rows.proofs.Bounded.{and_left, and_right}
use Rattle.rows.proofs.TableLaws.{rows_of-flat, length-rows_of, wide-rows_of, row_of, length-row_at}
use Rattle.rules.specs.declared.Refusal.TheVariants.{LargeSum}
use Rattle.rules.specs.declared.Outcome.TheVariants.{Open, OneRowConflict, TwoRowConflict, Refused}
use Rattle.rules.specs.Numbers.{of_outcome}
use Rattle.rules.specs.Checker.{refutes}
use Rattle.rules.specs.Elimination.{State, Ended, finished, conflicting, too_large, elimination}
use Rattle.rules.specs.Inequalities.{sums, used_by, tightened_row, first_row, alone, against, first_pair}
use Rattle.rules.specs.Outcomes.{Results, blank, right_lengths, all_filled, conflict_filled, looked_at, with_inequalities, after_run}
use Rattle.promises.specs.Meaning.{row_number, set_number, Counts, Meets, Satisfies, SatisfiesSet}
use Rattle.promises.specs.Solutions.{Solved}
use Rattle.promises.specs.Rows.{Tightened}
use Rattle.promises.specs.Refusals.{Taken, four, five}
use Rattle.promises.specs.Answers.{shown, Filled, OneRowUnmet, TwoRowsUnmet, EquationsUnmet}
use Rattle.promises.specs.Answers.{Says, opened, equation_conflict, one_row_conflict, two_row_conflict, zeroed, Promised}
use Rattle.promises.proofs.Checked.{holds_at, checked-used}
use Rattle.promises.proofs.Runs.{Held, Right, run-right}
use Rattle.promises.proofs.Solved.{solved, solvable, refuted, unsolvable}
use Rattle.promises.proofs.Tight.{length-tightened}
use Rattle.promises.proofs.Tightened.{tightened}
use Rattle.promises.proofs.Pairs.{one-row, two-rows}
use Rattle.promises.proofs.AnswersLong.{LongEnded, run_long}
use Rattle.promises.proofs.AnswersWithin.{SmallEnded, run_small}
use Rattle.promises.proofs.AnswersFound.{map_at, meets_at, first-row, first-pair}
use Rattle.promises.proofs.AnswersYes.{says-yes}
use Rattle.promises.proofs.Refusals.{is_large, sums-within, lowest-large, listed-large}

-- the rows of a flat table that was made of rows
rows_back : (width count : ℕ) (rows : List (List ℤ)) → length rows ≡ count → Wide width rows → rows_of width count (flat rows) ≡ rows
rows_back width count rows l w = subst (λ c. rows_of width c (flat rows) ≡ rows) l (rows_of-flat width rows w)

wide-tightened : (n : ℕ) (s : State) (inequalities : List (List ℤ)) → Wide (suc n) (map (tightened_row n s) inequalities)
wide-tightened n s [] = tt
wide-tightened n s (inequality ∷ inequalities) = (length-tightened n s inequality, wide-tightened n s inequalities)

-- the input tables hold as many numbers as they should
pub input-lengths : (n m k : ℕ) (equations inequalities : List ℤ) (given : Results) → right_lengths n m k equations inequalities given ≡ true
    → (length equations ≡ m * suc n) × (length inequalities ≡ k * suc n)
unfolding right_lengths
input-lengths n m k equations inequalities given e = (
  eqb-true (length equations) (m * suc n) (and_left (eqb (length equations) (m * suc n)) _ e),
  eqb-true (length inequalities) (k * suc n)
      (and_left (eqb (length inequalities) (k * suc n)) _ (and_right (eqb (length equations) (m * suc n)) _ e)),
)

module _ (n m k : ℕ) (equations inequalities : List ℤ) (given : Results) (taken : Taken n m k equations inequalities given) where
  -- the input tables as rows
  abbrev E : List (List ℤ)
  E = rows_of (suc n) m equations

  abbrev I : List (List ℤ)
  I = rows_of (suc n) k inequalities

  long-inputs : (length equations ≡ m * suc n) × (length inequalities ≡ k * suc n)
  long-inputs = input-lengths n m k equations inequalities given taken.0.1

  long-E : length E ≡ m
  long-E = length-rows_of (suc n) m equations

  wide-E : Wide (suc n) E
  wide-E = wide-rows_of (suc n) m equations long-inputs.0

  long-I : length I ≡ k
  long-I = length-rows_of (suc n) k inequalities

  long-inequality : (i : ℕ) → Counts i k → length (row_number i I) ≡ suc n
  long-inequality i c =
      let inside : i - 1 < k = omega arith in
      ap length (row_of (suc n) k (i - 1) inequalities inside) ∙ length-row_at (suc n) k (i - 1) inequalities inside long-inputs.1

  -- ---- the run finished in state s
  module _ (s : State) (done : elimination n m E ≡ finished s) where
    rows : List (List ℤ)
    rows = map (tightened_row n s) I

    long-rows : length rows ≡ k
    unfolding rows
    long-rows = length-map I (tightened_row n s) ∙ long-I

    results : Results
    results = all_filled n m k s rows (map (used_by m s) (map (sums n s.substitution) I))

    -- the tables show that state
    same : shown n m s.steps results ≡ s
    unfolding results all_filled elimination
    same =
        let held : Held n m E s [] = subst (Right n m E) done (run-right all_within n m E wide-E long-E) in
        λ i. record {
          substitution = rows_back (suc n) n s.substitution held.0.long_x held.0.wide_x i;
          way_back = rows_back (suc n) n s.way_back held.0.long_y held.0.wide_y i;
          marks = s.marks;
          reasons = rows_back (suc m) n s.reasons held.0.long_reasons (subst (LongEnded m) done (run_long m all_within n E)) i;
          steps = s.steps;
        }

    number : (i : ℕ) → Counts i k → row_number i rows ≡ tightened_row n s (row_number i I)
    unfolding rows
    number i c = map_at (tightened_row n s) I (i - 1) [] [] (omega (arith, long-I))

    set : (i : ℕ) → Counts i k → set_number i results.used ≡ used_by m s (sums n s.substitution (row_number i I))
    unfolding results all_filled
    set i c =
        let all = map (sums n s.substitution) I in
        map_at (used_by m s) all (i - 1) [] 0 (omega (arith, long-I, length-map I (sums n s.substitution)))
        ∙ ap (used_by m s) (map_at (sums n s.substitution) I (i - 1) [] [] (omega (arith, long-I)))

    -- no sum is beyond the limit
    module _ (fit : first_row is_large (map (sums n s.substitution) I) ≡ 0) where
      filled : Filled n m k E I s.steps results
      unfolding elimination results rows all_filled
      filled = record {
        solvable = solvable all_within n m E long-E wide-E s done;
        solved = subst (Solved n m E) (sym same) (solved all_within n m E long-E wide-E s done);
        inequality = λ i c. record {
          row =
              ap (row_number i) (rows_back (suc n) k rows long-rows (wide-tightened n s I)) ∙ number i c
              ∙ ap (λ t. tightened_row n t (row_number i I)) (sym same);
          set = set i c ∙ ap (λ t. used_by m t (sums n t.substitution (row_number i I))) (sym same);
          within = subst (λ t. all_within (sums n t.substitution (row_number i I)) ≡ true) (sym same) (sums-within n k I long-I s i c (omega arith));
          tightened =
              subst (λ t. Tightened n m E t (row_number i I)) (sym same)
              (tightened all_within n m E long-E wide-E s done (row_number i I) (long-inequality i c));
        };
        no_conflict = refl;
      }

      -- what holds of all equations holds of any set of them
      all_of : (x : List ℤ) (some : ℕ) → Satisfies x E → SatisfiesSet x E some
      all_of x some holds j inside there = holds_at x E holds j inside

      one-unmet : (first_row (alone n) rows ≡ 0 → ⊥) → OneRowUnmet n m k E I s.steps results (first_row (alone n) rows)
      unfolding elimination
      one-unmet some = record {
        filled = filled;
        counts = counts;
        never = never;
        whole = λ x l holds meets. never x l (meets_at x I meets (i - 1) (omega (arith, long-I, counts))) (all_of x _ holds);
      }
        where
          i : ℕ
          i = first_row (alone n) rows

          counts : Counts i k
          counts = omega (arith, long-rows, (first-row (alone n) rows some).0)

          never : (x : List ℤ) → length x ≡ n → Meets x (row_number i I) → SatisfiesSet x E (set_number i results.used) → ⊥
          never x l meets holds =
              one-row all_within n m E long-E wide-E s done (row_number i I) (long-inequality i counts)
              (ap (alone n) (sym (number i counts)) ∙ (first-row (alone n) rows some).1)
              x l meets (subst (SatisfiesSet x E) (set i counts) holds)

      two-unmet : ((first_pair n 1 rows).0 ≡ 0 → ⊥)
          → TwoRowsUnmet n m k E I s.steps results (first_pair n 1 rows).0 (first_pair n 1 rows).1
      unfolding elimination
      two-unmet some = record {
        filled = filled;
        counts = (i-counts, j-counts);
        ordered = (first-pair n rows some).1;
        never = never;
        whole = λ x l holds meets.
            never x l (meets_at x I meets (i - 1) (omega (arith, long-I, i-counts))) (meets_at x I meets (j - 1) (omega (arith, long-I, j-counts)))
            (all_of x _ holds) (all_of x _ holds);
      }
        where
          i : ℕ
          i = (first_pair n 1 rows).0

          j : ℕ
          j = (first_pair n 1 rows).1

          i-counts : Counts i k
          i-counts = omega (arith, long-rows, (first-pair n rows some).0.0)

          j-counts : Counts j k
          j-counts = omega (arith, long-rows, (first-pair n rows some).0.1)

          never : (x : List ℤ) → length x ≡ n → Meets x (row_number i I) → Meets x (row_number j I)
              → SatisfiesSet x E (set_number i results.used) → SatisfiesSet x E (set_number j results.used) → ⊥
          never x l i-meets j-meets i-holds j-holds =
              two-rows all_within n m E long-E wide-E s done (row_number i I) (row_number j I) (long-inequality i i-counts) (long-inequality j j-counts)
              (ap₂ (against n) (sym (number i i-counts)) (sym (number j j-counts)) ∙ (first-pair n rows some).2)
              x l i-meets j-meets (subst (SatisfiesSet x E) (set i i-counts) i-holds) (subst (SatisfiesSet x E) (set j j-counts) j-holds)

      looked : Says n m k equations inequalities given results (of_outcome (looked_at n m k s.steps rows))
      unfolding looked_at of_outcome
      looked = go (eqb (first_row (alone n) rows) 0) refl (eqb (first_pair n 1 rows).0 0) refl
        where
          go : (b : Bool) → eqb (first_row (alone n) rows) 0 ≡ b → (b' : Bool) → eqb (first_pair n 1 rows).0 0 ≡ b'
              → Says n m k equations inequalities given results (of_outcome (elim b [
                | true ↦ elim b' [ true ↦ Open s.steps | false ↦ TwoRowConflict (first_pair n 1 rows).0 (first_pair n 1 rows).1 s.steps ]
                | false ↦ OneRowConflict (first_row (alone n) rows) s.steps
              ]))
          go true e true f = opened filled
          go true e false f = two_row_conflict (two-unmet (eqb-false (first_pair n 1 rows).0 0 f))
          go false e b' f = one_row_conflict (one-unmet (eqb-false (first_row (alone n) rows) 0 e))

    kept-finished : Promised n m k equations inequalities given (with_inequalities n m k I s)
    unfolding with_inequalities results rows of_outcome
    kept-finished = go (eqb bad 0) refl
      where
        bad : ℕ
        bad = first_row is_large (map (sums n s.substitution) I)

        go : (b : Bool) → eqb bad 0 ≡ b → Promised n m k equations inequalities given (elim b [
          | true ↦ record { outcome = looked_at n m k s.steps rows; results = results }
          | false ↦ record { outcome = Refused (LargeSum bad); results = blank n m k }
        ])
        go true e = looked (eqb-true bad 0 e)
        go false e = zeroed {number = 5} (omega arith) (five taken (lowest-large n k I long-I s m E done (eqb-false bad 0 e))) refl

  -- ---- the run ended in a conflict
  unmet-equations : (row : ℕ) (multipliers : List ℤ) (d steps : ℕ) → elimination n m E ≡ conflicting row multipliers d steps
      → EquationsUnmet n m equations row (conflict_filled n m k multipliers d)
  unfolding elimination conflict_filled
  unmet-equations row multipliers d steps e =
      let (low, high, l) = subst (LongEnded m) e (run_long m all_within n E) in
      let (w, small) = subst SmallEnded e (run_small n m equations taken.1) in
      record {
        counts = (low, high);
        unsolvable = unsolvable all_within n m E long-E wide-E row multipliers d steps e;
        never = λ x h holds.
            checked-used n multipliers d E wide-E refutes-E x h
            (λ j b z. holds j (omega (arith, long-E))
            (λ none. eqb-false (nat_abs (at multipliers j)) 0 z
            (ap nat_abs (sym (get_or-append multipliers (pos d ∷ []) (pos 0) j (omega (arith, long-E, l))) ∙ none))));
        yes = says-yes n m k equations multipliers d taken.0.0 long-inputs.0 taken.1 l w small refutes-E;
      }
    where
      refutes-E : refutes n multipliers d E ≡ true
      refutes-E = refuted all_within n m E long-E wide-E row multipliers d steps e

  -- ---- however it ended
  pub kept-after : (ended : Ended) → elimination n m E ≡ ended → Promised n m k equations inequalities given (after_run n m k I ended)
  unfolding after_run of_outcome conflict_filled blank
  kept-after (finished s) e = kept-finished s e
  kept-after (conflicting row multipliers d steps) e = equation_conflict (unmet-equations row multipliers d steps e) refl
  kept-after (too_large row steps) e = zeroed {number = 4} (omega arith) (four taken (listed-large n m E long-E wide-E row steps e)) refl
