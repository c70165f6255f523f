-- The rows in order, on tables: what holds before the next row, where one passes.
use mathlib.Core.Path.{◌≡◌, sym, ap, ◌∙◌}
use mathlib.Core.List.{List, ◌++◌}
use Prim.Native.Nat.{ℕ, suc, ◌+◌, ◌-◌, ◌*◌, ◌≤◌, ◌<◌}
use native.Mathlib.Numerals.{add-one}
use native.Mathlib.Omega.{arith}
use borrow.Rule.Slice.PartMut.{same_len_mid}
use lib.ListN.{length, set, take, drop, length-append, length-drop}
use lib.Seq.{take_at, take-set-le, get_or-set_same}
use lib.IntN.{ℤ, pos}
use Rattle.rows.specs.Row.{at, all_within}
use Rattle.rows.proofs.Lists.{row_next}
use Rattle.rows.proofs.TableLaws.{flat-rows_of}
use Rattle.rules.specs.Elimination.{work, passed, Ended}
use Rattle.steps.specs.Shown.{later_of}
use Rattle.closing.proofs.ShutTables.{rest-lent, rows_behind}
use Rattle.stepping.specs.Worked.{state_of, Working3, Results4}
use Rattle.all_rows.proofs.Order.{Ahead, tables-within, next-tail, row_inside, multipliers-inside, there, hand_at, later_at, answered, leaves, steps-few}

-- a list with other numbers from place a on
abbrev pub joined_at : {A : Type 0} → ℕ → List A → List A → List A
joined_at a l rest = take a l ++ (rest ++ drop (length l - a) (drop a l))

-- as many numbers as were lent from place a on
abbrev pub AsMany : {A : Type 0} → ℕ → List A → List A → Type 0
AsMany a l rest = length rest ≡ length (take (length l - a) (drop a l))

-- the tables after the work on a row are as long as before
pub record Returned (n m j : ℕ) (rows multipliers : List ℤ) (divisors : List ℕ) (substitution : List ℤ) (marks : List ℕ) (back reasons : List ℤ)
    (rows' multipliers' : List ℤ) (divisors' : List ℕ) (substitution' : List ℤ) (marks' : List ℕ) (back' reasons' : List ℤ) : Type 0 where
  pub rows_kept : AsMany (j * suc n) rows rows'
  pub multipliers_kept : AsMany (j * m) multipliers multipliers'
  pub divisors_kept : AsMany j divisors divisors'
  pub substitution_kept : length substitution' ≡ length substitution
  pub marks_kept : length marks' ≡ length marks
  pub back_kept : length back' ≡ length back
  pub reasons_kept : length reasons' ≡ length reasons

module _ {n m j : ℕ} {rows multipliers : List ℤ} {divisors : List ℕ} {substitution : List ℤ} {marks : List ℕ} {back reasons : List ℤ}
    {rows' multipliers' : List ℤ} {divisors' : List ℕ} {substitution' : List ℤ} {marks' : List ℕ} {back' reasons' : List ℤ}
    (k : Returned n m j rows multipliers divisors substitution marks back reasons rows' multipliers' divisors' substitution' marks' back' reasons') where
  -- the three tables in all, with the tail that has come back
  pub rows_long : length (joined_at (j * suc n) rows rows') ≡ length rows
  rows_long = same_len_mid (j * suc n) (length rows - j * suc n) rows rows' k.rows_kept

  pub multipliers-long : length (joined_at (j * m) multipliers multipliers') ≡ length multipliers
  multipliers-long = same_len_mid (j * m) (length multipliers - j * m) multipliers multipliers' k.multipliers_kept

  pub divisors-long : length (joined_at j divisors divisors') ≡ length divisors
  divisors-long = same_len_mid j (length divisors - j) divisors divisors' k.divisors_kept

module _ {goal : Ended} {n m : ℕ} {rows multipliers : List ℤ} {divisors : List ℕ} {substitution : List ℤ} {marks : List ℕ} {back reasons : List ℤ} {steps j : ℕ}
    (g : Ahead goal n m rows multipliers divisors substitution marks back reasons steps j) (more : j < m)
    {rows' multipliers' : List ℤ} {divisors' : List ℕ} {substitution' : List ℤ} {marks' : List ℕ} {back' reasons' : List ℤ}
    (k : Returned n m j rows multipliers divisors substitution marks back reasons rows' multipliers' divisors' substitution' marks' back' reasons') where
  -- and their tails from the next row on
  rows_next : drop ((j + 1) * suc n) (joined_at (j * suc n) rows rows') ≡ drop (suc n) rows'
  rows_next = rw (row_next (suc n) j) (next-tail (j * suc n) (suc n) rows rows' (omega (arith, row_inside g more)))

  multipliers-next : drop ((j + 1) * m) (joined_at (j * m) multipliers multipliers') ≡ drop m multipliers'
  multipliers-next = rw (row_next m j) (next-tail (j * m) m multipliers multipliers' (omega (arith, multipliers-inside g more)))

  divisors-next : drop (j + 1) (joined_at j divisors divisors') ≡ drop 1 divisors'
  divisors-next = next-tail j 1 divisors divisors' (omega (arith, g.many))

  -- the tail has a row for each divisor
  same-many : length divisors' ≡ length (drop j divisors)
  same-many = k.divisors_kept ∙ ap length (rest-lent j divisors)

  some : 1 ≤ length divisors'
  some = rw same-many (there g more)

  tail-rows : length rows' ≡ length divisors' * suc n
  tail-rows = k.rows_kept ∙ ap length (rest-lent (j * suc n) rows) ∙ g.working.rows_long ∙ ap (λ (i : ℕ). i * suc n) (sym same-many)

  tail-multipliers : length multipliers' ≡ length divisors' * m
  tail-multipliers = k.multipliers_kept ∙ ap length (rest-lent (j * m) multipliers) ∙ g.working.multipliers_long ∙ ap (λ (i : ℕ). i * m) (sym same-many)

  module _ (next : ℕ) (e : passed (later_of n m rows' multipliers' divisors') (state_of n m substitution' marks' back' reasons' next) ≡ work all_within n (hand_at n m rows multipliers divisors j) (later_at n m rows multipliers divisors j) (state_of n m substitution marks back reasons steps)) where
    tail-next : Working3 n m (drop (suc n) rows') (drop m multipliers') (drop 1 divisors')
    tail-next =
        let rows_are = rows_behind (suc n) rows' divisors' some tail-rows in
        let multipliers-are = rows_behind m multipliers' divisors' some tail-multipliers in
        let good = leaves g more (later_of n m rows' multipliers' divisors') (state_of n m substitution' marks' back' reasons' next) e in
        let within = tables-within (suc n) m (drop (suc n) rows') (drop m multipliers') (drop 1 divisors') rows_are multipliers-are good.rows in
        record { rows_long = rows_are; multipliers_long = multipliers-are; rows_within = within.0; multipliers_within = within.1; divisors_good = within.2 }

    results_next : Results4 n m substitution' marks' back' reasons'
    results_next =
        let r = g.results in
        let good = leaves g more (later_of n m rows' multipliers' divisors') (state_of n m substitution' marks' back' reasons' next) e in
        let long = k.substitution_kept ∙ r.substitution_long in
        let back_long = k.back_kept ∙ r.way_back_long in
        record {
          small = r.small;
          substitution_long = long;
          marks_long = k.marks_kept ∙ r.marks_long;
          way_back_long = back_long;
          reasons_long = k.reasons_kept ∙ r.reasons_long;
          substitution_within = ap all_within (sym (flat-rows_of (suc n) n substitution' long)) ∙ good.state.substitution;
          way_back_within = ap all_within (sym (flat-rows_of (suc n) n back' back_long)) ∙ good.state.way_back;
        }

    pub ahead-next : Ahead goal n m (joined_at (j * suc n) rows rows') (joined_at (j * m) multipliers multipliers') (joined_at j divisors divisors') substitution' marks' back' reasons' next (j + 1)
    ahead-next =
        let after = passed (later_of n m rows' multipliers' divisors') (state_of n m substitution' marks' back' reasons' next) in
        let up : suc (j + 1) ≡ suc (suc j) = ap suc (add-one j) in
        record {
          inside = omega arith;
          rows_long = rows_long k ∙ g.rows_long;
          multipliers_long = multipliers-long k ∙ g.multipliers_long;
          many = divisors-long k ∙ g.many;
          working = rw (rows_next, multipliers-next, divisors-next) tail-next;
          results = results_next;
          few = steps-few g more (later_of n m rows' multipliers' divisors') (state_of n m substitution' marks' back' reasons' next) e;
          same = rw (rows_next, multipliers-next, divisors-next, up) (answered g more after e);
        }

-- a conflict in its table: the multipliers, and D behind them
pub conflict-noted : (m : ℕ) (copied conflict : List ℤ) (d : ℤ) → length copied ≡ m → length conflict ≡ suc m
    → (take m (set (copied ++ drop m conflict) m d) ≡ copied) × (at (set (copied ++ drop m conflict) m d) m ≡ d)
conflict-noted m copied conflict d long table = (
  take-set-le m (copied ++ drop m conflict) m d (omega arith) ∙ take_at copied (drop m conflict) m long,
  get_or-set_same (copied ++ drop m conflict) m d (pos 0) (simp (length-append, length-drop) (omega arith)),
)
