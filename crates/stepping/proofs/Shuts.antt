-- What the answers of `turn` and `close` mean for the steps of the row in hand.
use mathlib.Core.Path.{◌≡◌, sym, ap, ap₂, ◌∙◌, subst₂}
use mathlib.Core.Bool.{true, false}
use mathlib.Core.List.{List, map}
use Prim.Native.Nat.{ℕ, suc, ◌+◌, ◌≤◌}
use native.Mathlib.Numerals.{add-one}
use lib.Dec.{eqb}
use lib.ListN.{length, get_or, take}
use lib.IntN.{ℤ, nat_abs}
use Rattle.rows.specs.Row.{scaled, all_within}
use Rattle.rows.specs.Table.{rows_of}
use Rattle.rules.specs.Elimination.{Carried, stepped, one_more, closed, reason_of, corrected, closing, stepping, Worked, passed, large}
use Rattle.steps.specs.Shown.{tried, later_of}
use Rattle.turning.specs.Turned.{listed_turn, turned_tables, turn_of}
use Rattle.closing.specs.Shut.{Shut, shut, listed_shut, shut_tables, shut_of}
use Rattle.stepping.specs.Worked.{state_of, in_hand}
use Rattle.stepping.proofs.Turns.{tried-beyond, tried-true, tried-made, listed-turned, stepping-large, stepping-closes, stepping-more, closing-large, closing-passes}
use Rattle.stepping.proofs.Made.{first_step, Steps}

module _ (n m most count : ℕ) (rows multipliers : List ℤ) (divisors : List ℕ) (substitution : List ℤ) (marks : List ℕ) (back reasons : List ℤ) where
  -- the steps of the row in hand, as the tables show it
  abbrev pub ahead : Worked
  ahead = stepping all_within n (suc most) (in_hand n m rows multipliers divisors) (later_of n m rows multipliers divisors) (state_of n m substitution marks back reasons count)

  -- a number listed by (c) is beyond the limit
  pub too_far : 1 ≤ length divisors → (rows' substitution' back' : List ℤ)
      → tried false (turned_tables n (length divisors) rows' substitution' back') ≡ turn_of n (length divisors) rows substitution back
      → large count ≡ ahead
  too_far some rows' substitution' back' e =
      let s = state_of n m substitution marks back reasons count in
      let all = listed_turn n (first_step n rows) (rows_of (suc n) (length divisors) rows) (rows_of (suc n) n substitution) (rows_of (suc n) n back) in
      sym (stepping-large n most (in_hand n m rows multipliers divisors) (later_of n m rows multipliers divisors) s
      (ap all_within (listed-turned n m (first_step n rows) rows multipliers divisors s some) ∙ tried-beyond (all_within all) _ e))

  module _ (column : ℕ) (lead : ℤ) (rows' substitution' back' : List ℤ)
      (made : Steps n m rows multipliers divisors substitution marks back reasons column lead rows' substitution' back') where
    -- the step counts
    counts : one_more (state_of n m substitution' marks back' reasons count) ≡ state_of n m substitution' marks back' reasons (count + 1)
    unfolding one_more
    counts = ap (state_of n m substitution' marks back' reasons) (sym (add-one count))

    -- the next step is of the tables as they are now
    pub goes_on : eqb (nat_abs lead) 1 ≡ false
        → ahead ≡ stepping all_within n most (in_hand n m rows' multipliers divisors) (later_of n m rows' multipliers divisors) (state_of n m substitution' marks back' reasons (count + 1))
    goes_on c =
        let e = in_hand n m rows multipliers divisors in
        let l = later_of n m rows multipliers divisors in
        let s = state_of n m substitution marks back reasons count in
        stepping-more n most e l s (made.listed count) (ap (λ z. eqb (nat_abs z) 1) (sym made.lead_is) ∙ c)
        ∙ ap₂ (λ (x : Carried) (y : List Carried). stepping all_within n most x y (one_more (stepped n (first_step n rows) s))) (sym made.hand) (sym made.later)
        ∙ ap (stepping all_within n most (in_hand n m rows' multipliers divisors) (later_of n m rows' multipliers divisors)) (ap one_more (sym (made.state count)) ∙ counts)

    -- the column closes: by the tables after (c), and then after (d)
    module _ (one : eqb (nat_abs lead) 1 ≡ true) where
      d : ℕ
      d = get_or divisors 0 0

      reason : List ℤ
      reason = scaled lead (take m multipliers)

      at-closing : ahead ≡ closing all_within n (first_step n rows) (in_hand n m rows' multipliers divisors) (later_of n m rows' multipliers divisors) (state_of n m substitution' marks back' reasons count)
      at-closing =
          let e = in_hand n m rows multipliers divisors in
          let l = later_of n m rows multipliers divisors in
          let s = state_of n m substitution marks back reasons count in
          stepping-closes n most e l s (made.listed count) (ap (λ z. eqb (nat_abs z) 1) (sym made.lead_is) ∙ one)
          ∙ ap₂ (λ (x : Carried) (y : List Carried). closing all_within n (first_step n rows) x y (stepped n (first_step n rows) s)) (sym made.hand) (sym made.later)
          ∙ ap (closing all_within n (first_step n rows) (in_hand n m rows' multipliers divisors) (later_of n m rows' multipliers divisors)) (sym (made.state count))

      -- the definitions' reason, and all that they list, are those of the code
      reason-is : reason_of (first_step n rows) (in_hand n m rows' multipliers divisors) ≡ reason
      unfolding reason_of reason
      reason-is = ap (λ z. scaled z (take m multipliers)) (sym made.lead_is)

      turn-over : (P : ℕ → List ℤ → Type 0) → P column reason → P (first_step n rows).column (reason_of (first_step n rows) (in_hand n m rows' multipliers divisors))
      turn-over P p = subst₂ P made.column_is (sym reason-is) p

      module _ (rows'' multipliers'' : List ℤ) (divisors'' marks'' : List ℕ) (reasons'' : List ℤ) where
        later' : List Carried
        later' = later_of n m rows' multipliers divisors

        pub shut-large : tried false (shut_tables n m rows'' multipliers'' divisors'' marks'' reasons'')
            ≡ shut_of n m column lead rows' multipliers divisors marks reasons
            → large count ≡ ahead
        unfolding reason d later'
        shut-large e =
            sym (at-closing
            ∙ closing-large n (first_step n rows) (in_hand n m rows' multipliers divisors) later' (state_of n m substitution' marks back' reasons count)
            (turn-over (λ k r. all_within (listed_shut k d r later') ≡ false) (tried-beyond _ _ e)))

        shown : shut_tables n m rows'' multipliers'' divisors'' marks'' reasons'' ≡ shut column d reason later' marks (rows_of (suc m) n reasons)
            → passed (later_of n m rows'' multipliers'' divisors'') (state_of n m substitution' marks'' back' reasons'' (count + 1))
            ≡ passed (map (corrected column d reason) later') (one_more (closed column d reason (state_of n m substitution' marks back' reasons count)))
        unfolding one_more closed
        shown x =
            ap₂ (λ (s : Shut) (c : ℕ). passed s.later (record {
              substitution = rows_of (suc n) n substitution';
              way_back = rows_of (suc n) n back';
              marks = s.marks;
              reasons = s.reasons;
              steps = c;
            }))
            x
            (add-one count)

        pub shut-passes : tried true (shut_tables n m rows'' multipliers'' divisors'' marks'' reasons'')
            ≡ shut_of n m column lead rows' multipliers divisors marks reasons
            → passed (later_of n m rows'' multipliers'' divisors'') (state_of n m substitution' marks'' back' reasons'' (count + 1)) ≡ ahead
        unfolding reason d later'
        shut-passes e =
            let s = state_of n m substitution' marks back' reasons count in
            let fit = all_within (listed_shut column d reason later') in
            let wanted = shut column d reason later' marks (rows_of (suc m) n reasons) in
            let tables = shut_tables n m rows'' multipliers'' divisors'' marks'' reasons'' in
            let after : ℕ → List ℤ → Worked = λ k r. passed (map (corrected k d r) later') (one_more (closed k d r s)) in
            shown (tried-made tables fit wanted e)
            ∙ ap₂ after made.column_is (sym reason-is)
            ∙ sym (at-closing ∙ closing-passes n (first_step n rows) (in_hand n m rows' multipliers divisors) later' s (turn-over (λ k r. all_within (listed_shut k d r later') ≡ true) (tried-true tables fit wanted e)))
