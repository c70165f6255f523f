-- The checker says yes to a conflict table whose multipliers and D are small enough and refute the equations.
use mathlib.Core.Path.{◌≡◌, refl, ap, ap₂, ◌∙◌}
use mathlib.Core.Bool.{true, ◌&&◌}
use mathlib.Core.List.{List, [], ◌∷◌, ◌++◌}
use Prim.Native.Nat.{ℕ, suc, ◌*◌, ◌^◌, ◌≤◌}
use native.Mathlib.Nat.{le_trans}
use native.Mathlib.Numerals.{add-one}
use borrow.Author.Tests.{le-leb}
use lib.Dec.{leb, lit≤}
use lib.ListN.{length, take, length-append}
use lib.Seq.{get_or_at, take_at}
use lib.IntN.{ℤ, pos, nat_abs}
use Rattle.whole.specs.Limit.{W}
use Rattle.rows.specs.Row.{at, all_within}
use Rattle.rows.specs.Table.{rows_of}
use Rattle.rows.proofs.Bounded.{and_left, and_right, and_both}
use Rattle.rules.specs.Numbers.{of_verdict}
use Rattle.rules.specs.Outcomes.{in_range}
use Rattle.rules.specs.Checker.{refutes, good_d, check}
use Rattle.promises.proofs.YesMeans.{yes-exactly}

pub says-yes : (n m k : ℕ) (equations multipliers : List ℤ) (d : ℕ) → in_range n m k ≡ true → length equations ≡ m * suc n
    → all_within equations ≡ true → length multipliers ≡ m → all_within multipliers ≡ true → d ≤ W * W
    → refutes n multipliers d (rows_of (suc n) m equations) ≡ true → of_verdict (check n m equations (multipliers ++ pos d ∷ [])) ≡ 1 ∷ []
unfolding good_d in_range
says-yes n m k equations multipliers d range long within l w small refuted =
    (yes-exactly n m equations table).1 (
      record {
        range = in-range;
        lengths = (long, length-append multipliers (pos d ∷ []) ∙ add-one (length multipliers) ∙ ap suc l);
        entries = within;
        multipliers = ap all_within multipliers-first ∙ w;
        d = ap good_d d-last ∙ good;
      },
      ap₂ (λ r z. refutes n r (nat_abs z) (rows_of (suc n) m equations)) multipliers-first d-last ∙ refuted,
    )
  where
    table : List ℤ
    table = multipliers ++ pos d ∷ []

    multipliers-first : take m table ≡ multipliers
    multipliers-first = take_at multipliers (pos d ∷ []) m l

    d-last : at table m ≡ pos d
    d-last = get_or_at multipliers (pos d) [] (pos 0) m l

    -- the number of inequalities is of no account
    in-range : in_range n m 0 ≡ true
    in-range =
        let variables = leb 1 n && leb n 32 in
        and_both (and_left variables (leb m 32 && leb k 64) range)
        (and_both (and_left (leb m 32) (leb k 64) (and_right variables (leb m 32 && leb k 64) range)) refl)

    good : good_d (pos d) ≡ true
    good = le-leb d (2 ^ 56) (le_trans small (lit≤ tt))
