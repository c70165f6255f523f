-- The rows that tables show, each with its multipliers and divisor: what stands at row r, what the tables show once row r of each is
-- replaced, and a loop that replaces one after the other up to the first that is refused.
use mathlib.Core.Path.{◌≡◌, refl, sym, ap, ap₂, ◌∙◌}
use mathlib.Core.Bool.{Bool, true, false, ◌&&◌}
use mathlib.Core.List.{List, [], ◌∷◌, map}
use Prim.Native.Nat.{ℕ, zero, suc, ◌+◌, ◌*◌, ◌≤◌, ◌<◌}
use native.Mathlib.Omega.{arith}
use lib.ListN.{length, get_or, set, take, drop, length-set, drop_of_length-le}
use lib.IntN.{ℤ}
use Rattle.whole.specs.Limit.{W}
use Rattle.rows.specs.Row.{all_within}
use Rattle.rows.specs.Table.{rows_of, flat, row_at, set_row}
use Rattle.rows.proofs.Lists.{tail_at}
use Rattle.rows.proofs.Sweep.{Swept, swept-start, swept-read, swept_step, swept-end}
use Rattle.rows.proofs.Bounded.{bounded-nil, bounded-append}
use Rattle.rows.proofs.TableLaws.{length-rows_of, length-set_row, row_of, rows_of-set_row}
use Rattle.rules.specs.Elimination.{Carried}
use Rattle.steps.specs.Shown.{carry, carried_of, Divisor, Divisors}

-- what stands past the last row
abbrev nothing : Carried
nothing = carry [] [] 0

-- ---- rows, multipliers and divisors side by side
together : List (List ℤ) → List (List ℤ) → List ℕ → List Carried
together [] multipliers divisors = []
together (row ∷ rows) [] divisors = []
together (row ∷ rows) (m ∷ multipliers) [] = []
together (row ∷ rows) (m ∷ multipliers) (d ∷ divisors) = carry row m d ∷ together rows multipliers divisors

together_at : (rows multipliers : List (List ℤ)) (divisors : List ℕ) (r : ℕ) → length rows ≡ length divisors → length multipliers ≡ length divisors
    → get_or (together rows multipliers divisors) r nothing ≡ carry (get_or rows r []) (get_or multipliers r []) (get_or divisors r 0)
unfolding together
together_at [] [] [] r e f = refl
together_at [] [] (d ∷ divisors) r e f = absurd (omega arith)
together_at [] (m ∷ multipliers) divisors r e f = absurd (omega arith)
together_at (row ∷ rows) [] divisors r e f = absurd (omega arith)
together_at (row ∷ rows) (m ∷ multipliers) [] r e f = absurd (omega arith)
together_at (row ∷ rows) (m ∷ multipliers) (d ∷ divisors) zero e f = refl
together_at (row ∷ rows) (m ∷ multipliers) (d ∷ divisors) (suc r) e f = together_at rows multipliers divisors r (omega arith) (omega arith)

together-set : (rows multipliers : List (List ℤ)) (divisors : List ℕ) (r : ℕ) (row m : List ℤ) (d : ℕ)
    → together (set rows r row) (set multipliers r m) (set divisors r d) ≡ set (together rows multipliers divisors) r (carry row m d)
unfolding together
together-set [] multipliers divisors r row m d = refl
together-set (a ∷ rows) [] divisors zero row m d = refl
together-set (a ∷ rows) [] divisors (suc r) row m d = refl
together-set (a ∷ rows) (b ∷ multipliers) [] zero row m d = refl
together-set (a ∷ rows) (b ∷ multipliers) [] (suc r) row m d = refl
together-set (a ∷ rows) (b ∷ multipliers) (e ∷ divisors) zero row m d = refl
together-set (a ∷ rows) (b ∷ multipliers) (e ∷ divisors) (suc r) row m d =
    ap (λ (l : List Carried). carry a b e ∷ l) (together-set rows multipliers divisors r row m d)

-- ---- the same of flat tables
-- row r with its multipliers and divisor
abbrev pub standing : ℕ → ℕ → List ℤ → List ℤ → List ℕ → ℕ → Carried
standing w m rows multipliers divisors r = carry (row_at w r rows) (row_at m r multipliers) (get_or divisors r 0)

module _ (w m : ℕ) where
  shown : (rows multipliers : List ℤ) (divisors : List ℕ)
      → carried_of w m rows multipliers divisors ≡ together (rows_of w (length divisors) rows) (rows_of m (length divisors) multipliers) divisors
  unfolding carried_of rows_of together
  shown rows multipliers [] = refl
  shown rows multipliers (d ∷ divisors) =
      ap (λ (l : List Carried). carry (take w rows) (take m multipliers) d ∷ l) (shown (drop w rows) (drop m multipliers) divisors)

  length-carried : (rows multipliers : List ℤ) (divisors : List ℕ) → length (carried_of w m rows multipliers divisors) ≡ length divisors
  unfolding carried_of
  length-carried rows multipliers [] = refl
  length-carried rows multipliers (d ∷ divisors) = ap suc (length-carried (drop w rows) (drop m multipliers) divisors)

  module _ (rows multipliers : List ℤ) (divisors : List ℕ) (r : ℕ) (h : r < length divisors) where
    carried-at : get_or (carried_of w m rows multipliers divisors) r nothing ≡ standing w m rows multipliers divisors r
    carried-at =
        let n = length divisors in
        rw shown
        (together_at (rows_of w n rows) (rows_of m n multipliers) divisors r (length-rows_of w n rows) (length-rows_of m n multipliers)
        ∙ ap₂ (λ (a b : List ℤ). carry a b (get_or divisors r 0)) (row_of w n r rows h) (row_of m n r multipliers h))

    carried-set : (row multiples : List ℤ) (d : ℕ) → length rows ≡ length divisors * w → length multipliers ≡ length divisors * m
        → length row ≡ w → length multiples ≡ m
        → carried_of w m (set_row w r row rows) (set_row m r multiples multipliers) (set divisors r d)
        ≡ set (carried_of w m rows multipliers divisors) r (carry row multiples d)
    carried-set row multiples d e f a b =
        let n = length divisors in
        shown (set_row w r row rows) (set_row m r multiples multipliers) (set divisors r d)
        ∙ rw (length-set divisors r d, rows_of-set_row w n r rows row h e a, rows_of-set_row m n r multipliers multiples h f b)
        (together-set (rows_of w n rows) (rows_of m n multipliers) divisors r row multiples d)
        ∙ ap (λ (l : List Carried). set l r (carry row multiples d)) (sym (shown rows multipliers divisors))

-- ---- each divisor lies in 1..W
pub divisor-at : (divisors : List ℕ) (r : ℕ) → r < length divisors → Divisors divisors → Divisor (get_or divisors r 0)
divisor-at [] r h e = absurd (omega arith)
divisor-at (d ∷ divisors) zero h e = e.0
divisor-at (d ∷ divisors) (suc r) h e = divisor-at divisors r (omega arith) e.1

-- ---- the rows are taken in order: f gives what becomes of a row, and `listed` its numbers that are tested
module _ (w m : ℕ) (f : Carried → Carried) (listed : Carried → List ℤ) (rows₀ multipliers₀ : List ℤ) (divisors₀ : List ℕ) where
  -- the rows before row r have become what f gives, and all that is listed of them is within the limit; the others are as at first
  pub record Later (rows multipliers : List ℤ) (divisors : List ℕ) (r : ℕ) : Type 0 where
    pub rows_long : length rows ≡ length divisors₀ * w
    pub multipliers-long : length multipliers ≡ length divisors₀ * m
    pub divisors-long : length divisors ≡ length divisors₀
    pub sweep : let all = carried_of w m rows₀ multipliers₀ divisors₀ in
        Swept all (carried_of w m rows multipliers divisors) (map f all) r (map f (drop r all))
    pub fits : let all = carried_of w m rows₀ multipliers₀ divisors₀ in
        all_within (flat (map listed (drop r all))) ≡ all_within (flat (map listed all))

  pub later-start : length rows₀ ≡ length divisors₀ * w → length multipliers₀ ≡ length divisors₀ * m → Later rows₀ multipliers₀ divisors₀ 0
  later-start h k =
      record { rows_long = h; multipliers-long = k; divisors-long = refl; sweep = swept-start _ _; fits = refl }

module _
    {w m : ℕ} {f : Carried → Carried} {listed : Carried → List ℤ} {rows₀ multipliers₀ : List ℤ} {divisors₀ : List ℕ}
    {rows multipliers : List ℤ} {divisors : List ℕ} {r : ℕ}
    (h : r < length divisors₀) (s : Later w m f listed rows₀ multipliers₀ divisors₀ rows multipliers divisors r) where
  at_first : get_or (carried_of w m rows₀ multipliers₀ divisors₀) r nothing ≡ standing w m rows₀ multipliers₀ divisors₀ r
  at_first = carried-at w m rows₀ multipliers₀ divisors₀ r h

  inside : r < length (carried_of w m rows₀ multipliers₀ divisors₀)
  inside = omega (arith, length-carried w m rows₀ multipliers₀ divisors₀)

  -- row r is as it was at first
  pub later-row : standing w m rows multipliers divisors r ≡ standing w m rows₀ multipliers₀ divisors₀ r
  later-row =
      sym (carried-at w m rows multipliers divisors r (omega (arith, s.divisors-long))) ∙ swept-read nothing s.sweep ∙ at_first

  -- it and the rows behind it decide
  listed_more : let all = carried_of w m rows₀ multipliers₀ divisors₀ in
      all_within (listed (standing w m rows₀ multipliers₀ divisors₀ r)) && all_within (flat (map listed (drop (r + 1) all))) ≡ all_within (flat (map listed all))
  unfolding flat
  listed_more =
      let all = carried_of w m rows₀ multipliers₀ divisors₀ in
      let rest = drop (r + 1) all in
      sym (bounded-append W (listed (standing w m rows₀ multipliers₀ divisors₀ r)) (flat (map listed rest)))
      ∙ ap (λ (e : Carried). all_within (flat (map listed (e ∷ rest)))) (sym at_first)
      ∙ ap (λ (l : List Carried). all_within (flat (map listed l))) (sym (tail_at all r nothing inside))
      ∙ s.fits

  -- it is refused
  pub later-refused : all_within (listed (standing w m rows₀ multipliers₀ divisors₀ r)) ≡ false
      → all_within (flat (map listed (carried_of w m rows₀ multipliers₀ divisors₀))) ≡ false
  later-refused e =
      let rest = drop (r + 1) (carried_of w m rows₀ multipliers₀ divisors₀) in
      sym listed_more ∙ ap (λ (b : Bool). b && all_within (flat (map listed rest))) e

  -- it is replaced by what f gives
  pub later-step : (row multiples : List ℤ) (d : ℕ) → length row ≡ w → length multiples ≡ m
      → all_within (listed (standing w m rows₀ multipliers₀ divisors₀ r)) ≡ true → carry row multiples d ≡ f (standing w m rows₀ multipliers₀ divisors₀ r)
      → Later w m f listed rows₀ multipliers₀ divisors₀ (set_row w r row rows) (set_row m r multiples multipliers) (set divisors r d) (r + 1)
  later-step row multiples d a b e g =
      let all = carried_of w m rows₀ multipliers₀ divisors₀ in
      let long = s.divisors-long in
      let rest = drop (r + 1) all in
      let more = ap (map f) (tail_at all r nothing inside) ∙ ap (λ (x : Carried). x ∷ map f rest) (ap f at_first ∙ sym g) in
      let put = carried-set w m rows multipliers divisors r (omega arith) row multiples d (rw long s.rows_long) (rw long s.multipliers-long) a b in
      record {
        rows_long = length-set_row w (length divisors₀) r rows h s.rows_long row a;
        multipliers-long = length-set_row m (length divisors₀) r multipliers h s.multipliers-long multiples b;
        divisors-long = length-set divisors r d ∙ long;
        sweep = rw put (swept_step (carry row multiples d) (map f rest) (omega (arith, inside, s.sweep.len)) more s.sweep);
        fits = ap (λ (b : Bool). b && all_within (flat (map listed rest))) (sym e) ∙ listed_more;
      }

-- no row is left
pub later-end : {w m : ℕ} {f : Carried → Carried} {listed : Carried → List ℤ} {rows₀ multipliers₀ : List ℤ} {divisors₀ : List ℕ}
    {rows multipliers : List ℤ} {divisors : List ℕ} {r : ℕ} → length divisors₀ ≤ r
    → Later w m f listed rows₀ multipliers₀ divisors₀ rows multipliers divisors r → let all = carried_of w m rows₀ multipliers₀ divisors₀ in
    (all_within (flat (map listed all)) ≡ true) × (carried_of w m rows multipliers divisors ≡ map f all)
unfolding flat
later-end {w} {m} {f} {listed} {rows₀} {multipliers₀} {divisors₀} {r = r} h s =
    let long = length-carried w m rows₀ multipliers₀ divisors₀ in
    let none = drop_of_length-le (carried_of w m rows₀ multipliers₀ divisors₀) {i = r} (omega (arith, long)) in (
      sym s.fits ∙ ap (λ (l : List Carried). all_within (flat (map listed l))) none ∙ bounded-nil W,
      swept-end (omega (arith, s.sweep.len, long)) (ap (map f) none) s.sweep,
    )
