-- Step (c) on tables: the column that it chooses, and what it makes of the rows, the substitution and the way back, each put to the test.
use mathlib.Core.Path.{◌≡◌, refl, sym, ap, ap₂, ◌∙◌}
use mathlib.Core.Bool.{Bool, true, false, ◌&&◌, and-false}
use mathlib.Core.List.{List, [], ◌∷◌, ◌++◌, map}
use Prim.Native.Nat.{ℕ, suc, ◌*◌, ◌≤◌, zero-le}
use native.Mathlib.Omega.{arith}
use lib.ListN.{length, take, set, length-map}
use lib.Seq.{get_or-take, take-take}
use lib.IntN.{ℤ, pos}
use Rattle.whole.specs.Limit.{W}
use Rattle.rows.specs.Row.{at, smallest, quotients, all_within}
use Rattle.rows.specs.Table.{rows_of, flat, Wide}
use Rattle.rows.proofs.Algebra.{length-less}
use Rattle.rows.proofs.Bounded.{bounded-append, bounded-take, bounded-set, bounded-quotients}
use Rattle.rows.proofs.TableLaws.{length-rows_of, wide-rows_of, rows_of-flat}
use Rattle.tables.proofs.Multiples.{without}
use Rattle.rules.specs.Elimination.{Step, step_of, put_in, way_back_row}
use Rattle.turning.specs.Turned.{Turned, turned, listed_turn, turned_tables, returned}
use Rattle.steps.specs.Shown.{tried}
use Rattle.steps.proofs.Attempts.{tried_same, tried-none, tried-fits, tried-made}

-- ---- the step of a table's first row
abbrev pub picked : ℕ → ℕ → List ℤ → List ℤ
picked n k t = set (quotients (at t k) (take (suc n) t)) k (pos 0)

abbrev pub step_at : ℕ → ℤ → List ℤ → Step
step_at k a q = record { column = k; lead = a; quotients = q }

pub step_is : (n k : ℕ) (t : List ℤ) → k ≡ smallest (take n t) → k ≤ n → step_of n (take (suc n) t) ≡ step_at k (at t k) (picked n k t)
unfolding step_of
step_is n k t e h = rw (take-take n (suc n) t (omega arith), ← e, get_or-take (suc n) t k (pos 0) (omega arith))

pub picked-within : (n k : ℕ) (t : List ℤ) → all_within t ≡ true → all_within (picked n k t) ≡ true
picked-within n k t e =
    let row = take (suc n) t in
    bounded-set W (quotients (at t k) row) k (pos 0) (bounded-quotients W (at t k) row (bounded-take W (suc n) t e)) zero-le

-- ---- rows less q as often as their number at column k says: as wide as they were, and so many
wide-without : (w k : ℕ) (q : List ℤ) (rows : List (List ℤ)) → Wide w rows → Wide w (map (without k q) rows)
wide-without w k q [] h = tt
wide-without w k q (row ∷ rows) h = (length-less row (at row k) q ∙ h.0, wide-without w k q rows h.1)

abbrev pub put_rows : ℕ → ℕ → ℕ → List ℤ → List ℤ → List (List ℤ)
put_rows n count k q t = map (without k q) (rows_of (suc n) count t)

rows-put : (n count k : ℕ) (q t : List ℤ) → length t ≡ count * suc n → rows_of (suc n) count (flat (put_rows n count k q t)) ≡ put_rows n count k q t
rows-put n count k q t e =
    let rows = put_rows n count k q t in
    let many : length rows ≡ count = length-map (rows_of (suc n) count t) (without k q) ∙ length-rows_of (suc n) count t in
    ap (λ (m : ℕ). rows_of (suc n) m (flat rows)) (sym many)
    ∙ rows_of-flat (suc n) rows (wide-without (suc n) k q (rows_of (suc n) count t) (wide-rows_of (suc n) count t e))

-- ---- the three tables t, u, v, that became t', u', v'
module _ (n count k : ℕ) (a : ℤ) (q t u v : List ℤ) where
  abbrev after : Turned
  after = turned n (step_at k a q) (rows_of (suc n) count t) (rows_of (suc n) n u) (rows_of (suc n) n v)

  abbrev listed : List ℤ
  listed = listed_turn n (step_at k a q) (rows_of (suc n) count t) (rows_of (suc n) n u) (rows_of (suc n) n v)

  abbrev of_rows : List ℤ
  of_rows = flat (put_rows n count k q t)

  abbrev of_substitution : List ℤ
  of_substitution = flat (put_rows n n k q u)

  abbrev of_back : List ℤ
  of_back = returned n k q v

  -- the listed numbers fit where all three tables do
  verdict : all_within listed ≡ all_within of_rows && (all_within of_substitution && all_within of_back)
  unfolding put_in way_back_row
  verdict =
      bounded-append W of_rows (of_substitution ++ of_back) ∙ ap (λ (e : Bool). all_within of_rows && e) (bounded-append W of_substitution of_back)

  module _ (t' u' v' : List ℤ) where
    -- one that does not fit is enough
    none : all_within listed ≡ false → tried false (turned_tables n count t' u' v') ≡ tried (all_within listed) after
    none e = ap (λ (f : Bool). tried f after) (sym e)

    pub rows-far : all_within of_rows ≡ false → tried false (turned_tables n count t' u' v') ≡ tried (all_within listed) after
    rows-far e = none (verdict ∙ ap (λ (b : Bool). b && (all_within of_substitution && all_within of_back)) e)

    pub substitution-far : all_within of_substitution ≡ false → tried false (turned_tables n count t' u' v') ≡ tried (all_within listed) after
    substitution-far e = none (verdict ∙ ap (λ (b : Bool). all_within of_rows && (b && all_within of_back)) e ∙ and-false (all_within of_rows))

    module _ (d : Bool) (third : tried d (rows_of (suc n) n v') ≡ tried (all_within of_back) (set (rows_of (suc n) n v) k of_back)) where
      fits : d ≡ all_within of_back
      fits = tried-fits d (all_within of_back) (rows_of (suc n) n v') (set (rows_of (suc n) n v) k of_back) third

      -- the last table decides once the other two fit
      pub turned-made : length t ≡ count * suc n → length u ≡ n * suc n → t' ≡ of_rows → u' ≡ of_substitution
          → all_within of_rows ≡ true → all_within of_substitution ≡ true → tried d (turned_tables n count t' u' v') ≡ tried (all_within listed) after
      unfolding put_in way_back_row
      turned-made l m f g first second = go d refl
        where
          all : d ≡ all_within listed
          all = fits ∙ sym (verdict ∙ ap₂ (λ (a b : Bool). a && (b && all_within of_back)) first second)

          made : d ≡ true → turned_tables n count t' u' v' ≡ after
          made e =
              let back = tried-made d (all_within of_back) (rows_of (suc n) n v') (set (rows_of (suc n) n v) k of_back) e third in
              rw (f, g, rows-put n count k q t l, rows-put n n k q u m, back) refl

          go : (b : Bool) → d ≡ b → tried d (turned_tables n count t' u' v') ≡ tried (all_within listed) after
          go true e = tried_same all (made e)
          go false e = tried-none (turned_tables n count t' u' v') after all e
