-- Writes one behind another: they join, and from the front on they are `poured`.
use mathlib.Core.Path.{◌≡◌, refl, sym, ap, ◌∙◌}
use mathlib.Core.List.{List, [], ◌∷◌, ◌++◌, append_assoc}
use Prim.Native.Nat.{ℕ, suc, ◌+◌, ◌≤◌, ◌<◌}
use native.Mathlib.Nat.{add-zero}
use native.Mathlib.Omega.{arith}
use lib.ListN.{length, take, set, length-append, length-set}
use lib.Seq.{set-append_seam}
use borrow.Author.Tests.{lt-ltb, le-ltb}
use Rattle.matrix.specs.Poured.{poured, Page, page, put, written}

module _ {A : Type 0} where
  pub written-append : (a b : List A) (p : Page A) → written (a ++ b) p ≡ written b (written a p)
  unfolding written
  written-append [] b p = refl
  written-append (x ∷ a) b p = written-append a b (put x p)

  -- where there is room, and where there is none
  pub put-room : (a : A) (cells : List A) (place : ℕ) → place < length cells → put a (page cells place) ≡ page (set cells place a) (place + 1)
  unfolding put page
  put-room a cells place h = simp (lt-ltb _ _ h)

  pub put_full : (a : A) (cells : List A) (place : ℕ) → length cells ≤ place → put a (page cells place) ≡ page cells place
  unfolding put page
  put_full a cells place h = simp (le-ltb _ _ h)

  pub written-full : (more cells : List A) (place : ℕ) → length cells ≤ place → written more (page cells place) ≡ page cells place
  unfolding written
  written-full [] cells place h = refl
  written-full (a ∷ more) cells place h = rw (put_full a cells place h) (written-full more cells place h)

  -- at the end of `done`, over `table`
  pub written_behind : (more done table : List A) → (written more (page (done ++ table) (length done))).cells ≡ done ++ poured more table
  unfolding written poured page
  written_behind [] done table = refl
  written_behind (a ∷ more) done [] = rw (written-full (a ∷ more) (done ++ []) (length done) (omega (arith, length-append done []))) refl
  written_behind (a ∷ more) done (old ∷ table) =
      let room : length done < length (done ++ old ∷ table) = omega (arith, length-append done (old ∷ table)) in
      let here : set (done ++ old ∷ table) (length done) a ≡ (done ++ a ∷ []) ++ table = set-append_seam done old table a ∙ sym (append_assoc done (a ∷ []) table) in
      let there : length done + 1 ≡ length (done ++ a ∷ []) = sym (length-append done (a ∷ [])) in
      ap (λ (p : Page A). (written more p).cells) (put-room a (done ++ old ∷ table) (length done) room)
      ∙ ap (λ (t : List A). (written more (page t (length done + 1))).cells) here
      ∙ ap (λ (n : ℕ). (written more (page ((done ++ a ∷ []) ++ table) n)).cells) there
      ∙ written_behind more (done ++ a ∷ []) table ∙ append_assoc done (a ∷ []) (poured more table)

  pub written-front : (more table : List A) → (written more (page table 0)).cells ≡ poured more table
  written-front more table = written_behind more [] table

  -- where all of it finds room, the place moves on by its length
  pub written-place : (more cells : List A) (place : ℕ) → place + length more ≤ length cells → (written more (page cells place)).place ≡ place + length more
  unfolding written page
  written-place [] cells place h = sym (add-zero place)
  written-place (a ∷ more) cells place h =
      let room : place < length cells = omega arith in
      let later : (place + 1) + length more ≤ length (set cells place a) = omega (arith, length-set cells place a) in
      ap (λ (p : Page A). (written more p).place) (put-room a cells place room) ∙ written-place more (set cells place a) (place + 1) later ∙ omega arith

  -- ---- what was poured

  pub length-poured : (more table : List A) → length (poured more table) ≡ length table
  unfolding poured
  length-poured [] table = refl
  length-poured (a ∷ more) [] = refl
  length-poured (a ∷ more) (old ∷ table) = ap suc (length-poured more table)

  -- where all of it finds room it is the front
  pub poured-front : (more table : List A) → length more ≤ length table → take (length more) (poured more table) ≡ more
  unfolding poured
  poured-front [] table h = refl
  poured-front (a ∷ more) [] h = absurd (omega arith)
  poured-front (a ∷ more) (old ∷ table) h = ap (λ (l : List A). a ∷ l) (poured-front more table (omega arith))
