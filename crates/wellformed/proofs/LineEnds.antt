-- One byte back at the end of a line, and at a comment's first byte or a byte that only a comment may hold.
use mathlib.Core.Bool.{Bool, true, false, true≢false}
use mathlib.Core.Path.{◌≡◌, refl, sym, subst}
use mathlib.Core.List.{List, [], ◌∷◌}
use Prim.Native.Nat.{ℕ, zero, suc}
use native.Mathlib.Omega.{arith}
use borrow.Author.Tests.{eqb-true}
use lib.Dec.{eqb}
use Rattle.matrix.specs.Bytes.{line_feed, carriage_return, comment_mark}
use Rattle.wellformed.specs.Grammar.{none, Lines, feed, return_feed}
use Rattle.matrix.specs.Machine.{on_carriage_return, on_line_feed, on_comment_mark, on_other, line_ends}
use Rattle.matrix.specs.Reader.{is_return}
use Rattle.matrix.specs.declared.Phase.{Phase}
use Rattle.matrix.specs.declared.Phase.TheVariants.{Start, Lead, Marked, Signed, Digits, Gap, Return, Comment, Dead}
use Rattle.matrix.specs.declared.Machine.{Machine}
use Rattle.wellformed.proofs.Cuts.{grow, stop}
use Rattle.wellformed.proofs.Pieces.{Counted, Spaced, over, counted_none, number-over, second-over}
use Rattle.wellformed.proofs.Following.{Following, blank_line, after-comment, leads-after}
use Rattle.wellformed.proofs.Following.{Rest, Ended, placed, ended, ended-passed, feed-ends, return-ends}

module _ (G : Following) (m : Machine) where
  -- ---- a line ends: at a line feed, or at the end of the text
  row_ends : (phase : Phase) (left : ℕ) (lines : List (List ℕ)) → Ended G (line_ends Start (placed m phase true left)) lines → (left ≡ 0) × G.holds m.columns m.rows lines
  unfolding line_ends
  row_ends phase left lines after =
      let (all, holds) = ended-passed G (eqb left 0) (placed m Start true left) (placed m phase true left) lines after in
      (eqb-true left 0 all, holds)

  pub ends : (phase : Phase) (body : Bool) (left : ℕ) (lines : List (List ℕ)) (bytes : List ℕ) → is_return phase ≡ false → Lines ([] ∷ lines) bytes
      → Ended G (on_line_feed phase (placed m phase body left)) lines → Rest G (placed m phase body left) bytes
  unfolding on_line_feed
  ends Start body left lines bytes e cut after = stop cut (leads-after G {body = body} {columns = m.columns} {rows = m.rows} {lines = lines} (blank_line none after))
  ends Lead body left lines bytes e cut after = stop cut (blank_line none after)
  ends Marked true left lines bytes e cut after =
      let (all, holds) = row_ends Marked left lines after in
      stop cut (subst (λ n. Counted n []) (sym all) (counted_none none), holds)
  ends Marked false left lines bytes e cut after = tt
  ends Signed body left lines bytes e cut after = absurd after
  ends Digits true left lines bytes e cut after =
      let (all, holds) = row_ends Digits left lines after in
      stop cut (number-over m.digits m.value (subst (λ n. Counted n []) (sym all) (counted_none none)), holds)
  ends Digits false zero lines bytes e cut after = stop cut (m.value, second-over m.digits m.value none, after)
  ends Digits false (suc zero) lines bytes e cut after = absurd after
  ends Digits false (suc (suc left)) lines bytes e cut after = tt
  ends Gap true left lines bytes e cut after =
      let (all, holds) = row_ends Gap left lines after in
      stop cut (subst (λ n. Spaced n []) (sym all) (over none), holds)
  ends Gap false zero lines bytes e cut after = stop cut (none, after)
  ends Gap false (suc zero) lines bytes e cut after = absurd after
  ends Gap false (suc (suc left)) lines bytes e cut after = tt
  ends Return body left lines bytes e cut after = absurd (true≢false e)
  ends Comment body left lines bytes e cut after = stop cut (tt, after)
  ends Dead body left lines bytes e cut after = absurd after

  pub back-feed : (phase : Phase) (body : Bool) (left : ℕ) (bytes : List ℕ)
      → Rest G (on_line_feed phase (placed m phase body left)) bytes → Rest G (placed m phase body left) (line_feed ∷ bytes)
  unfolding on_line_feed
  back-feed Start body left bytes rest = ends Start body left (rest.line ∷ rest.others) (line_feed ∷ bytes) refl (feed rest.lines) rest.holds
  back-feed Lead body left bytes rest = ends Lead body left (rest.line ∷ rest.others) (line_feed ∷ bytes) refl (feed rest.lines) rest.holds
  back-feed Marked body left bytes rest =
      let (lines, cut, after) = feed-ends G (eqb left 0) (ended m Start body left) (placed m Marked body left) bytes rest in
      ends Marked body left lines (line_feed ∷ bytes) refl cut after
  back-feed Signed body left bytes rest = absurd rest
  back-feed Digits body left bytes rest =
      let (lines, cut, after) = feed-ends G (eqb left 0) (ended m Start body left) (placed m Digits body left) bytes rest in
      ends Digits body left lines (line_feed ∷ bytes) refl cut after
  back-feed Gap body left bytes rest =
      let (lines, cut, after) = feed-ends G (eqb left 0) (ended m Start body left) (placed m Gap body left) bytes rest in
      ends Gap body left lines (line_feed ∷ bytes) refl cut after
  back-feed Return body left bytes rest = (rest.line ∷ rest.others, return_feed rest.lines, rest.holds)
  back-feed Comment body left bytes rest = ends Comment body left (rest.line ∷ rest.others) (line_feed ∷ bytes) refl (feed rest.lines) rest.holds
  back-feed Dead body left bytes rest = absurd rest

  pub back-return : (phase : Phase) (body : Bool) (left : ℕ) (bytes : List ℕ)
      → Rest G (on_carriage_return phase (placed m phase body left)) bytes → Rest G (placed m phase body left) (carriage_return ∷ bytes)
  unfolding on_carriage_return on_line_feed
  back-return Start body left bytes rest = ends Start body left rest.0 (carriage_return ∷ bytes) refl rest.1 rest.2
  back-return Lead body left bytes rest = ends Lead body left rest.0 (carriage_return ∷ bytes) refl rest.1 rest.2
  back-return Marked body left bytes rest =
      let (lines, cut, after) = return-ends G (eqb left 0) (ended m Start body left) (placed m Marked body left) bytes rest in
      ends Marked body left lines (carriage_return ∷ bytes) refl cut after
  back-return Signed body left bytes rest = absurd rest
  back-return Digits body left bytes rest =
      let (lines, cut, after) = return-ends G (eqb left 0) (ended m Start body left) (placed m Digits body left) bytes rest in
      ends Digits body left lines (carriage_return ∷ bytes) refl cut after
  back-return Gap body left bytes rest =
      let (lines, cut, after) = return-ends G (eqb left 0) (ended m Start body left) (placed m Gap body left) bytes rest in
      ends Gap body left lines (carriage_return ∷ bytes) refl cut after
  back-return Return body left bytes rest = absurd rest
  back-return Comment body left bytes rest = grow (λ line lines h. ((λ e. omega arith, h.0), h.1)) rest
  back-return Dead body left bytes rest = absurd rest

  -- ---- a comment mark, and any other byte
  pub back-mark : (phase : Phase) (body : Bool) (left : ℕ) (bytes : List ℕ)
      → Rest G (on_comment_mark phase (placed m phase body left)) bytes → Rest G (placed m phase body left) (comment_mark ∷ bytes)
  unfolding on_comment_mark
  back-mark Start body left bytes rest = grow (λ line lines h. after-comment G body m.columns m.rows line lines h.0 h.1) rest
  back-mark Lead body left bytes rest = absurd rest
  back-mark Marked body left bytes rest = absurd rest
  back-mark Signed body left bytes rest = absurd rest
  back-mark Digits body left bytes rest = absurd rest
  back-mark Gap body left bytes rest = absurd rest
  back-mark Return body left bytes rest = absurd rest
  back-mark Comment body left bytes rest = grow (λ line lines h. ((λ e. omega arith, h.0), h.1)) rest
  back-mark Dead body left bytes rest = absurd rest

  pub back-other : (phase : Phase) (body : Bool) (left b : ℕ) (bytes : List ℕ) → (b ≡ line_feed → ⊥)
      → Rest G (on_other phase (placed m phase body left)) bytes → Rest G (placed m phase body left) (b ∷ bytes)
  unfolding on_other
  back-other Start body left b bytes other rest = absurd rest
  back-other Lead body left b bytes other rest = absurd rest
  back-other Marked body left b bytes other rest = absurd rest
  back-other Signed body left b bytes other rest = absurd rest
  back-other Digits body left b bytes other rest = absurd rest
  back-other Gap body left b bytes other rest = absurd rest
  back-other Return body left b bytes other rest = absurd rest
  back-other Comment body left b bytes other rest = grow (λ line lines h. ((other, h.0), h.1)) rest
  back-other Dead body left b bytes other rest = absurd rest
