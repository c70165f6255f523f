-- Parts printed one after another, and what a loop has still to print.
use mathlib.Core.Path.{◌≡◌, refl, ◌∙◌}
use mathlib.Core.List.{List, [], ◌++◌}
use Prim.Native.Nat.{ℕ}
use Rattle.matrix.specs.Poured.{written}
use Rattle.matrix.proofs.Joined.{join, ahead}
use Rattle.print_numbers.specs.declared.Page.{Page}
use Rattle.print_numbers.specs.Shown.{shown, Prints}

pub nothing : (p : Page) → Prints p p []
unfolding written
nothing p = record { shows = refl; same_cells = refl }

pub both : {p q r : Page} {a b : List ℕ} → Prints p q a → Prints q r b → Prints p r (a ++ b)
both {p} {q} {r} {a} {b} h k = record { shows = join a b (shown p) h.shows k.shows; same_cells = k.same_cells ∙ h.same_cells }

-- a loop that began at `start` has come to `now`: with `rest` behind, it will be `whole`
pub record Left (start now : Page) (whole rest : List ℕ) : Type 0 where
  pub comes_to : written rest (shown now) ≡ written whole (shown start)
  pub same_cells : now.cells.ghost_name ≡ start.cells.ghost_name

pub all_left : (p : Page) (whole : List ℕ) → Left p p whole whole
all_left p whole = record { comes_to = refl; same_cells = refl }

pub less_left : {s p q : Page} {whole a b : List ℕ} (l : List ℕ) → l ≡ a ++ b → Left s p whole l → Prints p q a → Left s q whole b
less_left {s} {p} {q} {whole} {a} {b} l e h k = record {
  comes_to = ahead a b l (shown p) e k.shows h.comes_to;
  same_cells = k.same_cells ∙ h.same_cells;
}

-- the rest is printed, or nothing is left
pub rest_printed : {s p q : Page} {whole rest : List ℕ} → Left s p whole rest → Prints p q rest → Prints s q whole
rest_printed h k = record { shows = k.shows ∙ h.comes_to; same_cells = k.same_cells ∙ h.same_cells }

pub none_left : {s p : Page} {whole : List ℕ} (l : List ℕ) → l ≡ [] → Left s p whole l → Prints s p whole
none_left l e h = rest_printed h (rw e (nothing _))
