-- A list written over a lent table, from a place on. What finds no room is left out.
use Rattle.std.proofs.Math.Bool.{cond}
use mathlib.Core.List.{List, [], ◌∷◌}
use Rattle.std.specs.Prelude.{ℕ, ◌+◌, ltb, length, set}

module _ {A : Type 0} where
  -- over the front
  unfoldable pub poured : List A → List A → List A
  poured [] table = table
  poured (a ∷ more) [] = []
  poured (a ∷ more) (old ∷ table) = a ∷ poured more table

-- a lent table and the place of the next write
pub record Page (A : Type 0) : Type 0 where
  pub cells : List A
  pub place : ℕ

module _ {A : Type 0} where
  unfoldable pub page : List A → ℕ → Page A
  page cells place = record { cells = cells; place = place }

  -- one element
  unfoldable pub put : A → Page A → Page A
  unfolding page
  put a p = cond (ltb p.place (length p.cells)) (page (set p.cells p.place a) (p.place + 1)) p

  -- one after another
  unfoldable pub written : List A → Page A → Page A
  unfolding put
  written [] p = p
  written (a ∷ more) p = written more (put a p)
