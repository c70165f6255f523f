-- What holds between two steps of the run. A point p has n+1 numbers: the parameters and then a last number, mostly 1, of which
-- nothing is asked, since all is linear. X is the substitution, Y the way back.
use mathlib.Core.Path.{◌≡◌}
use mathlib.Core.Logic.{◌⊎◌}
use mathlib.Core.List.{List, [], ◌∷◌, map}
use Prim.Native.Nat.{ℕ, suc, ◌<◌}
use lib.ListN.{length, get_or, take}
use lib.IntN.{ℤ, pos, ◌*ℤ◌}
use Rattle.rows.specs.Row.{at, dot, values, zeros}
use Rattle.rows.specs.Table.{Wide}
use Rattle.rules.specs.Elimination.{Carried}
use Rattle.promises.proofs.Image.{image}

-- column c is closed
abbrev pub Shut : List ℕ → ℕ → Type 0
Shut marks c = get_or marks c 1 ≡ 0

-- the point's closed parameters are 0
abbrev pub Still : ℕ → List ℕ → List ℤ → Type 0
Still n marks p = (c : ℕ) → c < n → Shut marks c → at p c ≡ pos 0

-- of the state
pub record Sound (n m : ℕ) (equations X Y : List (List ℤ)) (marks : List ℕ) (reasons : List (List ℤ)) : Type 0 where
  pub long_x : length X ≡ n
  pub wide_x : Wide (suc n) X
  pub long_y : length Y ≡ n
  pub wide_y : Wide (suc n) Y
  pub long_marks : length marks ≡ n
  pub long_reasons : length reasons ≡ n
  -- each column is open or closed
  pub mark : (c : ℕ) → c < n → (get_or marks c 0 ≡ 1) ⊎ Shut marks c
  -- the substitution and the way back undo each other
  pub there : (p : List ℤ) → length p ≡ suc n → image n X (image n Y p) ≡ p
  pub again : (p : List ℤ) → length p ≡ suc n → image n Y (image n X p) ≡ p
  -- the reason of a closed column says how its parameter comes from the equations
  pub divisor : (c : ℕ) → c < n → Shut marks c → (d : ℕ) × (at (get_or reasons c []) m ≡ pos (suc d))
  pub reason : (c : ℕ) → c < n → Shut marks c → (p : List ℤ) → length p ≡ suc n
      → at (get_or reasons c []) m *ℤ at p c ≡ dot (take m (get_or reasons c [])) (values equations (image n X p))
  pub zero_open : (c : ℕ) → c < n → (Shut marks c → ⊥) → get_or reasons c [] ≡ zeros (suc m)

-- of an equation whose row is done: it holds wherever the closed parameters are 0
abbrev pub Settled : ℕ → List (List ℤ) → List ℕ → List ℤ → Type 0
Settled n X marks equation = (p : List ℤ) → length p ≡ suc n → Still n marks p → dot equation (image n X p) ≡ pos 0

module _ (n m : ℕ) (equations X : List (List ℤ)) (marks : List ℕ) where
  -- of a row still to be worked, for the equation that it came from: d times the row is the sum of the equations that the multipliers
  -- say, it has 0 in closed columns, and where the closed parameters are 0 the equation is a multiple of it
  pub record Carries (equation : List ℤ) (e : Carried) : Type 0 where
    pub wide : length e.row ≡ suc n
    pub long : length e.multipliers ≡ m
    pub least : 0 < e.divisor
    pub value : (p : List ℤ) → length p ≡ suc n → pos e.divisor *ℤ dot e.row p ≡ dot e.multipliers (values equations (image n X p))
    pub none : (c : ℕ) → c < n → Shut marks c → at e.row c ≡ pos 0
    pub factor : ℤ
    pub stands : (p : List ℤ) → length p ≡ suc n → Still n marks p → dot equation (image n X p) ≡ factor *ℤ dot e.row p

  -- every equation is settled or has its row among those still to be worked, in order
  pub data Standing : List (List ℤ) → List Carried → Type 0 where
    none : Standing [] []
    done : {equation : List ℤ} {rest : List (List ℤ)} {es : List Carried} → Settled n X marks equation → Standing rest es
        → Standing (equation ∷ rest) es
    more : {equation : List ℤ} {rest : List (List ℤ)} {e : Carried} {es : List Carried} → Carries equation e → Standing rest es
        → Standing (equation ∷ rest) (e ∷ es)

-- what keeps settled equations settled and rows carried keeps all
module _ {n m : ℕ} {equations X X' : List (List ℤ)} {marks marks' : List ℕ} (f : Carried → Carried)
    (settled : (equation : List ℤ) → Settled n X marks equation → Settled n X' marks' equation)
    (carries : (equation : List ℤ) (e : Carried) → Carries n m equations X marks equation e → Carries n m equations X' marks' equation (f e)) where
  pub through : {rest : List (List ℤ)} {es : List Carried} → Standing n m equations X marks rest es
      → Standing n m equations X' marks' rest (map f es)
  through none = none
  through (done {equation} h s) = done (settled equation h) (through s)
  through (more {equation} {e} h s) = more (carries equation e h) (through s)

module _ {n m : ℕ} {equations X : List (List ℤ)} {marks : List ℕ} where
  -- the row in hand
  pub in_hand : {rest : List (List ℤ)} {e : Carried} {es : List Carried} → Standing n m equations X marks rest (e ∷ es)
      → (equation : List ℤ) × Carries n m equations X marks equation e
  in_hand (done h s) = in_hand s
  in_hand (more {equation} h s) = (equation, h)

  -- changed
  pub changed : {rest : List (List ℤ)} {e e' : Carried} {es : List Carried}
      → ((equation : List ℤ) → Carries n m equations X marks equation e → Carries n m equations X marks equation e')
      → Standing n m equations X marks rest (e ∷ es) → Standing n m equations X marks rest (e' ∷ es)
  changed f (done h s) = done h (changed f s)
  changed f (more {equation} h s) = more (f equation h) s

  -- done
  pub settle : {rest : List (List ℤ)} {e : Carried} {es : List Carried}
      → ((equation : List ℤ) → Carries n m equations X marks equation e → Settled n X marks equation)
      → Standing n m equations X marks rest (e ∷ es) → Standing n m equations X marks rest es
  settle f (done h s) = done h (settle f s)
  settle f (more {equation} h s) = done (f equation h) s
