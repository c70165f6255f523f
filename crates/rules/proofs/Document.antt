-- P1 to P12 of document 01, "Systems to be proved (one list, one theorem)". Beside what the document states, every other table of
-- the answer is given, in the order substitution, marks, way back, reasons, tightened, used.
use mathlib.Core.Path.{◌≡◌, refl}
use mathlib.Core.List.{List, [], ◌∷◌, map}
use Rattle.rules.specs.declared.Table.TheVariants.{Equations}
use Rattle.rules.specs.declared.Refusal.TheVariants.{BadEntry, TooLarge, LargeSum}
use Rattle.rules.specs.declared.Outcome.TheVariants.{Open, EquationConflict, TwoRowConflict}
use Rattle.rules.proofs.Case.{Case, p, m, answered, filled, unmet, refused}

-- P1 3x1+5x2-7: rows (2,-5,4), (-1,3,-1); y1 closed; way back (3,5,-7), (1,2,-2); 3 steps.
abbrev pub P1 : Case
P1 = filled 2 1 0 (p 3 ∷ p 5 ∷ m 7 ∷ []) [] (Open 3)
    (p 2 ∷ m 5 ∷ p 4 ∷ m 1 ∷ p 3 ∷ m 1 ∷ []) (0 ∷ 1 ∷ [])
    (p 3 ∷ p 5 ∷ m 7 ∷ p 1 ∷ p 2 ∷ m 2 ∷ []) (p 1 ∷ p 1 ∷ p 0 ∷ p 0 ∷ [])
    [] []

-- P2 P1 with -x1<=0: row (0,1,0), used {1}.
abbrev pub P2 : Case
P2 = filled 2 1 1 (p 3 ∷ p 5 ∷ m 7 ∷ []) (m 1 ∷ p 0 ∷ p 0 ∷ []) (Open 3)
    (p 2 ∷ m 5 ∷ p 4 ∷ m 1 ∷ p 3 ∷ m 1 ∷ []) (0 ∷ 1 ∷ [])
    (p 3 ∷ p 5 ∷ m 7 ∷ p 1 ∷ p 2 ∷ m 2 ∷ []) (p 1 ∷ p 1 ∷ p 0 ∷ p 0 ∷ [])
    (p 0 ∷ p 1 ∷ p 0 ∷ []) (1 ∷ [])

-- P3 P2 with -x2<=0: row (0,-1,1), two-row conflict 1, 2.
abbrev pub P3 : Case
P3 = filled 2 1 2 (p 3 ∷ p 5 ∷ m 7 ∷ []) (m 1 ∷ p 0 ∷ p 0 ∷ p 0 ∷ m 1 ∷ p 0 ∷ []) (TwoRowConflict 1 2 3)
    (p 2 ∷ m 5 ∷ p 4 ∷ m 1 ∷ p 3 ∷ m 1 ∷ []) (0 ∷ 1 ∷ [])
    (p 3 ∷ p 5 ∷ m 7 ∷ p 1 ∷ p 2 ∷ m 2 ∷ []) (p 1 ∷ p 1 ∷ p 0 ∷ p 0 ∷ [])
    (p 0 ∷ p 1 ∷ p 0 ∷ p 0 ∷ m 1 ∷ p 1 ∷ []) (1 ∷ 1 ∷ [])

-- P4 6x1+4x2-3: conflict (1), D 2.
abbrev pub P4 : Case
P4 = unmet 2 1 0 (p 6 ∷ p 4 ∷ m 3 ∷ []) [] (EquationConflict 1 0) (p 1 ∷ p 2 ∷ [])

-- P5 2x1-6, 3x1+4x2-7: conflict (-3,2), D 8, 1 step.
abbrev pub P5 : Case
P5 = unmet 2 2 0 (p 2 ∷ p 0 ∷ m 6 ∷ p 3 ∷ p 4 ∷ m 7 ∷ []) [] (EquationConflict 2 1) (m 3 ∷ p 2 ∷ p 8 ∷ [])

-- P6 x1, then x1-1: conflict (-1,1), D 0.
abbrev pub P6 : Case
P6 = unmet 1 2 0 (p 1 ∷ p 0 ∷ p 1 ∷ m 1 ∷ []) [] (EquationConflict 2 1) (m 1 ∷ p 1 ∷ p 0 ∷ [])

-- P7 the equation 0=0, n=1: open, 0 steps.
abbrev pub P7 : Case
P7 = filled 1 1 0 (p 0 ∷ p 0 ∷ []) [] (Open 0)
    (p 1 ∷ p 0 ∷ []) (1 ∷ [])
    (p 1 ∷ p 0 ∷ []) (p 0 ∷ p 0 ∷ [])
    [] []

-- P8 m=0: the identity, all open.
abbrev pub P8 : Case
P8 = filled 2 0 0 [] [] (Open 0)
    (p 1 ∷ p 0 ∷ p 0 ∷ p 0 ∷ p 1 ∷ p 0 ∷ []) (1 ∷ 1 ∷ [])
    (p 1 ∷ p 0 ∷ p 0 ∷ p 0 ∷ p 1 ∷ p 0 ∷ []) (p 0 ∷ p 0 ∷ [])
    [] []

-- P9 x1+2x2, W·x1-W·x2: refusal 4, row 1, 0 steps.
abbrev pub P9 : Case
P9 = refused 2 2 0 (p 1 ∷ p 2 ∷ p 0 ∷ p 268435455 ∷ m 268435455 ∷ p 0 ∷ []) [] (TooLarge 1 0)

-- P10 x1-W·x2 with W·x1<=0: refusal 5, row 1.
abbrev pub P10 : Case
P10 = refused 2 1 1 (p 1 ∷ m 268435455 ∷ p 0 ∷ []) (p 268435455 ∷ p 0 ∷ p 0 ∷ []) (LargeSum 1)

-- P11 W·x1, n=1: open, y1 closed, 1 step; (W+1)·x1: refusal 3, table 0, row 1, column 1.
abbrev pub P11 : Case
P11 = filled 1 1 0 (p 268435455 ∷ p 0 ∷ []) [] (Open 1)
    (p 1 ∷ p 0 ∷ []) (0 ∷ [])
    (p 1 ∷ p 0 ∷ []) (p 1 ∷ p 268435455 ∷ [])
    [] []

abbrev pub P11' : Case
P11' = refused 1 1 0 (p 268435456 ∷ p 0 ∷ []) [] (BadEntry Equations 1 1)

-- P12 tightening 5y-3 gives y+0; -5y+2 gives -y+1; 2y-4 stays.
abbrev pub P12 : Case
P12 = filled 1 0 1 [] (p 5 ∷ m 3 ∷ []) (Open 0)
    (p 1 ∷ p 0 ∷ []) (1 ∷ [])
    (p 1 ∷ p 0 ∷ []) (p 0 ∷ [])
    (p 1 ∷ p 0 ∷ []) (0 ∷ [])

abbrev pub P12' : Case
P12' = filled 1 0 1 [] (m 5 ∷ p 2 ∷ []) (Open 0)
    (p 1 ∷ p 0 ∷ []) (1 ∷ [])
    (p 1 ∷ p 0 ∷ []) (p 0 ∷ [])
    (m 1 ∷ p 1 ∷ []) (0 ∷ [])

abbrev pub P12'' : Case
P12'' = filled 1 0 1 [] (p 2 ∷ m 4 ∷ []) (Open 0)
    (p 1 ∷ p 0 ∷ []) (1 ∷ [])
    (p 1 ∷ p 0 ∷ []) (p 0 ∷ [])
    (p 2 ∷ m 4 ∷ []) (0 ∷ [])

abbrev pub systems : List Case
systems = P1 ∷ P2 ∷ P3 ∷ P4 ∷ P5 ∷ P6 ∷ P7 ∷ P8 ∷ P9 ∷ P10 ∷ P11 ∷ P11' ∷ P12 ∷ P12' ∷ P12'' ∷ []

pub document01 : map answered systems ≡ map (λ c. c.expected) systems
unfolding answered
document01 = refl
