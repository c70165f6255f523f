-- Systems of every kind of outcome, with the answers of the independent program: made by `python3 independent/theorem.py`.
use mathlib.Core.Path.{◌≡◌, refl}
use mathlib.Core.List.{List, [], ◌∷◌, map}
use Rattle.rules.specs.declared.Table.TheVariants.{Equations, Inequalities}
use Rattle.rules.specs.declared.Refusal.TheVariants.{BadEntry, TooLarge, LargeSum}
use Rattle.rules.specs.declared.Outcome.TheVariants.{Open, EquationConflict, OneRowConflict, TwoRowConflict}
use Rattle.rules.proofs.Case.{Case, p, m, answered, filled, unmet, refused}

abbrev pub systems : List Case
systems =
    (refused 3 3 0 (p 1 ∷ p 0 ∷ p 0 ∷ p 0 ∷ p 0 ∷ p 1 ∷ p 2 ∷ p 0 ∷ p 0 ∷ p 268435455 ∷ m 268435455 ∷ p 0 ∷ []) [] (TooLarge 2 1))
    ∷ (filled 2 2 0 (p 1 ∷ p 2 ∷ p 0 ∷ p 268435455 ∷ p 268435455 ∷ p 0 ∷ []) [] (Open 2) (p 1 ∷ m 2 ∷ p 0 ∷ p 0 ∷ p 1 ∷ p 0 ∷ []) (0 ∷ 0 ∷ []) (p 1 ∷ p 2 ∷ p 0 ∷ p 0 ∷ p 1 ∷ p 0 ∷ []) (p 1 ∷ p 0 ∷ p 1 ∷ p 268435455 ∷ m 1 ∷ p 268435455 ∷ []) [] [])
    ∷ (filled 2 1 1 (p 1 ∷ m 2 ∷ p 0 ∷ []) (p 268435455 ∷ m 268435455 ∷ p 0 ∷ []) (Open 1) (p 1 ∷ p 2 ∷ p 0 ∷ p 0 ∷ p 1 ∷ p 0 ∷ []) (0 ∷ 1 ∷ []) (p 1 ∷ m 2 ∷ p 0 ∷ p 0 ∷ p 1 ∷ p 0 ∷ []) (p 1 ∷ p 1 ∷ p 0 ∷ p 0 ∷ []) (p 0 ∷ p 268435455 ∷ p 0 ∷ []) (1 ∷ []))
    ∷ (refused 2 3 0 (p 65536 ∷ p 0 ∷ p 0 ∷ p 0 ∷ p 59049 ∷ p 0 ∷ p 1 ∷ p 2187 ∷ p 0 ∷ []) [] (TooLarge 2 1))
    ∷ (refused 2 3 0 (p 0 ∷ m 3 ∷ p 0 ∷ p 9 ∷ p 512 ∷ p 0 ∷ p 991657 ∷ p 0 ∷ p 0 ∷ []) [] (TooLarge 2 1))
    ∷ (refused 2 2 0 (p 16384 ∷ p 0 ∷ p 0 ∷ p 1 ∷ p 32768 ∷ p 16384 ∷ []) [] (TooLarge 2 1))
    ∷ (unmet 2 2 0 (m 2 ∷ p 89934462 ∷ p 0 ∷ p 3 ∷ p 0 ∷ p 1 ∷ []) [] (EquationConflict 2 1) (p 3 ∷ p 2 ∷ p 269803386 ∷ []))
    ∷ (refused 3 2 0 (m 19683 ∷ m 8 ∷ p 0 ∷ m 3 ∷ m 1 ∷ m 4 ∷ m 2 ∷ p 3 ∷ []) [] (TooLarge 2 4))
    ∷ (unmet 2 2 0 (p 3 ∷ p 5 ∷ m 7 ∷ p 2 ∷ p 0 ∷ m 1 ∷ []) [] (EquationConflict 2 3) (m 4 ∷ p 1 ∷ p 10 ∷ []))
    ∷ (refused 2 2 1 (p 2 ∷ p 1 ∷ p 0 ∷ p 1 ∷ p 0 ∷ p 0 ∷ []) (p 268435455 ∷ m 268435455 ∷ p 0 ∷ []) (LargeSum 1))
    ∷ (filled 2 1 0 (p 3 ∷ m 2 ∷ p 0 ∷ []) [] (Open 2) (p 1 ∷ p 2 ∷ p 0 ∷ p 1 ∷ p 3 ∷ p 0 ∷ []) (0 ∷ 1 ∷ []) (p 3 ∷ m 2 ∷ p 0 ∷ m 1 ∷ p 1 ∷ p 0 ∷ []) (p 1 ∷ p 1 ∷ p 0 ∷ p 0 ∷ []) [] [])
    ∷ (filled 2 1 0 (p 1 ∷ p 1 ∷ p 0 ∷ []) [] (Open 1) (p 1 ∷ m 1 ∷ p 0 ∷ p 0 ∷ p 1 ∷ p 0 ∷ []) (0 ∷ 1 ∷ []) (p 1 ∷ p 1 ∷ p 0 ∷ p 0 ∷ p 1 ∷ p 0 ∷ []) (p 1 ∷ p 1 ∷ p 0 ∷ p 0 ∷ []) [] [])
    ∷ (filled 2 2 0 (p 0 ∷ m 4 ∷ p 4 ∷ m 1 ∷ m 2 ∷ p 1 ∷ []) [] (Open 2) (p 1 ∷ p 0 ∷ m 1 ∷ p 0 ∷ p 1 ∷ p 1 ∷ []) (0 ∷ 0 ∷ []) (p 1 ∷ p 0 ∷ p 1 ∷ p 0 ∷ p 1 ∷ m 1 ∷ []) (p 1 ∷ m 2 ∷ p 2 ∷ m 1 ∷ p 0 ∷ p 4 ∷ []) [] [])
    ∷ (unmet 1 2 0 (p 3 ∷ p 0 ∷ p 3 ∷ m 1 ∷ []) [] (EquationConflict 2 1) (m 1 ∷ p 1 ∷ p 0 ∷ []))
    ∷ (filled 1 0 2 [] (p 0 ∷ p 0 ∷ p 0 ∷ p 1 ∷ []) (OneRowConflict 2 0) (p 1 ∷ p 0 ∷ []) (1 ∷ []) (p 1 ∷ p 0 ∷ []) (p 0 ∷ []) (p 0 ∷ p 0 ∷ p 0 ∷ p 1 ∷ []) (0 ∷ 0 ∷ []))
    ∷ (filled 5 2 0 (m 942 ∷ p 829 ∷ p 711 ∷ m 202 ∷ m 114 ∷ p 244 ∷ p 561 ∷ p 571 ∷ m 996 ∷ p 425 ∷ m 88 ∷ m 455 ∷ []) [] (Open 9) (m 234 ∷ p 1 ∷ p 1747 ∷ m 285 ∷ p 1120 ∷ p 1250 ∷ m 105 ∷ p 1 ∷ p 853 ∷ m 139 ∷ p 552 ∷ p 607 ∷ m 169 ∷ p 0 ∷ p 1269 ∷ m 207 ∷ p 810 ∷ p 905 ∷ p 57 ∷ p 0 ∷ m 398 ∷ p 65 ∷ m 264 ∷ m 292 ∷ p 15 ∷ m 1 ∷ p 387 ∷ m 62 ∷ p 279 ∷ p 249 ∷ []) (1 ∷ 0 ∷ 1 ∷ 0 ∷ 1 ∷ []) (p 19953 ∷ m 17541 ∷ m 15070 ∷ p 4284 ∷ p 2412 ∷ m 5173 ∷ m 942 ∷ p 829 ∷ p 711 ∷ m 202 ∷ m 114 ∷ p 244 ∷ m 184260 ∷ p 161986 ∷ p 139167 ∷ m 39561 ∷ m 22274 ∷ p 47777 ∷ m 1149801 ∷ p 1010809 ∷ p 868416 ∷ m 246865 ∷ m 138992 ∷ p 298135 ∷ m 1001 ∷ p 880 ∷ p 756 ∷ m 215 ∷ m 121 ∷ p 259 ∷ []) (p 0 ∷ p 0 ∷ p 0 ∷ p 1 ∷ p 0 ∷ p 1 ∷ p 0 ∷ p 0 ∷ p 0 ∷ p 1220 ∷ m 1 ∷ p 1 ∷ p 0 ∷ p 0 ∷ p 0 ∷ []) [] [])
    ∷ (filled 6 1 4 (m 2 ∷ p 1 ∷ m 1 ∷ p 1 ∷ m 2 ∷ p 2 ∷ p 9 ∷ []) (p 1 ∷ p 1 ∷ p 2 ∷ m 1 ∷ p 0 ∷ m 1 ∷ p 12 ∷ p 1 ∷ p 0 ∷ m 2 ∷ p 1 ∷ p 2 ∷ m 2 ∷ m 10 ∷ p 0 ∷ m 2 ∷ p 0 ∷ p 2 ∷ p 1 ∷ p 2 ∷ m 12 ∷ p 0 ∷ p 0 ∷ p 2 ∷ p 1 ∷ p 2 ∷ p 1 ∷ p 1 ∷ []) (Open 1) (p 1 ∷ p 0 ∷ p 0 ∷ p 0 ∷ p 0 ∷ p 0 ∷ p 0 ∷ p 2 ∷ p 1 ∷ p 1 ∷ m 1 ∷ p 2 ∷ m 2 ∷ m 9 ∷ p 0 ∷ p 0 ∷ p 1 ∷ p 0 ∷ p 0 ∷ p 0 ∷ p 0 ∷ p 0 ∷ p 0 ∷ p 0 ∷ p 1 ∷ p 0 ∷ p 0 ∷ p 0 ∷ p 0 ∷ p 0 ∷ p 0 ∷ p 0 ∷ p 1 ∷ p 0 ∷ p 0 ∷ p 0 ∷ p 0 ∷ p 0 ∷ p 0 ∷ p 0 ∷ p 1 ∷ p 0 ∷ []) (1 ∷ 0 ∷ 1 ∷ 1 ∷ 1 ∷ 1 ∷ []) (p 1 ∷ p 0 ∷ p 0 ∷ p 0 ∷ p 0 ∷ p 0 ∷ p 0 ∷ m 2 ∷ p 1 ∷ m 1 ∷ p 1 ∷ m 2 ∷ p 2 ∷ p 9 ∷ p 0 ∷ p 0 ∷ p 1 ∷ p 0 ∷ p 0 ∷ p 0 ∷ p 0 ∷ p 0 ∷ p 0 ∷ p 0 ∷ p 1 ∷ p 0 ∷ p 0 ∷ p 0 ∷ p 0 ∷ p 0 ∷ p 0 ∷ p 0 ∷ p 1 ∷ p 0 ∷ p 0 ∷ p 0 ∷ p 0 ∷ p 0 ∷ p 0 ∷ p 0 ∷ p 1 ∷ p 0 ∷ []) (p 0 ∷ p 0 ∷ p 1 ∷ p 1 ∷ p 0 ∷ p 0 ∷ p 0 ∷ p 0 ∷ p 0 ∷ p 0 ∷ p 0 ∷ p 0 ∷ []) (p 3 ∷ p 0 ∷ p 3 ∷ m 2 ∷ p 2 ∷ m 3 ∷ p 3 ∷ p 1 ∷ p 0 ∷ m 2 ∷ p 1 ∷ p 2 ∷ m 2 ∷ m 10 ∷ m 4 ∷ p 0 ∷ m 2 ∷ p 4 ∷ m 3 ∷ p 6 ∷ p 6 ∷ p 0 ∷ p 0 ∷ p 2 ∷ p 1 ∷ p 2 ∷ p 1 ∷ p 1 ∷ []) (1 ∷ 0 ∷ 1 ∷ 0 ∷ []))
    ∷ (filled 5 1 3 (p 0 ∷ p 0 ∷ p 0 ∷ p 0 ∷ p 0 ∷ p 0 ∷ []) (p 2 ∷ m 2 ∷ p 1 ∷ p 4 ∷ p 1 ∷ m 3 ∷ m 2 ∷ p 2 ∷ m 1 ∷ m 4 ∷ m 1 ∷ p 1 ∷ p 2 ∷ m 2 ∷ m 2 ∷ p 4 ∷ m 1 ∷ m 4 ∷ []) (Open 0) (p 1 ∷ p 0 ∷ p 0 ∷ p 0 ∷ p 0 ∷ p 0 ∷ p 0 ∷ p 1 ∷ p 0 ∷ p 0 ∷ p 0 ∷ p 0 ∷ p 0 ∷ p 0 ∷ p 1 ∷ p 0 ∷ p 0 ∷ p 0 ∷ p 0 ∷ p 0 ∷ p 0 ∷ p 1 ∷ p 0 ∷ p 0 ∷ p 0 ∷ p 0 ∷ p 0 ∷ p 0 ∷ p 1 ∷ p 0 ∷ []) (1 ∷ 1 ∷ 1 ∷ 1 ∷ 1 ∷ []) (p 1 ∷ p 0 ∷ p 0 ∷ p 0 ∷ p 0 ∷ p 0 ∷ p 0 ∷ p 1 ∷ p 0 ∷ p 0 ∷ p 0 ∷ p 0 ∷ p 0 ∷ p 0 ∷ p 1 ∷ p 0 ∷ p 0 ∷ p 0 ∷ p 0 ∷ p 0 ∷ p 0 ∷ p 1 ∷ p 0 ∷ p 0 ∷ p 0 ∷ p 0 ∷ p 0 ∷ p 0 ∷ p 1 ∷ p 0 ∷ []) (p 0 ∷ p 0 ∷ p 0 ∷ p 0 ∷ p 0 ∷ p 0 ∷ p 0 ∷ p 0 ∷ p 0 ∷ p 0 ∷ []) (p 2 ∷ m 2 ∷ p 1 ∷ p 4 ∷ p 1 ∷ m 3 ∷ m 2 ∷ p 2 ∷ m 1 ∷ m 4 ∷ m 1 ∷ p 1 ∷ p 2 ∷ m 2 ∷ m 2 ∷ p 4 ∷ m 1 ∷ m 4 ∷ []) (0 ∷ 0 ∷ 0 ∷ []))
    ∷ (refused 2 3 2 (m 8191 ∷ m 89478484 ∷ p 0 ∷ p 1 ∷ p 2 ∷ p 268435454 ∷ m 32769 ∷ p 268435454 ∷ p 2 ∷ []) (p 268435455 ∷ m 8192 ∷ p 16384 ∷ p 16385 ∷ p 2 ∷ p 1048576 ∷ []) (TooLarge 1 0))
    ∷ (unmet 2 2 0 (p 1 ∷ m 26 ∷ p 1 ∷ m 2807 ∷ p 268435455 ∷ p 0 ∷ []) [] (EquationConflict 2 1) (p 2807 ∷ p 1 ∷ p 268362473 ∷ []))
    ∷ (unmet 2 3 1 (p 19683 ∷ m 39364 ∷ m 78732 ∷ p 4374 ∷ p 2187 ∷ p 4374 ∷ p 432 ∷ m 432 ∷ m 864 ∷ []) (m 43 ∷ p 44 ∷ m 12 ∷ []) (EquationConflict 2 4) (p 107606961 ∷ p 1 ∷ p 0 ∷ p 215224857 ∷ []))
    ∷ (unmet 2 2 0 (m 987 ∷ p 610 ∷ p 0 ∷ m 1 ∷ p 1 ∷ p 2 ∷ []) [] (EquationConflict 2 14) (p 144 ∷ p 1 ∷ p 377 ∷ []))
    ∷ (filled 2 0 4 [] (p 4 ∷ p 1 ∷ p 3 ∷ m 4 ∷ m 1 ∷ m 3 ∷ p 0 ∷ m 8 ∷ p 9 ∷ p 0 ∷ p 8 ∷ m 9 ∷ []) (TwoRowConflict 3 4 0) (p 1 ∷ p 0 ∷ p 0 ∷ p 0 ∷ p 1 ∷ p 0 ∷ []) (1 ∷ 1 ∷ []) (p 1 ∷ p 0 ∷ p 0 ∷ p 0 ∷ p 1 ∷ p 0 ∷ []) (p 0 ∷ p 0 ∷ []) (p 4 ∷ p 1 ∷ p 3 ∷ m 4 ∷ m 1 ∷ m 3 ∷ p 0 ∷ m 1 ∷ p 2 ∷ p 0 ∷ p 1 ∷ m 1 ∷ []) (0 ∷ 0 ∷ 0 ∷ 0 ∷ []))
    ∷ (refused 2 0 3 [] (p 2 ∷ p 1 ∷ m 6 ∷ m 1 ∷ p 3 ∷ m 9999999999 ∷ m 2 ∷ m 6 ∷ m 4 ∷ []) (BadEntry Inequalities 2 3))
    ∷ (refused 5 3 1 (p 0 ∷ m 3 ∷ p 2 ∷ p 4 ∷ p 1 ∷ p 4 ∷ p 3 ∷ p 4 ∷ m 1 ∷ m 3 ∷ m 4 ∷ m 3 ∷ p 268435455 ∷ p 268435455 ∷ p 268435455 ∷ p 1 ∷ p 268435455 ∷ p 134217727 ∷ []) (p 3 ∷ m 1 ∷ p 1 ∷ p 1 ∷ p 3 ∷ m 1 ∷ []) (TooLarge 1 0))
    ∷ (refused 3 2 2 (p 0 ∷ m 4 ∷ m 1 ∷ m 2 ∷ p 4 ∷ p 2 ∷ m 3 ∷ p 4 ∷ []) (m 268435455 ∷ p 0 ∷ m 268435455 ∷ p 0 ∷ p 268435455 ∷ p 268435455 ∷ p 134217727 ∷ m 268435455 ∷ []) (LargeSum 1))
    ∷ (filled 1 1 4 (p 0 ∷ p 0 ∷ []) (p 0 ∷ p 1 ∷ p 1 ∷ m 1 ∷ p 0 ∷ p 0 ∷ m 1 ∷ m 1 ∷ []) (OneRowConflict 1 0) (p 1 ∷ p 0 ∷ []) (1 ∷ []) (p 1 ∷ p 0 ∷ []) (p 0 ∷ p 0 ∷ []) (p 0 ∷ p 1 ∷ p 1 ∷ m 1 ∷ p 0 ∷ p 0 ∷ m 1 ∷ m 1 ∷ []) (0 ∷ 0 ∷ 0 ∷ 0 ∷ []))
    ∷ (filled 3 0 0 [] [] (Open 0) (p 1 ∷ p 0 ∷ p 0 ∷ p 0 ∷ p 0 ∷ p 1 ∷ p 0 ∷ p 0 ∷ p 0 ∷ p 0 ∷ p 1 ∷ p 0 ∷ []) (1 ∷ 1 ∷ 1 ∷ []) (p 1 ∷ p 0 ∷ p 0 ∷ p 0 ∷ p 0 ∷ p 1 ∷ p 0 ∷ p 0 ∷ p 0 ∷ p 0 ∷ p 1 ∷ p 0 ∷ []) (p 0 ∷ p 0 ∷ p 0 ∷ []) [] [])
    ∷ (unmet 4 4 1 (p 0 ∷ p 0 ∷ p 0 ∷ p 0 ∷ p 0 ∷ p 0 ∷ p 0 ∷ p 0 ∷ p 0 ∷ p 2 ∷ p 0 ∷ p 0 ∷ p 0 ∷ p 0 ∷ p 0 ∷ p 0 ∷ m 2 ∷ p 4 ∷ m 1 ∷ p 0 ∷ []) (m 1 ∷ p 1 ∷ m 3 ∷ p 0 ∷ m 3 ∷ []) (EquationConflict 2 0) (p 0 ∷ p 1 ∷ p 0 ∷ p 0 ∷ p 0 ∷ []))
    ∷ (refused 3 1 3 (p 16385 ∷ m 1 ∷ m 134217727 ∷ p 32768 ∷ []) (m 268435454 ∷ m 1 ∷ m 1 ∷ p 3 ∷ m 3 ∷ p 3 ∷ p 1 ∷ m 2 ∷ m 89478485 ∷ p 2 ∷ p 1 ∷ m 16384 ∷ []) (LargeSum 1))
    ∷ (unmet 2 2 0 (m 1 ∷ p 39 ∷ m 1 ∷ p 2506 ∷ m 268337721 ∷ m 3 ∷ []) [] (EquationConflict 2 1) (p 2506 ∷ p 1 ∷ p 268239987 ∷ []))
    ∷ (refused 4 2 0 (p 93312 ∷ p 0 ∷ p 93312 ∷ p 46657 ∷ p 186624 ∷ p 81 ∷ m 162 ∷ p 81 ∷ p 162 ∷ m 81 ∷ []) [] (TooLarge 2 4))
    ∷ (filled 3 1 0 (m 102334155 ∷ p 2 ∷ p 63245986 ∷ p 6 ∷ []) [] (Open 2) (p 1 ∷ p 2 ∷ p 0 ∷ p 0 ∷ p 51167077 ∷ p 102334155 ∷ m 31622993 ∷ m 3 ∷ p 0 ∷ p 0 ∷ p 1 ∷ p 0 ∷ []) (0 ∷ 1 ∷ 1 ∷ []) (p 102334155 ∷ m 2 ∷ m 63245986 ∷ m 6 ∷ m 51167077 ∷ p 1 ∷ p 31622993 ∷ p 3 ∷ p 0 ∷ p 0 ∷ p 1 ∷ p 0 ∷ []) (m 1 ∷ p 1 ∷ p 0 ∷ p 0 ∷ p 0 ∷ p 0 ∷ []) [] [])
    ∷ (filled 4 2 4 (p 1 ∷ p 7 ∷ p 3 ∷ p 7 ∷ p 0 ∷ p 7 ∷ p 3 ∷ p 3 ∷ p 4 ∷ m 4 ∷ []) (p 0 ∷ p 3 ∷ p 3 ∷ m 2 ∷ m 8 ∷ p 0 ∷ m 3 ∷ m 3 ∷ p 2 ∷ p 7 ∷ p 4 ∷ p 0 ∷ m 3 ∷ p 6 ∷ p 8 ∷ m 4 ∷ p 0 ∷ p 3 ∷ m 6 ∷ m 7 ∷ []) (Open 4) (p 1 ∷ p 0 ∷ m 1 ∷ m 1 ∷ p 0 ∷ p 0 ∷ p 1 ∷ p 0 ∷ m 9 ∷ m 4 ∷ p 0 ∷ p 0 ∷ p 5 ∷ m 2 ∷ p 0 ∷ p 0 ∷ m 1 ∷ m 2 ∷ p 10 ∷ p 4 ∷ []) (0 ∷ 0 ∷ 1 ∷ 1 ∷ []) (p 1 ∷ p 7 ∷ p 3 ∷ p 7 ∷ p 0 ∷ p 0 ∷ p 46 ∷ p 18 ∷ p 45 ∷ p 4 ∷ p 0 ∷ p 2 ∷ p 1 ∷ p 2 ∷ p 0 ∷ p 0 ∷ p 5 ∷ p 2 ∷ p 5 ∷ p 0 ∷ []) (p 1 ∷ p 0 ∷ p 1 ∷ p 7 ∷ m 1 ∷ p 1 ∷ p 0 ∷ p 0 ∷ p 0 ∷ p 0 ∷ p 0 ∷ p 0 ∷ []) (p 0 ∷ p 0 ∷ p 19 ∷ m 53 ∷ m 28 ∷ p 0 ∷ p 0 ∷ m 19 ∷ p 53 ∷ p 27 ∷ p 0 ∷ p 0 ∷ m 1 ∷ p 2 ∷ p 2 ∷ p 0 ∷ p 0 ∷ p 31 ∷ m 62 ∷ m 31 ∷ []) (3 ∷ 3 ∷ 3 ∷ 3 ∷ []))
    ∷ (refused 1 3 4 (m 1 ∷ p 1 ∷ p 1 ∷ p 4294967296 ∷ m 9999999999 ∷ m 1 ∷ []) (m 1 ∷ p 268435456 ∷ p 0 ∷ m 1 ∷ m 268435456 ∷ p 1 ∷ m 1 ∷ p 0 ∷ []) (BadEntry Equations 2 2))
    ∷ (refused 3 2 1 (p 3 ∷ m 1 ∷ p 2 ∷ p 2 ∷ p 0 ∷ p 268435455 ∷ p 134217727 ∷ p 0 ∷ []) (m 2 ∷ p 1 ∷ p 0 ∷ m 2 ∷ []) (TooLarge 1 0))
    ∷ (unmet 2 2 4 (p 4 ∷ p 3 ∷ p 1 ∷ m 4 ∷ p 5 ∷ m 1 ∷ []) (p 1 ∷ m 268435455 ∷ m 268435455 ∷ p 1 ∷ p 268435455 ∷ p 134217727 ∷ m 2 ∷ p 0 ∷ p 2 ∷ p 1 ∷ m 3 ∷ m 2 ∷ []) (EquationConflict 2 2) (p 9 ∷ p 1 ∷ p 32 ∷ []))
    ∷ (filled 1 1 2 (p 3 ∷ p 6 ∷ []) (m 2 ∷ p 4 ∷ p 1 ∷ p 6 ∷ []) (OneRowConflict 1 1) (p 1 ∷ m 2 ∷ []) (0 ∷ []) (p 1 ∷ p 2 ∷ []) (p 1 ∷ p 3 ∷ []) (p 0 ∷ p 8 ∷ p 0 ∷ p 4 ∷ []) (1 ∷ 1 ∷ []))
    ∷ (filled 5 0 2 [] (p 1 ∷ p 11 ∷ p 10 ∷ m 3 ∷ p 10 ∷ m 55 ∷ p 2 ∷ p 7 ∷ p 9 ∷ p 4 ∷ m 6 ∷ p 4 ∷ []) (Open 0) (p 1 ∷ p 0 ∷ p 0 ∷ p 0 ∷ p 0 ∷ p 0 ∷ p 0 ∷ p 1 ∷ p 0 ∷ p 0 ∷ p 0 ∷ p 0 ∷ p 0 ∷ p 0 ∷ p 1 ∷ p 0 ∷ p 0 ∷ p 0 ∷ p 0 ∷ p 0 ∷ p 0 ∷ p 1 ∷ p 0 ∷ p 0 ∷ p 0 ∷ p 0 ∷ p 0 ∷ p 0 ∷ p 1 ∷ p 0 ∷ []) (1 ∷ 1 ∷ 1 ∷ 1 ∷ 1 ∷ []) (p 1 ∷ p 0 ∷ p 0 ∷ p 0 ∷ p 0 ∷ p 0 ∷ p 0 ∷ p 1 ∷ p 0 ∷ p 0 ∷ p 0 ∷ p 0 ∷ p 0 ∷ p 0 ∷ p 1 ∷ p 0 ∷ p 0 ∷ p 0 ∷ p 0 ∷ p 0 ∷ p 0 ∷ p 1 ∷ p 0 ∷ p 0 ∷ p 0 ∷ p 0 ∷ p 0 ∷ p 0 ∷ p 1 ∷ p 0 ∷ []) (p 0 ∷ p 0 ∷ p 0 ∷ p 0 ∷ p 0 ∷ []) (p 1 ∷ p 11 ∷ p 10 ∷ m 3 ∷ p 10 ∷ m 55 ∷ p 2 ∷ p 7 ∷ p 9 ∷ p 4 ∷ m 6 ∷ p 4 ∷ []) (0 ∷ 0 ∷ []))
    ∷ (unmet 3 5 4 (p 0 ∷ p 0 ∷ p 0 ∷ p 1 ∷ p 2 ∷ p 1 ∷ m 3 ∷ p 3 ∷ p 0 ∷ p 0 ∷ p 0 ∷ p 0 ∷ m 2 ∷ p 2 ∷ p 0 ∷ m 2 ∷ m 4 ∷ p 1 ∷ p 0 ∷ p 2 ∷ []) (p 0 ∷ p 2 ∷ m 3 ∷ p 1 ∷ p 4 ∷ m 4 ∷ p 0 ∷ p 4 ∷ m 3 ∷ p 1 ∷ m 3 ∷ p 3 ∷ p 3 ∷ m 1 ∷ p 3 ∷ m 2 ∷ []) (EquationConflict 1 0) (p 1 ∷ p 0 ∷ p 0 ∷ p 0 ∷ p 0 ∷ p 0 ∷ []))
    ∷ (refused 2 1 2 (p 244140626 ∷ m 3 ∷ p 8193 ∷ []) (p 0 ∷ m 2 ∷ m 1 ∷ m 1 ∷ m 1 ∷ p 2 ∷ []) (LargeSum 1))
    ∷ (filled 2 1 1 (p 1 ∷ m 37 ∷ p 0 ∷ []) (p 2099 ∷ m 268435455 ∷ p 1 ∷ []) (Open 1) (p 1 ∷ p 37 ∷ p 0 ∷ p 0 ∷ p 1 ∷ p 0 ∷ []) (0 ∷ 1 ∷ []) (p 1 ∷ m 37 ∷ p 0 ∷ p 0 ∷ p 1 ∷ p 0 ∷ []) (p 1 ∷ p 1 ∷ p 0 ∷ p 0 ∷ []) (p 0 ∷ m 1 ∷ p 1 ∷ []) (1 ∷ []))
    ∷ (refused 2 2 1 (p 19683 ∷ p 39366 ∷ p 39366 ∷ p 156250 ∷ m 78125 ∷ m 78125 ∷ []) (m 4 ∷ m 11 ∷ p 46 ∷ []) (TooLarge 2 1))
    ∷ (unmet 3 2 2 (p 1 ∷ m 2 ∷ m 1 ∷ m 2 ∷ p 987 ∷ m 2 ∷ m 610 ∷ p 3 ∷ []) (m 3 ∷ p 3 ∷ m 2 ∷ p 2 ∷ m 3 ∷ p 0 ∷ p 2 ∷ p 1 ∷ []) (EquationConflict 2 1) (m 987 ∷ p 1 ∷ p 29 ∷ []))
    ∷ (filled 4 3 4 (m 2 ∷ p 3 ∷ p 6 ∷ m 3 ∷ m 6 ∷ p 2 ∷ p 4 ∷ m 5 ∷ m 6 ∷ m 4 ∷ m 1 ∷ m 4 ∷ p 0 ∷ p 0 ∷ m 1 ∷ []) (m 4 ∷ m 2 ∷ p 0 ∷ p 3 ∷ p 1 ∷ p 4 ∷ p 2 ∷ p 0 ∷ m 3 ∷ p 1 ∷ p 2 ∷ m 2 ∷ m 1 ∷ m 8 ∷ p 1 ∷ m 2 ∷ p 2 ∷ p 1 ∷ p 8 ∷ p 1 ∷ []) (TwoRowConflict 1 2 5) (m 21 ∷ p 1 ∷ p 3 ∷ m 204 ∷ m 153 ∷ p 5 ∷ p 1 ∷ p 0 ∷ p 51 ∷ p 38 ∷ m 8 ∷ p 0 ∷ p 1 ∷ m 78 ∷ m 58 ∷ p 3 ∷ p 0 ∷ p 0 ∷ p 31 ∷ p 22 ∷ []) (0 ∷ 0 ∷ 0 ∷ 1 ∷ []) (p 31 ∷ m 31 ∷ m 93 ∷ p 21 ∷ p 65 ∷ m 2 ∷ p 3 ∷ p 6 ∷ m 3 ∷ m 6 ∷ p 14 ∷ m 14 ∷ m 41 ∷ p 12 ∷ p 32 ∷ m 3 ∷ p 3 ∷ p 9 ∷ m 2 ∷ m 7 ∷ []) (m 13 ∷ p 3 ∷ p 1 ∷ p 1 ∷ p 1 ∷ p 0 ∷ p 0 ∷ p 1 ∷ m 6 ∷ p 1 ∷ p 0 ∷ p 1 ∷ p 0 ∷ p 0 ∷ p 0 ∷ p 0 ∷ []) (p 0 ∷ p 0 ∷ p 0 ∷ p 1 ∷ p 1 ∷ p 0 ∷ p 0 ∷ p 0 ∷ m 1 ∷ p 0 ∷ p 0 ∷ p 0 ∷ p 0 ∷ m 1 ∷ p 0 ∷ p 0 ∷ p 0 ∷ p 0 ∷ p 1 ∷ p 1 ∷ []) (7 ∷ 7 ∷ 7 ∷ 7 ∷ []))
    ∷ (refused 3 2 1 (m 4 ∷ m 5 ∷ m 9 ∷ m 9 ∷ p 3 ∷ m 5 ∷ p 8 ∷ m 8 ∷ []) (m 2147483648 ∷ p 3 ∷ m 1 ∷ m 5 ∷ []) (BadEntry Inequalities 1 1))
    ∷ (unmet 2 2 1 (m 4 ∷ p 0 ∷ m 3 ∷ p 0 ∷ m 268435455 ∷ p 268435455 ∷ []) (m 3 ∷ p 0 ∷ p 2 ∷ []) (EquationConflict 1 0) (p 1 ∷ p 0 ∷ p 4 ∷ []))
    ∷ (unmet 2 2 3 (p 5 ∷ m 2 ∷ p 5 ∷ p 2 ∷ p 1 ∷ p 0 ∷ []) (m 2 ∷ m 2 ∷ m 3 ∷ m 1 ∷ p 2 ∷ p 2 ∷ p 134217727 ∷ p 0 ∷ p 1 ∷ []) (EquationConflict 2 2) (m 4 ∷ p 1 ∷ p 9 ∷ []))
    ∷ (filled 2 1 5 (p 3 ∷ p 2 ∷ p 3 ∷ []) (p 0 ∷ m 4 ∷ p 0 ∷ m 5 ∷ m 3 ∷ p 3 ∷ m 5 ∷ p 2 ∷ p 5 ∷ m 3 ∷ p 1 ∷ p 2 ∷ m 5 ∷ p 3 ∷ m 1 ∷ []) (Open 2) (p 1 ∷ m 2 ∷ m 1 ∷ m 1 ∷ p 3 ∷ p 0 ∷ []) (0 ∷ 1 ∷ []) (p 3 ∷ p 2 ∷ p 3 ∷ p 1 ∷ p 1 ∷ p 1 ∷ []) (p 1 ∷ p 1 ∷ p 0 ∷ p 0 ∷ []) (p 0 ∷ m 12 ∷ p 0 ∷ p 0 ∷ p 1 ∷ p 8 ∷ p 0 ∷ p 1 ∷ p 1 ∷ p 0 ∷ p 1 ∷ p 1 ∷ p 0 ∷ p 1 ∷ p 1 ∷ []) (1 ∷ 1 ∷ 1 ∷ 1 ∷ 1 ∷ []))
    ∷ (filled 1 2 2 (m 2 ∷ m 2 ∷ p 1 ∷ p 1 ∷ []) (p 0 ∷ p 0 ∷ m 1 ∷ m 3 ∷ []) (Open 1) (p 1 ∷ m 1 ∷ []) (0 ∷ []) (p 1 ∷ p 1 ∷ []) (m 1 ∷ p 0 ∷ p 2 ∷ []) (p 0 ∷ p 0 ∷ p 0 ∷ m 2 ∷ []) (0 ∷ 1 ∷ []))
    ∷ (refused 3 3 2 (m 1 ∷ p 1 ∷ p 1 ∷ p 129140163 ∷ p 0 ∷ p 0 ∷ m 1 ∷ p 0 ∷ m 3 ∷ p 3 ∷ p 268435455 ∷ m 1 ∷ []) (p 2 ∷ m 1 ∷ p 3 ∷ p 0 ∷ p 1 ∷ p 1 ∷ m 3 ∷ m 32768 ∷ []) (TooLarge 1 0))
    ∷ (filled 2 2 2 (m 2 ∷ m 1 ∷ m 2 ∷ m 1296 ∷ m 1296 ∷ m 1296 ∷ []) (m 4 ∷ p 19 ∷ m 26 ∷ p 11 ∷ p 42 ∷ m 41 ∷ []) (Open 2) (p 1 ∷ p 0 ∷ m 1 ∷ m 2 ∷ p 1 ∷ p 0 ∷ []) (0 ∷ 0 ∷ []) (p 1 ∷ p 0 ∷ p 1 ∷ p 2 ∷ p 1 ∷ p 2 ∷ []) (m 1296 ∷ p 1 ∷ p 1296 ∷ m 1 ∷ p 0 ∷ p 1 ∷ []) (p 0 ∷ p 0 ∷ m 22 ∷ p 0 ∷ p 0 ∷ m 52 ∷ []) (3 ∷ 3 ∷ []))
    ∷ (filled 3 2 1 (m 2 ∷ p 0 ∷ p 1 ∷ m 2 ∷ p 2 ∷ m 514229 ∷ p 832040 ∷ p 3 ∷ []) (p 2 ∷ p 2 ∷ p 2 ∷ m 3 ∷ []) (Open 13) (p 177662 ∷ p 514229 ∷ p 0 ∷ m 177663 ∷ p 574927 ∷ p 1664082 ∷ p 0 ∷ m 574927 ∷ p 355324 ∷ p 1028458 ∷ p 1 ∷ m 355324 ∷ []) (0 ∷ 1 ∷ 0 ∷ []) (p 1664082 ∷ m 514229 ∷ p 0 ∷ p 1664083 ∷ m 574927 ∷ p 177662 ∷ p 0 ∷ m 574927 ∷ m 2 ∷ p 0 ∷ p 1 ∷ m 2 ∷ []) (m 832040 ∷ p 1 ∷ p 1 ∷ p 0 ∷ p 0 ∷ p 0 ∷ p 1 ∷ p 0 ∷ p 1 ∷ []) (p 0 ∷ p 1 ∷ p 0 ∷ p 0 ∷ []) (3 ∷ []))
    ∷ (refused 4 3 1 (p 0 ∷ p 4 ∷ p 0 ∷ p 2 ∷ p 0 ∷ p 2 ∷ p 1 ∷ p 3 ∷ m 1 ∷ p 3 ∷ p 0 ∷ p 0 ∷ m 268435455 ∷ m 268435455 ∷ p 268435455 ∷ []) (m 2 ∷ m 2 ∷ m 2 ∷ p 2 ∷ m 3 ∷ []) (TooLarge 1 0))
    ∷ (filled 3 1 4 (p 2 ∷ m 8 ∷ m 6 ∷ p 8 ∷ []) (p 4 ∷ m 6 ∷ m 1 ∷ m 1 ∷ m 4 ∷ p 6 ∷ m 8 ∷ m 3 ∷ m 7 ∷ p 3 ∷ m 6 ∷ p 5 ∷ p 0 ∷ p 7 ∷ p 6 ∷ p 3 ∷ []) (Open 1) (p 1 ∷ p 4 ∷ p 3 ∷ m 4 ∷ p 0 ∷ p 1 ∷ p 0 ∷ p 0 ∷ p 0 ∷ p 0 ∷ p 1 ∷ p 0 ∷ []) (0 ∷ 1 ∷ 1 ∷ []) (p 1 ∷ m 4 ∷ m 3 ∷ p 4 ∷ p 0 ∷ p 1 ∷ p 0 ∷ p 0 ∷ p 0 ∷ p 0 ∷ p 1 ∷ p 0 ∷ []) (p 1 ∷ p 2 ∷ p 0 ∷ p 0 ∷ p 0 ∷ p 0 ∷ []) (p 0 ∷ p 10 ∷ p 11 ∷ m 17 ∷ p 0 ∷ m 1 ∷ m 2 ∷ p 2 ∷ p 0 ∷ m 25 ∷ m 27 ∷ p 33 ∷ p 0 ∷ p 7 ∷ p 6 ∷ p 3 ∷ []) (1 ∷ 1 ∷ 1 ∷ 0 ∷ []))
    ∷ (filled 5 4 2 (p 0 ∷ p 0 ∷ p 0 ∷ p 0 ∷ p 0 ∷ p 0 ∷ p 0 ∷ p 0 ∷ p 0 ∷ p 0 ∷ p 0 ∷ p 0 ∷ p 0 ∷ p 0 ∷ p 0 ∷ p 0 ∷ p 0 ∷ p 0 ∷ m 3 ∷ m 1 ∷ m 1 ∷ p 4 ∷ p 0 ∷ p 2 ∷ []) (m 4 ∷ m 4 ∷ p 0 ∷ m 1 ∷ m 3 ∷ m 1 ∷ p 4 ∷ p 4 ∷ p 0 ∷ p 1 ∷ p 3 ∷ m 1 ∷ []) (Open 1) (p 1 ∷ p 0 ∷ p 0 ∷ p 0 ∷ p 0 ∷ p 0 ∷ m 3 ∷ p 1 ∷ m 1 ∷ p 4 ∷ p 0 ∷ p 2 ∷ p 0 ∷ p 0 ∷ p 1 ∷ p 0 ∷ p 0 ∷ p 0 ∷ p 0 ∷ p 0 ∷ p 0 ∷ p 1 ∷ p 0 ∷ p 0 ∷ p 0 ∷ p 0 ∷ p 0 ∷ p 0 ∷ p 1 ∷ p 0 ∷ []) (1 ∷ 0 ∷ 1 ∷ 1 ∷ 1 ∷ []) (p 1 ∷ p 0 ∷ p 0 ∷ p 0 ∷ p 0 ∷ p 0 ∷ p 3 ∷ p 1 ∷ p 1 ∷ m 4 ∷ p 0 ∷ m 2 ∷ p 0 ∷ p 0 ∷ p 1 ∷ p 0 ∷ p 0 ∷ p 0 ∷ p 0 ∷ p 0 ∷ p 0 ∷ p 1 ∷ p 0 ∷ p 0 ∷ p 0 ∷ p 0 ∷ p 0 ∷ p 0 ∷ p 1 ∷ p 0 ∷ []) (p 0 ∷ p 0 ∷ p 0 ∷ p 0 ∷ p 0 ∷ p 0 ∷ p 0 ∷ p 0 ∷ m 1 ∷ p 1 ∷ p 0 ∷ p 0 ∷ p 0 ∷ p 0 ∷ p 0 ∷ p 0 ∷ p 0 ∷ p 0 ∷ p 0 ∷ p 0 ∷ p 0 ∷ p 0 ∷ p 0 ∷ p 0 ∷ p 0 ∷ []) (p 8 ∷ p 0 ∷ p 4 ∷ m 17 ∷ m 3 ∷ m 9 ∷ m 8 ∷ p 0 ∷ m 4 ∷ p 17 ∷ p 3 ∷ p 7 ∷ []) (8 ∷ 8 ∷ []))
    ∷ (refused 2 1 1 (m 1 ∷ p 5 ∷ m 1 ∷ []) (p 2252 ∷ p 268435455 ∷ p 4 ∷ []) (LargeSum 1))
    ∷ (refused 3 4 2 (p 10077696 ∷ p 20155392 ∷ p 10077696 ∷ p 10077696 ∷ p 2 ∷ p 2 ∷ m 2 ∷ p 6 ∷ m 781250 ∷ p 0 ∷ p 781250 ∷ m 781250 ∷ m 1458 ∷ p 0 ∷ m 1458 ∷ p 4374 ∷ []) (p 42 ∷ p 14 ∷ p 37 ∷ p 24 ∷ m 47 ∷ p 29 ∷ m 11 ∷ p 7 ∷ []) (TooLarge 2 1))
    ∷ (refused 3 1 2 (p 5 ∷ p 4 ∷ p 3 ∷ m 3 ∷ []) (p 0 ∷ p 134217727 ∷ m 268435455 ∷ p 1 ∷ m 268435455 ∷ p 1 ∷ p 268435455 ∷ p 1 ∷ []) (LargeSum 1))
    ∷ (filled 2 1 3 (p 0 ∷ p 2 ∷ m 2 ∷ []) (m 3 ∷ m 2 ∷ m 1 ∷ m 1 ∷ p 2 ∷ m 2 ∷ p 3 ∷ p 2 ∷ p 0 ∷ []) (TwoRowConflict 2 3 1) (p 1 ∷ p 0 ∷ p 0 ∷ p 0 ∷ p 1 ∷ p 1 ∷ []) (1 ∷ 0 ∷ []) (p 1 ∷ p 0 ∷ p 0 ∷ p 0 ∷ p 1 ∷ m 1 ∷ []) (p 0 ∷ p 0 ∷ p 1 ∷ p 2 ∷ []) (m 3 ∷ p 0 ∷ m 3 ∷ m 1 ∷ p 0 ∷ p 0 ∷ p 1 ∷ p 0 ∷ p 1 ∷ []) (1 ∷ 1 ∷ 1 ∷ []))
    ∷ (filled 6 1 4 (p 0 ∷ p 0 ∷ p 0 ∷ p 0 ∷ p 0 ∷ p 0 ∷ p 0 ∷ []) (m 3 ∷ p 3 ∷ m 4 ∷ p 4 ∷ m 1 ∷ m 4 ∷ m 4 ∷ p 3 ∷ m 3 ∷ p 4 ∷ m 4 ∷ p 1 ∷ p 4 ∷ p 2 ∷ m 3 ∷ p 3 ∷ m 4 ∷ p 4 ∷ m 1 ∷ m 4 ∷ p 3 ∷ m 3 ∷ p 3 ∷ m 4 ∷ p 4 ∷ m 1 ∷ m 4 ∷ m 1 ∷ []) (TwoRowConflict 2 3 0) (p 1 ∷ p 0 ∷ p 0 ∷ p 0 ∷ p 0 ∷ p 0 ∷ p 0 ∷ p 0 ∷ p 1 ∷ p 0 ∷ p 0 ∷ p 0 ∷ p 0 ∷ p 0 ∷ p 0 ∷ p 0 ∷ p 1 ∷ p 0 ∷ p 0 ∷ p 0 ∷ p 0 ∷ p 0 ∷ p 0 ∷ p 0 ∷ p 1 ∷ p 0 ∷ p 0 ∷ p 0 ∷ p 0 ∷ p 0 ∷ p 0 ∷ p 0 ∷ p 1 ∷ p 0 ∷ p 0 ∷ p 0 ∷ p 0 ∷ p 0 ∷ p 0 ∷ p 0 ∷ p 1 ∷ p 0 ∷ []) (1 ∷ 1 ∷ 1 ∷ 1 ∷ 1 ∷ 1 ∷ []) (p 1 ∷ p 0 ∷ p 0 ∷ p 0 ∷ p 0 ∷ p 0 ∷ p 0 ∷ p 0 ∷ p 1 ∷ p 0 ∷ p 0 ∷ p 0 ∷ p 0 ∷ p 0 ∷ p 0 ∷ p 0 ∷ p 1 ∷ p 0 ∷ p 0 ∷ p 0 ∷ p 0 ∷ p 0 ∷ p 0 ∷ p 0 ∷ p 1 ∷ p 0 ∷ p 0 ∷ p 0 ∷ p 0 ∷ p 0 ∷ p 0 ∷ p 0 ∷ p 1 ∷ p 0 ∷ p 0 ∷ p 0 ∷ p 0 ∷ p 0 ∷ p 0 ∷ p 0 ∷ p 1 ∷ p 0 ∷ []) (p 0 ∷ p 0 ∷ p 0 ∷ p 0 ∷ p 0 ∷ p 0 ∷ p 0 ∷ p 0 ∷ p 0 ∷ p 0 ∷ p 0 ∷ p 0 ∷ []) (m 3 ∷ p 3 ∷ m 4 ∷ p 4 ∷ m 1 ∷ m 4 ∷ m 4 ∷ p 3 ∷ m 3 ∷ p 4 ∷ m 4 ∷ p 1 ∷ p 4 ∷ p 2 ∷ m 3 ∷ p 3 ∷ m 4 ∷ p 4 ∷ m 1 ∷ m 4 ∷ p 3 ∷ m 3 ∷ p 3 ∷ m 4 ∷ p 4 ∷ m 1 ∷ m 4 ∷ m 1 ∷ []) (0 ∷ 0 ∷ 0 ∷ 0 ∷ []))
    ∷ (filled 3 2 2 (m 7 ∷ m 7 ∷ p 6 ∷ p 5 ∷ m 2 ∷ m 5 ∷ p 5 ∷ m 5 ∷ []) (m 4 ∷ p 2 ∷ p 8 ∷ m 6 ∷ p 4 ∷ m 2 ∷ m 8 ∷ p 6 ∷ []) (TwoRowConflict 1 2 5) (p 1 ∷ m 2 ∷ m 5 ∷ p 0 ∷ p 0 ∷ p 8 ∷ p 23 ∷ p 11 ∷ p 1 ∷ p 7 ∷ p 21 ∷ p 12 ∷ []) (0 ∷ 0 ∷ 1 ∷ []) (p 7 ∷ p 7 ∷ m 6 ∷ m 5 ∷ p 23 ∷ p 26 ∷ m 23 ∷ m 10 ∷ m 8 ∷ m 9 ∷ p 8 ∷ p 3 ∷ []) (m 1 ∷ p 0 ∷ p 1 ∷ m 3 ∷ m 1 ∷ p 1 ∷ p 0 ∷ p 0 ∷ p 0 ∷ []) (p 0 ∷ p 0 ∷ p 1 ∷ p 1 ∷ p 0 ∷ p 0 ∷ m 1 ∷ p 0 ∷ []) (3 ∷ 3 ∷ []))
    ∷ (filled 2 0 2 [] (m 4 ∷ p 4 ∷ p 9 ∷ p 4 ∷ m 4 ∷ m 10 ∷ []) (TwoRowConflict 1 2 0) (p 1 ∷ p 0 ∷ p 0 ∷ p 0 ∷ p 1 ∷ p 0 ∷ []) (1 ∷ 1 ∷ []) (p 1 ∷ p 0 ∷ p 0 ∷ p 0 ∷ p 1 ∷ p 0 ∷ []) (p 0 ∷ p 0 ∷ []) (m 1 ∷ p 1 ∷ p 3 ∷ p 1 ∷ m 1 ∷ m 2 ∷ []) (0 ∷ 0 ∷ []))
    ∷ (filled 2 3 1 (m 36 ∷ p 72 ∷ m 216 ∷ m 432 ∷ m 216 ∷ m 432 ∷ p 31250 ∷ m 15625 ∷ p 93750 ∷ []) (m 5 ∷ m 1 ∷ p 22 ∷ []) (OneRowConflict 1 2) (p 1 ∷ p 2 ∷ m 2 ∷ p 0 ∷ p 1 ∷ p 2 ∷ []) (0 ∷ 0 ∷ []) (p 1 ∷ m 2 ∷ p 6 ∷ p 0 ∷ p 1 ∷ m 2 ∷ []) (m 1 ∷ p 0 ∷ p 0 ∷ p 36 ∷ p 12 ∷ m 1 ∷ p 0 ∷ p 1080 ∷ []) (p 0 ∷ p 0 ∷ p 30 ∷ []) (3 ∷ []))
    ∷ []

pub compared : map answered systems ≡ map (λ c. c.expected) systems
unfolding answered
compared = refl
