-- A choice by a test, where it is known how the test ends.
use mathlib.Core.Path.{◌≡◌, ap}
use mathlib.Core.Bool.{Bool, true, false}

abbrev choice : {A : Type 0} → A → A → Bool → A
choice x y b = elim b [ true ↦ x | false ↦ y ]

pub chosen : {A : Type 0} {b c : Bool} (x y : A) → b ≡ c → choice x y b ≡ choice x y c
chosen x y e = ap (choice x y) e
