-- The divisions of document 01. Each stands behind its own name: a change of the rounding in (c) touches `quotient` and its laws alone.
use Rattle.std.specs.Prelude.{cond, ℤ, pos, ◌+ℤ◌, ◌-ℤ◌, ◌*ℤ◌}
use Rattle.std.specs.Int.Signed.{quot_z, rem_z, lt_z}

-- (c): "Divide .. by a, truncating toward zero (000's Example 1 divides -7 by 3 as -2, remainder -1)."
unfoldable pub quotient : ℤ → ℤ → ℤ
quotient z a = quot_z z a

unfoldable pub remainder : ℤ → ℤ → ℤ
unfolding quotient
remainder z a = z -ℤ quotient z a *ℤ a

-- a division that leaves nothing, as by a common divisor
unfoldable pub exactly : ℤ → ℤ → ℤ
exactly z g = quot_z z g

-- "the least whole number not below constant/g", for g above 0
unfoldable pub ceiling : ℤ → ℤ → ℤ
ceiling z g = cond (lt_z (pos 0) (rem_z z g)) (quot_z z g +ℤ pos 1) (quot_z z g)
