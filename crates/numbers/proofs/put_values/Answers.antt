-- `numbers::put_values` meets its contract: each turn stores one value more.
use mathlib.Core.Path.{◌≡◌}
use mathlib.Core.List.{List, [], ◌∷◌}
use Prim.Native.Nat.{ℕ, ◌+◌, ◌<◌}
use native.Mathlib.Numerals.{add-one}
use native.Mathlib.Omega.{arith}
use lib.ListN.{length, take, set, get_or}
use lib.Seq.{take-suc, length-take-le}
use Rattle.matrix.specs.Poured.{poured}
use Rattle.numbers.specs.Numbers.{five}
use Rattle.numbers.proofs.Stored.{stored}
use Rattle.numbers.proofs.put_values.Goals as goal

pub loop-i-init : goal.loop-i-init
unfolding five poured
loop-i-init c = rw (c.fill.ensures.after (λ y h. h), c.requires.0)

-- one value more behind the kind
more : (kind i : ℕ) (values : List ℕ) → i < length values → length values < 5
    → set (five (kind ∷ take i values)) (i + 1) (get_or values i 0) ≡ five (kind ∷ take (i + 1) values)
unfolding five
more kind i values h few =
    let front : length (take i values) ≡ i = length-take-le i values (omega arith) in
    let so_far : List ℕ = kind ∷ take i values in
    let table : List ℕ = 0 ∷ 0 ∷ 0 ∷ 0 ∷ 0 ∷ [] in
    let one = stored so_far table (get_or values i 0) (omega arith) in
    rw (add-one, take-suc values i 0 h) (rw front at one)

pub loop-i-preserved : goal.loop-i-preserved
loop-i-preserved c =
    rw c.loop-i.invariant (more c.args.kind c.loop-i.i c.args.values.now c.loop-i-test.true (omega arith))
