-- The second pass, one byte at a time: the bytes of the text and the line feed behind them.
use mathlib.Core.Bool.{Bool, true, false, cond}
use mathlib.Core.Path.{◌≡◌, refl}
use mathlib.Core.List.{List, [], ◌∷◌, ◌++◌}
use Prim.Native.Nat.{ℕ, suc, ◌+◌, ◌≤◌, ◌<◌}
use native.Mathlib.Numerals.{add-one}
use lib.IntN.{ℤ}
use lib.ListN.{length, drop, get_or, drop_of_length-le}
use lib.Seq.{drop-cons}
use Rattle.matrix.specs.Bytes.{line_feed}
use Rattle.matrix.specs.Machine.{step}
use Rattle.matrix.specs.Poured.{Page, put, written}
use Rattle.matrix.specs.Reader.{entry_of, ends, numbers}
use Rattle.matrix.specs.declared.Machine.{Machine}

module _ (inequality : Bool) (m : Machine) where
  -- the number that a byte ends is written first
  one : (next : Machine) (bytes : List ℕ) (p : Page ℤ) (t : Bool)
      → written (cond t (entry_of m ∷ numbers inequality next bytes) (numbers inequality next bytes)) p
      ≡ written (numbers inequality next bytes) (cond t (put (entry_of m) p) p)
  unfolding written
  one next bytes p true = refl
  one next bytes p false = refl

  module _ (text : List ℕ) (at : ℕ) (p : Page ℤ) where
    pub numbers-byte : at < length text
        → written (numbers inequality m (drop at text ++ line_feed ∷ [])) p
        ≡ written
        (numbers inequality (step m (get_or text at 0)) (drop (at + 1) text ++ line_feed ∷ []))
        (cond (ends inequality m (step m (get_or text at 0))) (put (entry_of m) p) p)
    unfolding numbers
    numbers-byte h =
        let next = step m (get_or text at 0) in
        rw (drop-cons text at 0 h, add-one at) (one next (drop (suc at) text ++ line_feed ∷ []) p (ends inequality m next))

    -- behind the line feed there is nothing left
    pub numbers-end : length text ≤ at
        → written (numbers inequality m (drop at text ++ line_feed ∷ [])) p ≡ cond (ends inequality m (step m line_feed)) (put (entry_of m) p) p
    unfolding numbers written
    numbers-end h = rw (drop_of_length-le text h) (one (step m line_feed) [] p (ends inequality m (step m line_feed)))
