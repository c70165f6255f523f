-- The rows of a flat table, as a loop over its chunks meets them.
use mathlib.Core.Path.{◌≡◌, sym, ap, ◌∙◌}
use mathlib.Core.List.{List, ◌++◌}
use Prim.Native.Nat.{ℕ, ◌+◌, ◌-◌, ◌*◌, ◌/◌, ◌≤◌, ◌<◌}
use native.Mathlib.Nat.{le-div_iff_mul-le, div-lt_iff_lt-mul}
use native.Mathlib.Omega.{arith}
use lib.ListN.{length, take, drop, length-append, length-drop}
use lib.Seq.{take_at, drop_at, drop-drop}
use lib.IntN.{ℤ}
use denote.Ref.{Bor}
use Rattle.std.specs.Prelude.{Option, Some, None}
use Rattle.std.specs.declared.slice.ChunksExact.{ChunksExact}
use Rattle.std.specs.declared.iter.Enumerate.{Enumerate}
use Rattle.std.specs.Slice.Iter.{chunks_exact_rest, chunks_exact_size, chunks_exact_steps}
use Rattle.std.specs.Iterator.Adapters.{enumerate_source, enumerate_count, enumerate_steps}
use Rattle.rows.specs.Table.{row_at}
use Rattle.rows.proofs.Lists.{row_next}

-- i rows are passed, and `ahead` is what is left of the table
module _ (w : ℕ) (t : List ℤ) (i : ℕ) {ahead : List ℤ} (wide : 0 < w) (e : ahead ≡ drop (i * w) t) where
  left : length ahead ≡ length t - i * w
  left = ap length e ∙ length-drop (i * w) t

  -- the chunk that comes next is row i, and the others are left
  module _ (row more : List ℤ) (cut : ahead ≡ row ++ more) (long : length row ≡ w) where
    row_there : i < length t / w
    row_there =
        let size : length ahead ≡ length row + length more = ap length cut ∙ length-append row more in
        let fits : (i + 1) * w ≤ length t = rw (row_next w i) (omega (arith, left)) in
        let n : i + 1 ≤ length t / w = (le-div_iff_mul-le wide).1 fits in
        omega arith

    row_is : row ≡ row_at w i t
    row_is = sym (take_at row more w long) ∙ ap (take w) (sym cut ∙ e)

    more_is : more ≡ drop ((i + 1) * w) t
    more_is = sym (drop_at row more w long) ∙ ap (drop w) (sym cut ∙ e) ∙ drop-drop w (i * w) t ∙ ap (λ (k : ℕ). drop k t) (sym (row_next w i))

  -- no chunk is left
  over : length ahead < w → length t / w ≤ i
  over h =
      let short : length t < (i + 1) * w = rw (row_next w i) (omega (arith, left)) in
      let n : length t / w < i + 1 = (div-lt_iff_lt-mul wide).1 short in
      omega arith

-- ---- a turn of a loop over the chunks with their numbers: row i comes
pub record Turn (w : ℕ) (t : List ℤ) (s u : Enumerate (ChunksExact ℤ)) (i : ℕ) (row : List ℤ) : Type 0 where
  pub number : i ≡ enumerate_count s
  pub there : i < length t / w
  pub is : row ≡ row_at w i t
  pub long : length row ≡ w
  pub counted : enumerate_count u ≡ i + 1
  pub rest : chunks_exact_rest (enumerate_source u) ≡ drop (enumerate_count u * w) t
  pub width : chunks_exact_size (enumerate_source u) ≡ w

module _ (w : ℕ) (t : List ℤ) (s u : Enumerate (ChunksExact ℤ)) (o : Option (ℕ × Bor (List ℤ))) (wide : 0 < w)
    (ahead : chunks_exact_rest (enumerate_source s) ≡ drop (enumerate_count s * w) t)
    (size : chunks_exact_size (enumerate_source s) ≡ w)
    (steps : enumerate_steps chunks_exact_steps s o u) where
  pub turn : (i : ℕ) (row : Bor (List ℤ)) → o ≡ Some (i, row) → Turn w t s u i row.now
  turn i row e =
      let k = rw e at steps in
      let a : chunks_exact_rest (enumerate_source s) ≡ drop (i * w) t = rw k.1 ahead in
      let l : length row.now ≡ w = k.0.1.1 ∙ size in
      let more = chunks_exact_rest (enumerate_source u) in
      let c : enumerate_count u ≡ i + 1 = k.2 ∙ rw k.1 in
      record {
        number = k.1;
        there = row_there w t i wide a row.now more k.0.1.0 l;
        is = row_is w t i wide a row.now more k.0.1.0 l;
        long = l;
        counted = c;
        rest = rw c (more_is w t i wide a row.now more k.0.1.0 l);
        width = k.0.0 ∙ size;
      }

  -- none comes
  pub rows_over : o ≡ None → length t / w ≤ enumerate_count s
  rows_over e = let k = rw e at steps in over w t (enumerate_count s) wide ahead (rw (← size) k.0.1.0)
