-- The reasons table: a row of m + 1 numbers that is written in two parts, the first m and then the last.
use mathlib.Core.Path.{◌≡◌, sym, ap, ◌∙◌}
use mathlib.Core.List.{List, [], ◌∷◌, ◌++◌, append_assoc}
use Prim.Native.Nat.{ℕ, suc, ◌+◌, ◌*◌, ◌≤◌, ◌<◌}
use native.Mathlib.Omega.{arith}
use lib.ListN.{length, get_or, take, drop, set, length-append, length-take, length-drop}
use lib.Seq.{length-take-le, drop-cons, set_at}
use Rattle.rows.specs.Table.{set_row}

-- the first part written, the place of the last number is still within the table
pub row-part-inside : {A : Type 0} (m k : ℕ) (row t : List A) → length row ≡ m → k * suc m + suc m ≤ length t
    → k * suc m + m < length (take (k * suc m) t ++ (row ++ drop m (drop (k * suc m) t)))
row-part-inside m k row t e h = simp (length-append, length-take, length-drop) (omega arith)

-- both parts written, row k is replaced
pub set-row-parts : {A : Type 0} (m k : ℕ) (row t : List A) (z : A) → length row ≡ m → k * suc m + suc m ≤ length t
    → set (take (k * suc m) t ++ (row ++ drop m (drop (k * suc m) t))) (k * suc m + m) z ≡ set_row (suc m) k (row ++ z ∷ []) t
set-row-parts {A} m k row t z e h =
    let a = k * suc m in
    let front = take a t in
    let next = get_or (drop a t) m z in
    let rest = drop (suc m) (drop a t) in
    let more : m < length (drop a t) = simp length-drop (omega arith) in
    let long : length (front ++ row) ≡ a + m = simp length-append (omega (arith, length-take-le a t (omega arith))) in
    ap (λ (l : List A). set (front ++ (row ++ l)) (a + m) z) (drop-cons (drop a t) m z more)
    ∙ ap (λ (l : List A). set l (a + m) z) (sym (append_assoc front row (next ∷ rest)))
    ∙ set_at (front ++ row) next rest z (a + m) long
    ∙ append_assoc front row (z ∷ rest)
    ∙ ap (λ (l : List A). front ++ l) (sym (append_assoc row (z ∷ []) rest))
