-- A text that the machine accepts is well formed.
use mathlib.Core.Bool.{Bool, true, false}
use mathlib.Core.Path.{◌≡◌}
use mathlib.Core.List.{List, [], ◌∷◌}
use Prim.Native.Nat.{ℕ}
use Rattle.matrix.specs.Bytes.{line_feed}
use Rattle.wellformed.specs.Grammar.{Row, Body, Matrix, WellFormed}
use Rattle.matrix.specs.Machine.{begin, step}
use Rattle.matrix.specs.Reader.{is_dead}
use Rattle.matrix.specs.declared.Machine.{Machine}
use Rattle.wellformed.proofs.Runs.{run, Accepts}
use Rattle.wellformed.proofs.Following.{Following, Heads, skip, head, After, Unless, Rest}
use Rattle.wellformed.proofs.Backwards.{back, back_end}

-- the lines of the rows to come, whatever their numbers
row_lines : Following
row_lines = record {
  holds = λ columns rows lines. (matrix : List Row) × Body columns rows matrix lines;
  skips = λ columns rows line lines skipped h. (h.0, Body.skip skipped h.1);
  adds = λ columns rows r line lines is h. (r ∷ h.0, Body.next is h.1);
}

-- the end of the text is right: no row is to come
ended : (dead body : Bool) (columns rows : ℕ) → dead ≡ false → body ≡ true → rows ≡ 0 → Unless dead (After row_lines body columns rows [])
unfolding row_lines
ended dead body columns rows alive headed whole = rw (alive, headed, whole) ([], Body.end)

accepts-rest : (m : Machine) (bytes : List ℕ) → Accepts m bytes → Rest row_lines m bytes
unfolding run
accepts-rest m [] a =
    let m' = step m line_feed in
    back_end row_lines m a.ended (ended (is_dead m'.phase) m'.body m'.columns m'.rows a.alive a.headed a.whole)
accepts-rest m (b ∷ bytes) a =
    back row_lines m b bytes (accepts-rest (step m b) bytes (record { ended = a.ended; alive = a.alive; headed = a.headed; whole = a.whole }))

heads-matrix : {lines : List (List ℕ)} → Heads row_lines lines → (rows : ℕ) × (columns : ℕ) × (matrix : List Row) × Matrix rows columns matrix lines
unfolding row_lines
heads-matrix (skip skipped heads) = let (rows, columns, matrix, is) = heads-matrix heads in (rows, columns, matrix, Matrix.skip skipped is)
heads-matrix (head {rows = rows} {columns = columns} line body) = (rows, columns, body.0, Matrix.head line body.1)

pub accepts-says : (text : List ℕ) → Accepts begin text → WellFormed text
unfolding begin
accepts-says text a =
    let rest = accepts-rest begin text a in
    let (rows, columns, matrix, is) = heads-matrix rest.holds in
    record { rows = rows; columns = columns; matrix = matrix; says = record { lines = rest.line ∷ rest.others; cut = rest.lines; matrix_of = is } }
