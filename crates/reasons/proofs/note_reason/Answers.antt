-- `reasons::note_reason` meets its contract: the multipliers and then the divisor, written one behind the other, are row k of the reasons.
use mathlib.Core.Path.{◌≡◌, refl, ap, ◌∙◌}
use mathlib.Core.List.{[], ◌∷◌, ◌++◌}
use Prim.Native.Nat.{suc, ◌*◌}
use native.Mathlib.Nat.{add-sub_cancel_left}
use native.Mathlib.Numerals.{add-one}
use native.Mathlib.Omega.{arith}
use lib.IntN.{pos}
use lib.ListN.{length, length-append}
use mir.Syntax.{w64}
use mir.Val.{to_z, of_z}
use Rattle.whole.proofs.Taken.{back}
use Rattle.rows.specs.Table.{rows_of}
use Rattle.rows.proofs.Lists.{row-end}
use Rattle.rows.proofs.TableLaws.{rows_of-set_row}
use Rattle.reasons.proofs.ShutReasons.{row-part-inside, set-row-parts}
use Rattle.reasons.proofs.note_reason.Goals as goal

pub bounds-reasons-end : goal.bounds-reasons-end
bounds-reasons-end c =
    let a = c.args in
    let m = length a.reason.now in
    let h = row-end (length a.marks.now) (suc m) a.k c.requires.0 in
    rw (add-one m, add-sub_cancel_left (a.k * suc m) m, c.copy.ensures) (row-part-inside m a.k a.reason.now a.reasons.now refl (omega arith))

pub returns : goal.returns
returns c =
    let a = c.args in
    let reason = a.reason.now in
    let m = length reason in
    let n = length a.marks.now in
    let last : to_z w64 (of_z w64 c.signed.result) ≡ pos a.d = back c.signed.result c.signed.type_inv ∙ c.signed.ensures in
    let h = row-end n (suc m) a.k c.requires.0 in
    let long : length (reason ++ pos a.d ∷ []) ≡ suc m = simp length-append (omega arith) in record {
      marks = refl;
      reasons = rw (add-one m, add-sub_cancel_left (a.k * suc m) m, c.copy.ensures, last)
          (ap (rows_of (suc m) n) (set-row-parts m a.k reason a.reasons.now (pos a.d) refl (omega arith))
          ∙ rows_of-set_row (suc m) n a.k a.reasons.now (reason ++ pos a.d ∷ []) c.requires.0 c.requires.1 long);
    }
