-- `reply` meets its contract: the page holds the whole reply to the text, and all of it is written.
use Rattle.std.proofs.Common.{rules, ◌≤◌, ℕ, List, length, take, arith, sym, subst}
use Rattle.std.specs.Io.KnownBytes.{Appends}
use Rattle.std.proofs.Math.Seq.{length-take-le}
use Rattle.matrix.proofs.Replies.{reply-whole}
use Rattle.plassobine.proofs.reply.Goals as goal

pub slice_bounds-page-end : goal.slice_bounds-page-end
slice_bounds-page-end g c = (reply-whole _ _ _ _ (omega (arith, c.room-page.ensures)) c.answer-size.ensures).1

pub slice_bounds-write_all-end : goal.slice_bounds-write_all-end
slice_bounds-write_all-end g c =
    let within : c.answer-size.result ≤ length c.answer-size.new.page = (reply-whole _ _ _ _ (omega (arith, c.room-page.ensures)) c.answer-size.ensures).1 in
    sym (length-take-le c.answer-size.result c.answer-size.new.page within)

pub returns : goal.returns
returns g c =
    let written : List ℕ → Type 0 = Appends (g.W.Write.contents c.args.writer.now) (g.W.Write.contents c.write_all.new.self) in
    let whole = (reply-whole _ _ _ _ (omega (arith, c.room-page.ensures)) c.answer-size.ensures).0 in
    let bytes : written (take c.answer-size.result c.answer-size.new.page) = search rules in
    subst written whole bytes
