-- `run` meets its contract: what is written is the reply to what was read.
use Rattle.std.proofs.Common.{rules, ◌≡◌, ℕ, List, length, take, ap, ◌∙◌, subst}
use Rattle.std.specs.Prelude.{Option, None, Some, IfSome}
use Rattle.std.specs.Io.KnownBytes.{Appends}
use Rattle.std.proofs.lemmas.Result.{on_ok_weaker}
use Rattle.streams.specs.Read.{Holds}
use Rattle.matrix.specs.Program.{program}
use Rattle.matrix.proofs.Replies.{program-front}
use Rattle.plassobine.proofs.run.Goals as goal

-- what holds of the reply to what lies in the room holds of the reply to the text
replied : (A : List ℕ → Type 0) (text : Option (List ℕ)) (room : List ℕ) (count : ℕ) → length room ≡ 65537 → Holds text room count
    → A (program (take count room)) → IfSome text (λ input. A (program input))
replied A None room count l h a = tt
replied A (Some input) room count l h a = subst A (ap program (h.front ∙ ap (λ n. take n input) l) ∙ program-front input) a

pub returns : goal.returns
returns g c =
    let written : List ℕ → Type 0 = Appends (g.W.Write.contents c.args.writer.now) (g.W.Write.contents c.reply.new.writer) in
    on_ok_weaker c.reply.result
    (replied written (g.R.Read.remaining c.args.reader.now) c.read_text.new.room c.in-Ok.count (search rules) c.in-Ok.ensures)
    c.reply.ensures
