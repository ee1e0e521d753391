use Rattle.std.proofs.Common.{rules, OnOk, ◌∙◌, subst}
use Rattle.std.specs.Io.KnownBytes.{Appends}
use Rattle.streams.proofs.Pieces.{written_whole}
use Rattle.streams.proofs.sink.AnySink.write_line.Goals as goal

pub returns-then-is_ok : goal.returns-then-is_ok
returns-then-is_ok g c =
    let before = g.W.Write.contents c.args.self.now in
    let after = g.W.Write.contents c.write_all.new.self in
    let bytes = c.as_bytes.ensures.value ∙ c.as_str.ensures.value in
    written_whole c.new-line.result _ _ before after c.write_all.result c.new-line.ensures.text c.new-line.ensures.intact (search rules) (subst (λ l. OnOk c.write_all.result (Appends before after l)) bytes c.write_all.ensures.bytes)
