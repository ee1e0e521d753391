use Rattle.std.proofs.Common.{◌∙◌, ap, sym}
use Rattle.lines.specs.Lines.{figure}
use Rattle.units.specs.Ranges.{kind}
use Rattle.lines.proofs.Fields.{figure_taken}
use Rattle.lines.proofs.taking.Fields.figure.Goals as goal

pub returns-in-Ok : goal.returns-in-Ok
returns-in-Ok c =
    let s = c.args.self.now in
    (c.pass.ensures, (figure_taken (kind s.letter s.place) c.in_ok-bytes.bytes.now _ (sym c.in-Ok.ensures)).2 ∙ ap figure c.in_ok-bytes.ensures.is)
