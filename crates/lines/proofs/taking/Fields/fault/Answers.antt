use Rattle.std.proofs.Common.{◌≡◌, ℕ, ◌-◌, length, ap, ◌∙◌, arith}
use Rattle.std.proofs.lemmas.List.{length-drop}
use Rattle.lines.specs.Reading.{all}
use Rattle.lines.proofs.Walking.{faults_now, refused_at}
use Rattle.lines.proofs.taking.Fields.fault.Goals as goal

pub returns : goal.returns
returns c =
    let s = c.args.self.now in
    let left : c.fields_in.result ≡ length (all s) - s.place = c.fields_in.ensures ∙ ap length c.requires.rest ∙ length-drop s.place (all s) in
    let f = faults_now s.letter (all s) s.place c.args.refusal s.begun c.requires.few s.clean c.requires.fails in
    rw c.at.ensures (refused_at s.letter (all s) s.known _ (omega (arith, left, c.requires.within, c.requires.few, c.count.ensures)) f)
