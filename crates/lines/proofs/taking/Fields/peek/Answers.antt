use Rattle.std.proofs.Common.{◌-◌, Err, ap, sym, ◌∙◌, length, arith}
use Rattle.std.proofs.lemmas.List.{length-drop}
use Rattle.rows.specs.Rows.{parts_after}
use Rattle.lines.specs.Reading.{all}
use Rattle.lines.proofs.Walking.{miscounted, next_is, next_rest, next_within}
use Rattle.lines.proofs.taking.Fields.peek.Goals as goal

pub returns-in_default : goal.returns-in_default
returns-in_default c =
    let s = c.args.self.now in
    let n = ap length (ap (parts_after 44) (sym c.in_default.is) ∙ s.left) in
    ap Err c.of_line.ensures ∙ miscounted s.letter (all s) s.known (λ e. omega (arith, length-drop (s.place - 1) (all s)))

pub returns : goal.returns
returns c =
    let s = c.args.self.now in
    let more = c.split.ensures ∙ ap (parts_after 44) (sym c.in-Some.is) ∙ s.left in
    record {
      is = next_is (all s) s.place s.begun _ _ more;
      left = next_rest (all s) s.place s.begun _ _ more;
      within = next_within (all s) s.place s.begun _ _ more;
    }
