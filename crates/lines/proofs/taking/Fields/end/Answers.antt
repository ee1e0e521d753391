use Rattle.std.proofs.Common.{◌≡◌, ◌-◌, Err, arith, ap, sym, ◌∙◌, length}
use Rattle.std.proofs.lemmas.List.{length-drop}
use Rattle.rows.proofs.Parts.{some_parts, none_after}
use Rattle.lines.specs.Reading.{all}
use Rattle.lines.specs.Questions.{first_fault}
use Rattle.units.specs.Ranges.{count}
use Rattle.lines.proofs.Walking.{miscounted}
use Rattle.lines.proofs.taking.Fields.end.Goals as goal

pub returns-then-is_some : goal.returns-then-is_some
returns-then-is_some c =
    let s = c.args.self.now in
    let some = some_parts 44 s.rest (sym c.if-is_some.ensures) in
    let n = ap length s.left in
    ap Err c.of_line.ensures ∙ miscounted s.letter (all s) s.known (λ e. omega (arith, length-drop (s.place - 1) (all s)))

pub returns : goal.returns
returns c =
    let s = c.args.self.now in
    let n = ap length (sym (none_after 44 s.rest (sym c.if-is_some.ensures)) ∙ s.left) in
    let k : s.place - 2 ≡ count s.letter - 1 = omega arith in
    (omega (arith, length-drop (s.place - 1) (all s)), ap (first_fault s.letter (all s) 2) (sym k) ∙ s.clean)
