use Rattle.std.proofs.Common.{arith}
use Rattle.lines.specs.Reading.{all}
use Rattle.lines.proofs.Holding.{figure_below}
use Rattle.lines.proofs.taking.Fields.number.Goals as goal

pub overflow_cast-result : goal.overflow_cast-result
overflow_cast-result c =
    let s = c.args.self.now in
    let taken = c.in_ok-figure.ensures.0 in
    let clean = rw (taken.letter, taken.all) at c.figure.new.self.clean in
    let b = figure_below s.letter (all s) s.place _ s.begun taken.place clean c.requires.due.figure in
    omega (arith, c.in_ok-figure.ensures.1)
