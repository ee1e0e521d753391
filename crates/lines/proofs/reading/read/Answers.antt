use Rattle.std.proofs.Common.{◌∙◌}
use Rattle.rows.specs.Rows.{parted}
use Rattle.lines.specs.Lines.{contents}
use Rattle.lines.proofs.Trips.{written_back, read_ranged}
use Rattle.lines.proofs.reading.read.Goals as goal

pub returns-clause-writes : goal.returns-clause-writes
returns-clause-writes c =
    let taken = c.in_ok-read.ensures.0 in
    let same = taken.all ∙ c.in_ok-fields.ensures.0 in
    let is = rw c.in_ok-fields.ensures.0 at c.in_ok-read.ensures.1 in
    let known = rw (taken.letter, same) at c.line.new.self.known in
    let counted = rw (taken.letter, same) at c.in_ok-end.ensures.0 in
    let clean = rw (taken.letter, same) at c.in_ok-end.ensures.1 in
    written_back c.args.line.now c.in_ok-fields.fields.letter (contents c.in_ok-read.read) is known counted clean

pub returns-clause-ranged : goal.returns-clause-ranged
returns-clause-ranged c =
    let taken = c.in_ok-read.ensures.0 in
    let same = taken.all ∙ c.in_ok-fields.ensures.0 in
    let is = rw c.in_ok-fields.ensures.0 at c.in_ok-read.ensures.1 in
    let clean = rw (taken.letter, same) at c.in_ok-end.ensures.1 in
    read_ranged c.in_ok-fields.fields.letter (parted 44 c.args.line.now) (contents c.in_ok-read.read) is clean
