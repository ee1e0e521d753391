use Rattle.std.proofs.Common.{◌≡◌, ◌<◌, length, get_or, rules}
use Rattle.figures.proofs.Reading.{no_figure, a_figure}
use Rattle.figures.proofs.read.Goals as goal

pub returns-in_err-value-clause-reads : goal.returns-in_err-value-clause-reads
returns-in_err-value-clause-reads c =
    let h = no_figure c.args.bytes.now c.in_err-value.ensures.other in
    search rules

pub returns : goal.returns
returns c =
    let bs = c.args.bytes.now in
    let some : 0 < length bs = search rules in
    let first : get_or bs 0 0 ≡ 48 → length bs ≡ 1 = search rules in
    let f = a_figure bs c.in_ok-value.field-0 c.ok_or.result some first c.in_ok-value.ensures.digits c.in_ok-value.ensures.value c.ok_or.ensures.value in
    record { reads = f.0; written = f.1 }
