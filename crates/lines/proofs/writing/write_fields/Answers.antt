use Rattle.std.proofs.Common.{◌≡◌, ◌+◌, ◌-◌, ◌∙◌, ap, sym, map, arith}
use Rattle.std.proofs.lemmas.Result.{err_from_is_err_and}
use Rattle.rows.specs.Rows.{spelled}
use Rattle.lines.specs.Answers.{at_field}
use Rattle.units.specs.Ranges.{count}
use Rattle.lines.specs.Questions.{first_fault}
use Rattle.lines.proofs.Fields.{told_refused, told_nothing}
use Rattle.lines.proofs.Sending.{shaped_item, shaped_before, within, asked_item, items_counted, unsent_at, sent}
use Rattle.lines.proofs.Walking.{clean_more, faults_next}
use Rattle.lines.proofs.writing.write_fields.Goals as goal

pub ask-requires : goal.ask-requires
ask-requires c =
    (shaped_item c.args.letter c.args.fields.now c.requires.0 c.requires.1 c.loop-i.i c.loop-i-test.true, shaped_before c.args.letter c.args.fields.now c.requires.0 c.requires.1 c.loop-i.i c.loop-i-test.true)

pub returns-in_err-ask : goal.returns-in_err-ask
returns-in_err-ask c =
    let l = c.args.letter in
    let fs = c.args.fields.now in
    let i = c.loop-i.i in
    let f = c.in_err-ask.field-0.0 in
    let p = err_from_is_err_and c.from_residual.result c.from_residual.ensures.1 in
    let w = within l fs c.requires.0 c.requires.1 i c.loop-i-test.true in
    let here = ap (at_field (i + 2)) (sym (asked_item l fs c.requires.0 c.requires.1 i c.loop-i-test.true)) ∙ told_refused _ f c.in_err-ask.ensures in
    rw (p.1, p.2) (unsent_at l fs c.requires.0 c.requires.1 c.args.buffer.now f (faults_next l (map spelled fs) i f (omega (arith, c.requires.1)) c.loop-i.invariant here))

pub loop-i-preserved : goal.loop-i-preserved
loop-i-preserved c =
    let l = c.args.letter in
    let fs = c.args.fields.now in
    let i = c.loop-i.i in
    clean_more l (map spelled fs) i c.loop-i.invariant (ap (at_field (i + 2)) (sym (asked_item l fs c.requires.0 c.requires.1 i c.loop-i-test.true)) ∙ told_nothing _ _ c.in_ok-ask.ensures)

pub returns : goal.returns
returns c =
    let l = c.args.letter in
    let fs = c.args.fields.now in
    let e : count l - 1 ≡ c.loop-i.i = omega (arith, items_counted fs, c.requires.1, c.loop-i.auto.i-end) in
    rw (c.ok_or.ensures.value, c.of_line.ensures) (sent l (map spelled fs) c.args.buffer.now c.write.new.buffer c.write.result (ap (first_fault l (map spelled fs) 2) e ∙ c.loop-i.invariant) c.write.ensures)
