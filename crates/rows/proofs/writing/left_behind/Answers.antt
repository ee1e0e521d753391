use Rattle.std.proofs.Common.{◌+◌, length, sym, ap, rules}
use Rattle.rows.proofs.Joining.{row_is, rest_width}
use Rattle.rows.proofs.writing.left_behind.Goals as goal

pub loop-i-init : goal.loop-i-init
loop-i-init c = ap (λ bs. length bs + c.args.room) (sym (row_is c.args.fields.now c.args.end.now))

pub returns-in_err-checked_sub : goal.returns-in_err-checked_sub
returns-in_err-checked_sub c =
    let w = rest_width c.args.fields.now c.args.end.now c.loop-i.i c.loop-i-test.true in
    let m = ap length c.comma.ensures in
    search rules
