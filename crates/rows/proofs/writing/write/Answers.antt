use Rattle.std.proofs.Common.{◌≡◌, ◌++◌, [], length, get_or, sym, refl, ap, ◌∙◌, arith}
use Rattle.std.proofs.lemmas.List.{length-append}
use Rattle.rows.specs.Rows.{spelled, row}
use Rattle.rows.proofs.Joining.{blank, row_is, rest_holds, rest_next, rest_all}
use Rattle.rows.proofs.Placing.{room_behind, written_more, written_all}
use Rattle.rows.proofs.writing.write.Goals as goal

pub loop-i-init : goal.loop-i-init
loop-i-init c = ([], (refl, refl), sym (row_is c.args.fields.now c.args.end.now))

pub put_bytes-at-requires : goal.put_bytes-at-requires
put_bytes-at-requires c =
    let inv = c.loop-i.invariant in
    let h = rest_holds c.args.fields.now c.args.end.now c.loop-i.i inv.0 c.comma.result.now c.loop-i-test.true inv.2 c.comma.ensures in
    room_behind inv.0 c.args.buffer.now c.loop-i.buffer c.loop-i.at (length c.comma.result.now) inv.1 (omega (arith, c.in_ok-left_behind.ensures.0))

pub put_field-at-requires : goal.put_field-at-requires
put_field-at-requires c =
    let inv = c.loop-i.invariant in
    let buffer = c.args.buffer.now in
    let comma = c.comma.result.now in
    let h = rest_holds c.args.fields.now c.args.end.now c.loop-i.i inv.0 comma c.loop-i-test.true inv.2 c.comma.ensures in
    let w = written_more inv.0 comma buffer c.loop-i.buffer c.put_bytes-at.new.buffer c.loop-i.at c.put_bytes-at.result inv.1 c.put_bytes-at.ensures.count c.put_bytes-at.ensures.after in
    room_behind (inv.0 ++ comma) buffer _ _ (length (spelled (get_or c.args.fields.now c.loop-i.i blank))) w (omega (arith, c.in_ok-left_behind.ensures.0, length-append inv.0 comma))

pub loop-i-preserved : goal.loop-i-preserved
loop-i-preserved c =
    let inv = c.loop-i.invariant in
    let buffer = c.args.buffer.now in
    let comma = c.comma.result.now in
    let field = spelled (get_or c.args.fields.now c.loop-i.i blank) in
    let w = written_more inv.0 comma buffer c.loop-i.buffer c.put_bytes-at.new.buffer c.loop-i.at c.put_bytes-at.result inv.1 c.put_bytes-at.ensures.count c.put_bytes-at.ensures.after in
    let v = written_more (inv.0 ++ comma) field buffer _ c.put_field-at.new.buffer _ c.put_field-at.result w c.put_field-at.ensures.count c.put_field-at.ensures.after in
    ((inv.0 ++ comma) ++ field, v, rest_next c.args.fields.now c.args.end.now c.loop-i.i inv.0 comma c.loop-i-test.true inv.2 c.comma.ensures)

pub returns : goal.returns
returns c =
    let inv = c.loop-i.invariant in
    let buffer = c.args.buffer.now in
    let fields = c.args.fields.now in
    let end = c.args.end.now in
    let all : inv.0 ++ end ≡ row fields end = ap (λ bs. inv.0 ++ bs) (sym (rest_all fields end c.loop-i.i c.loop-i-test.false)) ∙ inv.2 in
    let w = written_more inv.0 end buffer c.loop-i.buffer c.put_bytes.new.buffer c.loop-i.at c.put_bytes.result inv.1 c.put_bytes.ensures.count c.put_bytes.ensures.after in
    written_all (row fields end) buffer _ _ c.in_ok-left_behind.ensures.0 (rw all at w)
