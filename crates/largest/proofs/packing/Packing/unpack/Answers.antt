use Rattle.std.proofs.Common.{◌≡◌, ◌+◌, ◌*◌, ◌<◌, nat_le, cond, length, get_or, arith, rules, tests}
use Rattle.std.proofs.lemmas.List.{get_or_default}
use Rattle.std.proofs.lemmas.List.Edits.{map_over_more}
use Rattle.largest.specs.Packing.{share_of}
use Rattle.largest.proofs.packing.Packing.unpack.Goals as goal

pub loop-x-preserved : goal.loop-x-preserved
loop-x-preserved c =
    let p = c.args.self in
    let i = c.loop-x.x-index in
    let x = get_or c.loop-x.sheet i 0 in
    let b = c.args.cut.mark * p.unit + p.unit in
    let h : i < length c.loop-x.sheet = omega arith in
    let e : c.from.result ≡ cond (nat_le b x) 1 0 = search (rules, tests) in
    rw (p.masks x, e) (map_over_more (share_of p.unit b) c.args.sheet.now c.loop-x.sheet i x (omega arith) c.loop-x.invariant (get_or_default c.loop-x.sheet i 0 x h))
