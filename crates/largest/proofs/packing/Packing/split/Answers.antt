use Rattle.std.proofs.Common.{arith}
use Rattle.largest.proofs.Packed.{ready, packed_fits, left_more}
use Rattle.largest.proofs.packing.Packing.split.Goals as goal

pub overflow_add-sheet : goal.overflow_add-sheet
overflow_add-sheet c =
    let p = c.args.self in
    let ws = c.args.weights.now in
    omega (arith, packed_fits p.total p.sum p.unit ws (ready p ws c.requires.0 c.requires.1) c.loop-i.i c.loop-i-test.true)

pub overflow_sub-left : goal.overflow_sub-left
overflow_sub-left c =
    let p = c.args.self in
    let ws = c.args.weights.now in
    (left_more p.total p.sum p.unit ws (ready p ws c.requires.0 c.requires.1) c.loop-i.i c.loop-i-test.true c.loop-i.left c.loop-i.invariant.0).0
