use Rattle.std.proofs.Common.{inl, inr, arith}
use Rattle.largest.proofs.Packed.{mark_below}
use Rattle.largest.proofs.packing.Packing.cut_at.Goals as goal
use Rattle.largest.proofs.packing.Packing.cut_at.Goals.{then-loop-served-test+else-high-low-gt1, else-loop-served-test}

pub returns : goal.returns
returns c =
    record {
      within = omega arith;
      divides = mark_below c.args.self.unit c.args.sheet.now c.args.left c.loop-served.served c.loop-served.low c.loop-served.high c.loop-served.invariant.0 c.loop-served.invariant.2 c.loop-served.invariant.3 c.loop-served.invariant.4 (elim c.loop-served-test.branch [ then-loop-served-test+else-high-low-gt1 w ↦ inr w.if-high-low-gt1.false | else-loop-served-test w ↦ inl w.loop-served-test.false ]);
    }
