use Rattle.std.proofs.Common.{◌*◌, drop, sym, ◌∙◌}
use Rattle.std.proofs.lemmas.List.{set-get_or, take-append-drop}
use Rattle.largest.proofs.Packed.{raised_none}
use Rattle.largest.proofs.packing.Packing.raise.Goals as goal

pub returns-then-units-eq0 : goal.returns-then-units-eq0
returns-then-units-eq0 c =
    let xs = c.loop-x.sheet in
    let i = c.loop-x.x-index in
    let n = raised_none c.args.self.unit (c.args.cut.mark * c.args.self.unit) c.loop-x.units (drop i xs) c.if-units-eq0.true in
    set-get_or xs i 0 ∙ sym (take-append-drop i xs) ∙ rw n at c.loop-x.invariant
