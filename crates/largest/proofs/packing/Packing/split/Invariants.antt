use Rattle.std.proofs.Common.{◌≡◌, ◌-◌, map, take, sum_by}
use Rattle.divider.specs.Shares.{whole}
use Rattle.largest.specs.Packing.{packed}
use Rattle.largest.proofs.packing.Packing.split.Given as goal

abbrev pub invariant-loop-i : goal.invariant-loop-i
invariant-loop-i l = (l.left ≡ l.self.total - sum_by (whole l.self.total l.self.sum) (take l.i l.weights)) × (take l.i l.sheet ≡ map (packed l.self.total l.self.sum l.self.unit) (take l.i l.weights))
