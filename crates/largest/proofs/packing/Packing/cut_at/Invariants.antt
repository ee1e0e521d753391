use Rattle.std.proofs.Common.{◌≡◌, ◌-◌, ◌<◌, ◌≤◌}
use Rattle.largest.specs.Packing.{reached}
use Rattle.largest.proofs.packing.Packing.cut_at.Given as goal

abbrev pub invariant-loop-served : goal.invariant-loop-served
invariant-loop-served l = (l.low < l.high) × (l.high ≤ l.self.sum) × (l.left ≤ reached l.self.unit l.low l.sheet) × (l.served ≡ reached l.self.unit l.high l.sheet) × (l.served ≤ l.left)

abbrev pub decreases-loop-served : goal.decreases-loop-served
decreases-loop-served l = l.high - l.low
