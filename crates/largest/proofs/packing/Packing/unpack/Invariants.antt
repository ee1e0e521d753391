use Rattle.std.proofs.Common.{◌≡◌, ◌++◌, map, take, drop}
use Rattle.largest.specs.Packing.{share_of}
use Rattle.largest.proofs.packing.Packing.unpack.Given as goal

abbrev pub invariant-loop-x : goal.invariant-loop-x
invariant-loop-x l = l.sheet ≡ map (share_of l.self.unit l.above) (take l.x-index l.initial.sheet) ++ drop l.x-index l.initial.sheet
