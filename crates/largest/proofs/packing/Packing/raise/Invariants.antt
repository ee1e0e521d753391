use Rattle.std.proofs.Common.{◌≡◌, ◌++◌, take, drop}
use Rattle.largest.specs.Packing.{raised}
use Rattle.largest.proofs.packing.Packing.raise.Given as goal

abbrev pub invariant-loop-x : goal.invariant-loop-x
invariant-loop-x l = take l.x-index l.sheet ++ raised l.self.unit l.level l.units (drop l.x-index l.sheet) ≡ raised l.self.unit l.level l.initial.units l.initial.sheet
