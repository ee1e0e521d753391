use Rattle.std.proofs.Common.{◌≡◌, ◌+◌, length, drop}
use Rattle.register.specs.Records.{rising_front, rising_after}
use Rattle.register.proofs.slices.rising.Given as goal

abbrev pub invariant-loop-count : goal.invariant-loop-count
invariant-loop-count g l =
    length (rising_front g.R.Keyed.key l.records) ≡ l.count + length (rising_after g.R.Keyed.key l.last (drop l.count l.records))
