use Rattle.std.proofs.Common.{◌≡◌, ◌++◌, take, drop, sum}
use Rattle.divider.specs.Shares.{whole}
use Rattle.running.specs.Running.{running_from, by_running}
use Rattle.running.proofs.RunningSumsDivider.divide.Given as goal

abbrev pub invariant-loop-i : goal.invariant-loop-i
invariant-loop-i l = (l.through ≡ sum (take l.i l.weights)) × (l.given ≡ whole l.total l.sum l.through) × (take l.i l.sheet ++ running_from l.total l.sum l.through (drop l.i l.weights) ≡ by_running l.total l.weights)
