use Rattle.std.proofs.Common.{◌≡◌, ◌++◌, take, drop}
use Rattle.std.specs.Fn.{FnReturnsAt}
use Rattle.book.specs.Weights.{Weighed}
use Rattle.book.proofs.weighing.write_weights.Given as goal

abbrev pub invariant-loop-i : goal.invariant-loop-i
invariant-loop-i g l = Weighed (FnReturnsAt g.F.Fn l.weight) (take l.i l.customers) (λ by. l.sheet ≡ by ++ drop l.i l.initial.sheet)
