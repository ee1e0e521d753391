use Rattle.std.proofs.Common.{◌≡◌, ◌*◌, ◌^◌, ◌≤◌, sum, take}
use Rattle.std.specs.Fn.{FnReturnsAt}
use Rattle.book.specs.Weights.{Weighed}
use Rattle.book.proofs.weighing.sum_of.Given as goal

abbrev pub invariant-loop-customer : goal.invariant-loop-customer
invariant-loop-customer g l =
    Weighed (FnReturnsAt g.F.Fn l.weight) (take l.customer-index l.customers) (λ by. l.sum ≡ sum by) × (l.sum ≤ l.customer-index * 2 ^ 64)
