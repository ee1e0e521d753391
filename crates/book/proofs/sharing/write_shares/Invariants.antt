use Rattle.std.proofs.Common.{take}
use Rattle.register.specs.Register.{records, Kept}
use Rattle.book.specs.Written.{Written}
use Rattle.book.proofs.sharing.write_shares.Given as goal

abbrev pub invariant-loop-i : goal.invariant-loop-i
invariant-loop-i g l =
    Written (goal.F-post g l.write) (take l.i l.shares) (records l.initial.customers) (records l.customers)
    × Kept l.initial.customers l.customers
