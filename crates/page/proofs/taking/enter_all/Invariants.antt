use Rattle.std.proofs.Common.{◌≡◌, length, Result}
use Rattle.register.specs.Register.{room, records}
use Rattle.rows.specs.Rows.{parts_after}
use Rattle.page.specs.declared.fault.Fault.{Fault}
use Rattle.page.specs.Pages.{Taken, Takes}
use Rattle.page.specs.Steps.{readings}
use Rattle.page.proofs.taking.enter_all.Given as goal

-- What the lines left come to, all lines come to.
abbrev pub invariant-loop-number : goal.invariant-loop-number
invariant-loop-number g l = record {
  same : l.lines ≡ l.after;
  takes : (o : Result Taken Fault) → Takes (room l.customers) (records l.customers) l.after.number (readings l.after) o → Takes (room l.initial.customers) (records l.initial.customers) l.initial.lines.number (readings l.initial.lines) o;
}

abbrev pub decreases-loop-number : goal.decreases-loop-number
decreases-loop-number g l = length (parts_after 10 l.after.rest)
