use Rattle.std.proofs.Common.{◌≡◌, ◌+◌, length, Result}
use Rattle.register.specs.Register.{room, records}
use Rattle.page.specs.declared.fault.Fault.{Fault}
use Rattle.page.specs.Pages.{Open, Plays}
use Rattle.page.specs.Steps.{readings}
use Rattle.page.proofs.acting.act_all.Given as goal

-- What the lines left come to, all lines come to, and their numbers follow on the last.
abbrev pub invariant-loop-number : goal.invariant-loop-number
invariant-loop-number g l = record {
  plays : (o : Result (Open g.row.D.Denot) Fault) → Plays (room l.costs) l.book (records l.customers) (records l.costs) l.number-iterator.number (readings l.number-iterator) o → Plays (room l.initial.costs) l.initial.book (records l.initial.customers) (records l.initial.costs) l.fn.lines.number (readings l.fn.lines) o;
  next : l.number-iterator.number ≡ l.last + 1;
  counts : l.number-iterator.number + length (readings l.number-iterator) ≡ l.fn.lines.number + length (readings l.fn.lines);
}
