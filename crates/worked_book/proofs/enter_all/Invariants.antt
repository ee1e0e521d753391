use Rattle.std.proofs.Common.{drop, List}
use Rattle.register.specs.Register.{room, records, Kept}
use Rattle.records.specs.declared.customer.Customer.{Customer}
use Rattle.worked_book.specs.declared.TheConstants.{FIGURES}
use Rattle.worked_book.specs.InTurn.{Answer}
use Rattle.worked_book.specs.Calls.{EntersAll}
use Rattle.worked_book.proofs.enter_all.Given as goal

-- What entering the figures left comes to, entering all comes to.
abbrev pub invariant-loop-figures : goal.invariant-loop-figures
invariant-loop-figures l = record {
  turn : (r : Answer) (cs : List Customer) → EntersAll (room l.customers) (drop l.figures-index FIGURES) (records l.customers) r cs → EntersAll (room l.initial.customers) FIGURES (records l.initial.customers) r cs;
  kept : Kept l.initial.customers l.customers;
}
