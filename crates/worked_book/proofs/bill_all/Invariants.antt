use Rattle.std.proofs.Common.{codes, drop, List, ℤ}
use Rattle.register.specs.Register.{records}
use Rattle.worked_book.specs.InTurn.{Answer}
use Rattle.worked_book.specs.Calls.{BillsAll}
use Rattle.worked_book.proofs.bill_all.Given as goal

-- What billing the letters left comes to, billing all comes to.
abbrev pub invariant-loop-letter : goal.invariant-loop-letter
invariant-loop-letter l =
    (r : Answer) (ch : List ℤ) → BillsAll l.book (records l.customers) (drop l.letter-index (codes "CNST")) l.charges r ch → BillsAll l.book (records l.customers) (codes "CNST") l.initial.charges r ch
