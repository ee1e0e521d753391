use Rattle.std.proofs.Common.{drop, List}
use Rattle.register.specs.Register.{room, records, Kept}
use Rattle.records.specs.declared.cost_line.CostLine.{CostLine}
use Rattle.worked_book.specs.declared.TheConstants.{LINES}
use Rattle.worked_book.specs.InTurn.{Answer}
use Rattle.worked_book.specs.Calls.{Open, PostsAll}
use Rattle.worked_book.proofs.post_all.Given as goal

-- What posting the lines left comes to, posting all comes to.
abbrev pub invariant-loop-number : goal.invariant-loop-number
invariant-loop-number l = record {
  turn : (r : Answer) (s : Open × List CostLine) → PostsAll (room l.lines) (drop l.number-index LINES) (l.book, records l.lines) r s → PostsAll (room l.initial.lines) LINES (l.initial.book, records l.initial.lines) r s;
  kept : Kept l.initial.lines l.lines;
}
