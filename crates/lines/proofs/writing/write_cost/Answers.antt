use Rattle.std.proofs.Common.{rules}
use Rattle.lines.proofs.Trips.{writes_from}
use Rattle.lines.proofs.writing.write_cost.Goals as goal

pub returns-in-Expense : goal.returns-in-Expense
returns-in-Expense c = rw (c.in-Expense.is, ← c.from.ensures) (search (rules, writes_from))

pub returns-in-Credit : goal.returns-in-Credit
returns-in-Credit c = rw (c.in-Credit.is, ← c.from.ensures) (search (rules, writes_from))

pub returns-in-Shift : goal.returns-in-Shift
returns-in-Shift c = rw (c.in-Shift.is, ← c.from.ensures) (search (rules, writes_from))
