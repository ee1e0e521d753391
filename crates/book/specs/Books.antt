-- Books from stage to stage.
use Rattle.std.specs.Prelude.{ℕ, ◌+◌}
use Rattle.records.specs.declared.cost_line.Entry.{Entry}
use Rattle.book.specs.declared.stages.Intake.{Intake}
use Rattle.book.specs.declared.stages.OpenBook.{OpenBook}
use Rattle.book.specs.declared.stages.ClosedBook.{ClosedBook}
use Rattle.book.specs.Sides.{no_sides, posted_costs, posted_credits, struck_costs, struck_credits}

-- A book as founding leaves it.
abbrev pub opened : {D : Type 0} → Intake D → OpenBook D
opened b = record { divider = b.divider; header = b.header; granted = 0; costs = no_sides; credits = no_sides }

abbrev pub closed : {D : Type 0} → OpenBook D → ClosedBook D
closed b = record { divider = b.divider; header = b.header; granted = b.granted; costs = b.costs; credits = b.credits }

-- With a grant more.
abbrev pub granting : {D : Type 0} → OpenBook D → ℕ → OpenBook D
granting b load = record b { granted = b.granted + load }

-- With a cost line more, or less.
abbrev pub posting : {D : Type 0} → OpenBook D → Entry → ℕ → OpenBook D
posting b e n = record b { costs = posted_costs b.costs e n; credits = posted_credits b.credits e n }

abbrev pub striking : {D : Type 0} → OpenBook D → Entry → ℕ → OpenBook D
striking b e n = record b { costs = struck_costs b.costs e n; credits = struck_credits b.credits e n }
