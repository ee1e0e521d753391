-- What adds up in the book of every page that is billed.
use Rattle.std.specs.Prelude.{◌≡◌, ℕ, ◌+◌, List, [], ◌∷◌, map, length, pos, ◌-ℤ◌, Ok, Err, sum_by, Result}
use Rattle.records.specs.declared.cost_line.CostLine.{CostLine}
use Rattle.records.specs.declared.pool.Pool.{Pool}
use Rattle.book.specs.Lines.{new_line}
use Rattle.book.specs.Sides.{cost}
use Rattle.lines.specs.Lines.{header, grant, line_of}
use Rattle.lines.specs.Lines as lines
use Rattle.runs.specs.History.{cost_by, expenses, credits}
use Rattle.runs.specs.Runs.{sumℤ, charges_in, all_charges}
use Rattle.page.specs.declared.fault.Fault.{Fault}
use Rattle.page.specs.Pages.{Reading, Closed, page_lines}

-- The founding total and the capability, by the first line.
abbrev pub founding_total : List Reading → ℕ
founding_total (Ok (header t c) ∷ rs) = t
founding_total _ = 0

abbrev pub capability : List Reading → ℕ
capability (Ok (header t c) ∷ rs) = c
capability _ = 0

-- The load that a line grants.
abbrev pub grant_in : Reading → ℕ
grant_in (Ok (grant number load)) = load
grant_in _ = 0

-- The cost lines of a page: expenses, credits and shifts.
abbrev pub cost_lines : List Reading → List CostLine
cost_lines [] = []
cost_lines (Ok (lines.cost number p cents) ∷ rs) = new_line number p cents ∷ cost_lines rs
cost_lines (_ ∷ rs) = cost_lines rs

-- The marks add up to the founding total and the grants, the RHWMs to the capability, and
-- the charges of each pool to its cost, which is the one drawn from the page's cost lines.
-- All charges add up to the expenses less the credits among these; a shift is neither.
pub record AddsUp {D : Type 0} (rs : List Reading) (c : Closed D) : Type 0 where
  pub marks : sum_by (λ x. x.mark) c.customers ≡ founding_total rs + sum_by grant_in rs
  pub rhwms : sum_by (λ x. x.rhwm) c.customers ≡ capability rs
  pub charges : (p : Pool) → sumℤ (charges_in p (length c.customers) c.charges) ≡ cost c.book.costs c.book.credits p
  pub costs : (p : Pool) → cost c.book.costs c.book.credits p ≡ cost_by (cost_lines rs) p
  pub together :
      all_charges (length c.customers) c.charges ≡ pos (expenses (cost_lines rs)) -ℤ pos (credits (cost_lines rs))

abbrev pub PageAddsUp : {D : Type 0} → List ℕ → Result (Closed D) Fault → Type 0
PageAddsUp page (Ok c) = AddsUp (map line_of (page_lines page)) c
PageAddsUp page (Err f) = Unit {0}
