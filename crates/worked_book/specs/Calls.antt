-- What the functions of the worked book do, by what the calls of the book promise.
use Rattle.std.specs.Prelude.{◌≡◌, ℕ, Bool, true, false, List, replicate, ℤ, Err}
use Rattle.units.specs.Ranges.{in_range}
use Rattle.units.specs.declared.ranges.Letter.TheVariants.{Expense, Grant}
use Rattle.largest.specs.Largest.{by_remainders}
use Rattle.largest.specs.declared.LargestRemainder.{LargestRemainder}
use Rattle.records.specs.declared.customer.Customer.{Customer}
use Rattle.records.specs.declared.cost_line.CostLine.{CostLine}
use Rattle.book.specs.Customers.{Enters}
use Rattle.book.specs.Lines.{Posts}
use Rattle.book.specs.Marks.{Grants, Lifts, Lands}
use Rattle.book.specs.Rates.{Bills}
use Rattle.book.specs.declared.figures.Figures.{Figures}
use Rattle.book.specs.declared.figures.Posting.{Posting}
use Rattle.book.specs.declared.refusal.Refusal.TheVariants.{OutOfRange}
use Rattle.book.specs.declared.stages.OpenBook.{OpenBook}
use Rattle.book.specs.declared.stages.ClosedBook.{ClosedBook}
use Rattle.worked_book.specs.InTurn.{Answer, Then, InTurn}

abbrev pub Open : Type 0
Open = OpenBook LargestRemainder

abbrev pub Closed : Type 0
Closed = ClosedBook LargestRemainder

-- A call with a figure: where that is out of its range, it is refused with 6, and nothing changes.
abbrev pub Ranged : {S : Type 0} → Bool → (S → Answer → S → Type 0) → S → Answer → S → Type 0
Ranged true Call s r s' = Call s r s'
Ranged false Call s r s' = (r ≡ Err OutOfRange) × (s' ≡ s)

-- A transfer lifts a load, and lands it.
abbrev pub Transfers : ℕ → ℕ → ℕ → List Customer → Answer → List Customer → Type 0
Transfers giver receiver load =
    Ranged (in_range Grant 3 load) (λ cs. Then (Lifts cs giver load) (λ parcel lifted. Lands lifted parcel receiver))

-- A grant, and a posting of a cost line in a register of so many places.
abbrev pub GrantsRanged : ℕ → ℕ → Open × List Customer → Answer → Open × List Customer → Type 0
GrantsRanged number load = Ranged (in_range Grant 3 load) (λ s r s'. Grants s.0 s.1 number load r s'.0 s'.1)

abbrev pub PostsRanged : ℕ → ℕ → Posting → ℕ → Open × List CostLine → Answer → Open × List CostLine → Type 0
PostsRanged places number posting cents =
    Ranged (in_range Expense 4 cents) (λ s r s'. Posts s.0 places s.1 number posting cents r s'.0 s'.1)

-- A bill, on sheets of three places that hold 0.
abbrev pub BillsOn : Closed → List Customer → ℕ → List ℤ → Answer → List ℤ → Type 0
BillsOn book customers letter charges r charges' =
    (weights shares : List ℕ) × Bills (λ _. by_remainders) book customers letter
    (replicate 3 0) (replicate 3 0) charges r weights shares charges'

-- Customers are entered, cost lines posted, pools billed, in turn.
abbrev pub EntersAll : ℕ → List Figures → List Customer → Answer → List Customer → Type 0
EntersAll places = InTurn (λ figures customers. Enters places customers figures)

abbrev pub PostsAll : ℕ → List (ℕ × Posting × ℕ) → Open × List CostLine → Answer → Open × List CostLine → Type 0
PostsAll places = InTurn (λ line. PostsRanged places line.0 line.1 line.2)

abbrev pub BillsAll : Closed → List Customer → List ℕ → List ℤ → Answer → List ℤ → Type 0
BillsAll book customers = InTurn (BillsOn book customers)
