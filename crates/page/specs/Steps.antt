-- The steps of a page: its bytes without the last, its lines one by one, and what each does.
-- What a page comes to is said in Pages, without these.
use Rattle.std.specs.Prelude.{◌≡◌, ℕ, ◌-◌, ◌<◌, ◌≤◌, Bool, true, false, List, map, length, take, Ok, Err, Result}
use Rattle.std.specs.Borrow.{Bor}
use Rattle.records.specs.declared.customer.Customer.{Customer}
use Rattle.records.specs.declared.cost_line.CostLine.{CostLine}
use Rattle.book.specs.declared.refusal.Refusal as book
use Rattle.book.specs.declared.stages.OpenBook.{OpenBook}
use Rattle.book.specs.Customers.{Enters}
use Rattle.rows.specs.Rows.{parts_after}
use Rattle.lines.specs.Lines.{header, customer, line_of}
use Rattle.page.specs.declared.fault.Cause.{Cause}
use Rattle.page.specs.declared.fault.Cause.TheVariants.{Page, Line, Book}
use Rattle.page.specs.declared.fault.Fault.{Fault}
use Rattle.page.specs.declared.fault.Refusal.{Refusal}
use Rattle.page.specs.declared.remaining.Lines.{Lines}
use Rattle.page.specs.declared.fault.Refusal.TheVariants.{TooLong, Unended, HeaderPlace, LateCustomer}
use Rattle.page.specs.Pages.{Reading, Taken, Open, Acts, is_ended}

-- A page without its last byte, or why it is refused.
abbrev pub Bodies : List ℕ → Result (Bor (List ℕ)) Refusal → Type 0
Bodies page (Ok body) = (length page ≤ 65536) × (is_ended page ≡ true) × (body.now ≡ take (length page - 1) page)
Bodies page (Err TooLong) = 65536 < length page
Bodies page (Err Unended) = (length page ≤ 65536) × (is_ended page ≡ false)
Bodies page (Err _) = ⊥

-- What lines that are left read as.
abbrev pub readings : Lines → List Reading
readings lines = map line_of (parts_after 10 lines.rest)

-- The answer of a call of the book, as a line gives it.
abbrev pub Answered : {X : Type 0} → (Result (Unit {0}) book.Refusal → Type 0) → X → Result X Cause → Type 0
Answered P x (Ok y) = (y ≡ x) × P (Ok tt)
Answered P x (Err (Book e)) = P (Err e)
Answered P x (Err _) = ⊥

-- What a line does while customers are taken in, by what it reads as: whether it enters one.
abbrev pub LineEnters : ℕ → List Customer → Reading → Result Bool Cause → List Customer → Type 0
LineEnters places cs (Err f) r cs' = (r ≡ Err (Line f)) × (cs' ≡ cs)
LineEnters places cs (Ok (header t c)) r cs' = (r ≡ Err (Page HeaderPlace)) × (cs' ≡ cs)
LineEnters places cs (Ok (customer name f)) r cs' = Answered (λ a. Enters places cs f a cs') true r
LineEnters places cs (Ok _) r cs' = (r ≡ Ok false) × (cs' ≡ cs)

-- The outcome of lines that take customers in.
abbrev pub taken : Result Lines Fault → List Customer → Result Taken Fault
taken (Ok lines) cs = Ok (record { customers = cs; number = lines.number; rest = readings lines })
taken (Err f) cs = Err f

module _ {D : Type 0} where
  -- What a line does, by what it reads as; a line that is not read, or that stands in the wrong place, does nothing.
  pub record Nothing (cause : Cause) (r : Result (Unit {0}) Cause) (b b' : OpenBook D) (cs cs' : List Customer) (ls ls' : List CostLine) : Type 0 where
    pub answer : r ≡ Err cause
    pub book : b' ≡ b
    pub customers : cs' ≡ cs
    pub lines : ls' ≡ ls

  abbrev pub LineActs : ℕ → OpenBook D → List Customer → List CostLine → Reading → Result (Unit {0}) Cause → OpenBook D → List Customer → List CostLine → Type 0
  LineActs places b cs ls (Err f) r b' cs' ls' = Nothing (Line f) r b b' cs cs' ls ls'
  LineActs places b cs ls (Ok (header t c)) r b' cs' ls' = Nothing (Page HeaderPlace) r b b' cs cs' ls ls'
  LineActs places b cs ls (Ok (customer name f)) r b' cs' ls' = Nothing (Page LateCustomer) r b b' cs cs' ls ls'
  LineActs places b cs ls (Ok c) r b' cs' ls' = Answered (λ a. Acts places b cs ls c a b' cs' ls') tt r

  -- The outcome of lines that act: where they leave the book, or the fault.
  abbrev pub outcome : Result ℕ Fault → OpenBook D → List Customer → List CostLine → Result (Open D) Fault
  outcome (Ok n) b cs ls = Ok (record { book = b; customers = cs; lines = ls })
  outcome (Err f) b cs ls = Err f
