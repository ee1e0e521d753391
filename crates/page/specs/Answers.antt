-- Faults of a page by their layers, fields and numbers.
use Rattle.std.specs.Prelude.{ℕ, List, [], ◌∷◌, length, codes, decimal, Result, nat_le}
use Rattle.lines.specs.Answers as lines
use Rattle.book.specs.Answers as book
use Rattle.listing.specs.Answers as listing
use Rattle.listing.specs.Listing.{ended, Lists}
use Rattle.listing.specs.declared.refusal.Refusal as listed
use Rattle.listing.specs.declared.refusal.Refusal.TheVariants.{NoRoom}
use Rattle.page.specs.declared.fault.Cause.{Cause}
use Rattle.page.specs.declared.fault.Cause.TheVariants.{Page, Line, Book}
use Rattle.page.specs.declared.fault.Fault.{Fault}
use Rattle.page.specs.declared.fault.Refusal.{Refusal}
use Rattle.page.specs.declared.fault.Refusal.TheVariants.{TooLong, Unended, HeaderPlace, LateCustomer}

-- The number of each refusal.
abbrev pub page_number : Refusal → ℕ
page_number TooLong = 1
page_number Unended = 2
page_number HeaderPlace = 10
page_number LateCustomer = 11

abbrev pub number : Cause → ℕ
number (Page e) = page_number e
number (Line f) = lines.number f.refusal
number (Book e) = book.number e

-- The field that a fault names.
abbrev pub page_field : Refusal → ℕ
page_field TooLong = 0
page_field Unended = 0
page_field HeaderPlace = 1
page_field LateCustomer = 1

abbrev pub field : Cause → ℕ
field (Page e) = page_field e
field (Line f) = f.field
field (Book e) = 0

-- The name of the layer.
abbrev pub layer : Cause → List ℕ
layer (Page e) = codes "page"
layer (Line f) = codes "line"
layer (Book e) = codes "book"

-- The row of a fault.
abbrev pub fault_row : Fault → List ℕ
fault_row f =
    ended (
    codes "F"
    ∷ layer f.cause
    ∷ decimal f.line
    ∷ decimal (field f.cause)
    ∷ decimal (number f.cause)
    ∷ []
    )

abbrev pub Tells : Fault → List ℕ → Result ℕ listed.Refusal → List ℕ → Type 0
Tells f buffer r buffer' =
    Lists (fault_row f) (listing.told (length (fault_row f)) ((nat_le (length (fault_row f)) (length buffer), NoRoom) ∷ [])) buffer r buffer'
