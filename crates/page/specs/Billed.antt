-- What a page's call answers.
use Rattle.std.specs.Prelude.{◌≡◌, ◌-◌, ◌≤◌, take, drop, replicate, Ok, Err, Result}
use Rattle.book.specs.Customers.{nobody}
use Rattle.page.specs.declared.fault.Fault.{Fault}
use Rattle.page.specs.declared.whole.Billed.{Billed}
use Rattle.page.specs.Pages.{Closed}

-- The book, the customers that stand, and the charges sheet.
abbrev pub closed_of : {D : Type 0} → Billed D → Closed D
closed_of b = record { book = b.book; customers = take b.standing b.customers; charges = b.charges }

abbrev pub closed_as : {D : Type 0} → Result (Billed D) Fault → Result (Closed D) Fault
closed_as (Ok b) = Ok (closed_of b)
closed_as (Err f) = Err f

-- The places past the customers that stand are blank.
abbrev pub RestBlank : {D : Type 0} → Result (Billed D) Fault → Type 0
RestBlank (Ok b) = (b.standing ≤ 512) × (drop b.standing b.customers ≡ replicate (512 - b.standing) nobody)
RestBlank (Err f) = Unit {0}
