-- The figures of customers that are added up, or divided by.
use Rattle.std.specs.Prelude.{ℕ, List}
use Rattle.std.specs.List.{AllZip}
use Rattle.records.specs.declared.customer.Customer.{Customer}

-- What holds of the numbers that the customers weigh, where `of` says what each may weigh.
abbrev pub Weighed : (Customer → ℕ → Type 0) → List Customer → (List ℕ → Type 0) → Type 0
Weighed of customers P = (by : List ℕ) × AllZip of customers by × P by
