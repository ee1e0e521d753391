-- What a billed page brings to its listing.
use Rattle.std.specs.Prelude.{◌≡◌, ◌≤◌, true, List, [], ◌∷◌, length, is_some, Ok}
use Rattle.std.specs.List.{All}
use Rattle.register.specs.Records.{lookup, InOrder}
use Rattle.book.specs.Customers.{key}
use Rattle.lines.specs.Lines.{header, customer}
use Rattle.page.specs.Pages.{Reading, Closed}
use Rattle.printing.specs.Listings.{numbers}

-- No customer's line stands after a line of another kind.
abbrev pub CustomersFirst : List Reading → Type 0
CustomersFirst [] = Unit {0}
CustomersFirst (Ok (customer name f) ∷ rs) = CustomersFirst rs
CustomersFirst (_ ∷ rs) = numbers rs ≡ []

-- A header, and then the customers' lines before all others.
abbrev pub Headed : List Reading → Type 0
Headed (Ok (header t h) ∷ rs) = CustomersFirst rs
Headed _ = ⊥

-- The customers of all its lines stand, in rising order, and are not too many.
pub record Listable {D : Type 0} (rs : List Reading) (c : Closed D) : Type 0 where
  pub headed : Headed rs
  pub stand : All (λ n. is_some (lookup key n c.customers) ≡ true) (numbers rs)
  pub few : length (numbers rs) ≤ 512
  pub ordered : InOrder key c.customers
  pub count : length c.customers ≤ 512
