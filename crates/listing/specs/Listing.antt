-- The rows of a listing.
use Rattle.std.specs.Prelude.{◌≡◌, ℕ, ◌+◌, ◌*◌, ◌≤◌, cond, List, [], ◌∷◌, ◌++◌, length, get_or, drop, ℤ, pos, is_some, is_ok, decimal, sum_by, Ok, Err, Result, nat_le}
use Rattle.std.specs.Fmt.{signed_decimal}
use Rattle.register.specs.Records.{lookup, place_of}
use Rattle.records.specs.declared.customer.Customer.{Customer}
use Rattle.records.specs.declared.pool.Pool.{Pool}
use Rattle.records.specs.declared.pool.Pool.TheVariants.{Composite, NonSlice, Slice, Tier2}
use Rattle.records.specs.Figures.{above_rhwm}
use Rattle.records.specs.Pools.{order}
use Rattle.book.specs.Customers.{key, nobody}
use Rattle.book.specs.Sides.{cost}
use Rattle.book.specs.declared.sides.Sides.{Sides}
use Rattle.lines.specs.Questions.{a_name}
use Rattle.rows.specs.Rows.{joined}
use Rattle.listing.specs.declared.refusal.Refusal.{Refusal}
use Rattle.listing.specs.declared.refusal.Refusal.TheVariants.{Missing, ShortSheet, NotAName, NoRoom}
use Rattle.listing.specs.declared.rows_of.TheConstants.{ROW}
use Rattle.listing.specs.Answers.{told}

-- Fields with commas between them, and the end byte.
abbrev pub ended : List (List ℕ) → List ℕ
ended fs = joined fs ++ (10 ∷ [])

-- The charge in a pool of the customer at a place, of n customers.
abbrev pub charge_at : List ℤ → ℕ → ℕ → Pool → ℤ
charge_at charges n k p = get_or charges (order p * n + k) (pos 0)

-- The row of the customer at a place: number, name, mark, RHWM, Above-RHWM load, charges in C, N, S, T.
abbrev pub row_at : List Customer → List ℤ → ℕ → List ℕ → List ℕ
row_at cs charges k name =
    ended (
    decimal (get_or cs k nobody).number
    ∷ name
    ∷ decimal (get_or cs k nobody).mark
    ∷ decimal (get_or cs k nobody).rhwm
    ∷ decimal (above_rhwm (get_or cs k nobody))
    ∷ signed_decimal (charge_at charges (length cs) k Composite)
    ∷ signed_decimal (charge_at charges (length cs) k NonSlice)
    ∷ signed_decimal (charge_at charges (length cs) k Slice)
    ∷ signed_decimal (charge_at charges (length cs) k Tier2)
    ∷ []
    )

-- The row of the customer of a number.
abbrev pub customer_row : List Customer → List ℤ → ℕ → List ℕ → List ℕ
customer_row cs charges n name = row_at cs charges (place_of key n cs) name

-- The sums of marks, RHWMs and Above-RHWM loads, and the pools' costs.
abbrev pub sum_row : Sides → Sides → List Customer → List ℕ
sum_row costs credits cs =
    ended (
    decimal 0
    ∷ (83 ∷ 85 ∷ 77 ∷ [])
    ∷ decimal (sum_by (λ c. c.mark) cs)
    ∷ decimal (sum_by (λ c. c.rhwm) cs)
    ∷ decimal (sum_by above_rhwm cs)
    ∷ signed_decimal (cost costs credits Composite)
    ∷ signed_decimal (cost costs credits NonSlice)
    ∷ signed_decimal (cost costs credits Slice)
    ∷ signed_decimal (cost costs credits Tier2)
    ∷ []
    )

-- No row that is written has more bytes: 225.
abbrev pub longest : ℕ
longest = ROW

-- A row that is written, or that wants nothing but room, is no longer.
abbrev pub Short : List ℕ → Result ℕ Refusal → Type 0
Short row (Ok n) = length row ≤ longest
Short row (Err Missing) = Unit {0}
Short row (Err ShortSheet) = Unit {0}
Short row (Err NotAName) = Unit {0}
Short row (Err NoRoom) = length row ≤ longest

-- A row is written at the front of a buffer; a refusal leaves it as it was.
pub record Lists (row : List ℕ) (answer_is : Result ℕ Refusal) (buffer : List ℕ) (r : Result ℕ Refusal) (buffer' : List ℕ) : Type 0 where
  pub answer : r ≡ answer_is
  pub after : buffer' ≡ cond (is_ok r) (row ++ drop (length row) buffer) buffer

abbrev pub ListsCustomer : List Customer → List ℤ → ℕ → List ℕ → List ℕ → Result ℕ Refusal → List ℕ → Type 0
ListsCustomer cs charges n name buffer r buffer' =
    Lists (customer_row cs charges n name) (told (length (customer_row cs charges n name)) (
    (is_some (lookup key n cs), Missing)
    ∷ (nat_le (4 * length cs) (length charges), ShortSheet)
    ∷ (a_name name, NotAName)
    ∷ (nat_le (length (customer_row cs charges n name)) (length buffer), NoRoom)
    ∷ []
    )) buffer r buffer'

abbrev pub ListsSums : Sides → Sides → List Customer → List ℕ → Result ℕ Refusal → List ℕ → Type 0
ListsSums costs credits cs buffer r buffer' =
    Lists (sum_row costs credits cs) (told (length (sum_row costs credits cs)) ((nat_le (length (sum_row costs credits cs)) (length buffer), NoRoom) ∷ [])) buffer r buffer'
