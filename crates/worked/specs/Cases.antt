-- The worked cases, as one table.
use Rattle.std.specs.Prelude.{◌≡◌, ℕ, ◌-◌, false, List, [], ◌∷◌, map, length, ℤ, pos, neg_ℤ, Some, None, Ok, Err, Option, Result}
use Rattle.std.specs.List.{AllByRecursion}
use Rattle.divider.specs.declared.refusal.Refusal as divider
use Rattle.divider.specs.declared.refusal.Refusal.TheVariants.{NoWeight, TooLarge}
use Rattle.divider.specs.Questions.{asked}
use Rattle.largest.specs.Largest.{by_remainders}
use Rattle.sharing.specs.declared.rule.Rule.{Rule}
use Rattle.sharing.specs.declared.rule.Rule.TheVariants.{Largest, Running}
use Rattle.sharing.specs.Table.{by_rule}
use Rattle.records.specs.declared.customer.Customer.{Customer}
use Rattle.records.specs.Figures.{founding_weight}
use Rattle.book.specs.declared.refusal.Refusal as book
use Rattle.book.specs.declared.refusal.Refusal.TheVariants.{OverMark, NoReceiver}
use Rattle.book.specs.Customers.{customer, entered, founded_by}
use Rattle.book.specs.Marks.{remarked, lift_asks, land_asks, landed}
use Rattle.book.specs.Rates.{charges_of}

-- Alder, Birch and Cedar as they are entered.
abbrev pub entered_three : List Customer
entered_three =
    entered (record { number = 1; measured = 50; founding = 0; conservation = 0; retail = 60; large = 0; resources = 0; elected = 5; slice = 0 })
    ∷ entered (record { number = 2; measured = 30; founding = 0; conservation = 0; retail = 20; large = 0; resources = 0; elected = 0; slice = 0 })
    ∷ entered (record { number = 3; measured = 20; founding = 0; conservation = 0; retail = 40; large = 10; resources = 0; elected = 50; slice = 10 })
    ∷ []

-- Founded with a total of 101, by largest remainder.
abbrev pub book_of_three : List Customer
book_of_three = founded_by (by_remainders 101 (map founding_weight entered_three)) entered_three

-- The book of three with a load of a giver on the way.
abbrev pub lifted : ℕ → ℕ → List Customer
lifted giver load =
    remarked book_of_three (customer book_of_three giver) ((customer book_of_three giver).mark - load) load

pub data Case : Type 0 where
  -- a total, divided by weights by a rule, gives shares or a refusal
  division : Rule → (total : ℕ) (weights : List ℕ) → Result (List ℕ) divider.Refusal → Case
  -- a lift in the book of three is refused or not
  lift : (giver load : ℕ) → Option book.Refusal → Case
  -- a load lifted there and landed is refused or not, and leaves marks
  landing : (giver load receiver : ℕ) → Option book.Refusal → (marks : List ℕ) → Case
  -- a cost, divided by weights by largest remainder, gives charges
  charge : (cost : ℤ) (weights : List ℕ) (charges : List ℤ) → Case

abbrev pub cases : List Case
cases =
    division Largest 101 (50 ∷ 30 ∷ 20 ∷ []) (Ok (51 ∷ 30 ∷ 20 ∷ []))
    ∷ division Running 101 (50 ∷ 30 ∷ 20 ∷ []) (Ok (50 ∷ 30 ∷ 21 ∷ []))
    ∷ division Largest 101 (0 ∷ 0 ∷ []) (Err NoWeight)
    ∷ division Running 101 (0 ∷ 0 ∷ []) (Err NoWeight)
    ∷ division Largest 97 (51 ∷ 30 ∷ 20 ∷ []) (Ok (49 ∷ 29 ∷ 19 ∷ []))
    ∷ division Largest 20 (49 ∷ 20 ∷ 9 ∷ []) (Ok (13 ∷ 5 ∷ 2 ∷ []))
    ∷ division Largest 10 (1 ∷ 1 ∷ 1 ∷ 1 ∷ []) (Ok (3 ∷ 3 ∷ 2 ∷ 2 ∷ []))
    ∷ division Running 1 (3 ∷ 2 ∷ []) (Ok (0 ∷ 1 ∷ []))
    ∷ division Largest 9223372036854775807 (1 ∷ 1 ∷ []) (Err TooLarge)
    ∷ charge (neg_ℤ (pos 20)) (49 ∷ 20 ∷ 9 ∷ []) (neg_ℤ (pos 13) ∷ neg_ℤ (pos 5) ∷ neg_ℤ (pos 2) ∷ [])
    ∷ lift 2 30 None
    ∷ lift 2 31 (Some OverMark)
    ∷ landing 1 5 2 None (46 ∷ 35 ∷ 20 ∷ [])
    ∷ landing 1 5 7 (Some NoReceiver) (51 ∷ 30 ∷ 20 ∷ [])
    ∷ []

-- What a division gives: the shares, unless a question fails.
abbrev pub answered : Option divider.Refusal → List ℕ → Result (List ℕ) divider.Refusal
answered None shares = Ok shares
answered (Some e) shares = Err e

abbrev pub Holds : Case → Type 0
Holds (division rule total weights answer) =
    answered (asked total weights (length weights)) (by_rule rule total weights) ≡ answer
Holds (lift giver load refusal) = lift_asks book_of_three giver load ≡ refusal
Holds (landing giver load receiver refusal marks) =
    (land_asks (lifted giver load) (record { giver = giver; spent = false }) receiver ≡ refusal)
    × (map (λ c. c.mark) (landed (lifted giver load) (record { giver = giver; spent = false }) receiver refusal) ≡ marks)
Holds (charge cost weights charges) = charges_of by_remainders cost weights ≡ charges

abbrev pub AllHold : Type 0
AllHold = AllByRecursion Holds cases
