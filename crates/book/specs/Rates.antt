-- Founding, closing and billing: what is divided, by which weights, and where it goes.
use Rattle.std.specs.Prelude.{◌≡◌, ℕ, ◌+◌, ◌*◌, Bool, cond, not, ◌&&◌, ◌||◌, List, [], ◌∷◌, ◌++◌, map, length, take, drop, replicate, ℤ, pos, negsuc, neg_ℤ, is_some, is_none, Some, None, Ok, Err, sum_by, sum, Option, Result, ◌==◌, nat_le, nat_lt}
use Rattle.std.specs.Option.{unwrap_or}
use Rattle.std.specs.List.{splice}
use Rattle.divider.specs.Questions.{limit}
use Rattle.records.specs.declared.customer.Customer.{Customer}
use Rattle.records.specs.declared.pool.Pool.{Pool}
use Rattle.records.specs.declared.pool.Pool.TheVariants.{Composite}
use Rattle.records.specs.Figures.{founding_weight, pool_weight}
use Rattle.records.specs.Pools.{pool_of, order}
use Rattle.book.specs.declared.refusal.Refusal.{Refusal}
use Rattle.book.specs.declared.refusal.Refusal.TheVariants.{ShortSheet, NoFoundingWeight, Spoiled, OnTheWay, UnknownLetter, NoWeight}
use Rattle.book.specs.declared.stages.Intake.{Intake}
use Rattle.book.specs.declared.stages.OpenBook.{OpenBook}
use Rattle.book.specs.declared.stages.ClosedBook.{ClosedBook}
use Rattle.book.specs.Answers.{first, told}
use Rattle.book.specs.Books.{opened, closed}
use Rattle.book.specs.Customers.{founded_by, rated_by}
use Rattle.book.specs.Sides.{cost}

-- A divider by its meaning: the shares of a total by weights.
abbrev pub Meaning : Type 0
Meaning = ℕ → List ℕ → List ℕ

-- A sheet with these numbers in its first places, and what it held in all others.
abbrev pub on_top : List ℕ → List ℕ → List ℕ
on_top numbers sheet = numbers ++ drop (length numbers) sheet

-- Whether the sheets have a place for each of n customers.
abbrev pub wide : ℕ → List ℕ → List ℕ → Bool
wide n weights shares = nat_le n (length weights) && nat_le n (length shares)

-- Whether a total can be divided by weights of such a sum.
abbrev pub divisible : ℕ → ℕ → Bool
divisible total all = nat_le all limit && nat_le (total * all) limit

-- The sheets once a total was divided by weights; as they were where it was not.
pub record Sheets (m : Meaning) (total : ℕ) (by : List ℕ) (done : Bool) (weights shares weights' shares' : List ℕ) : Type 0 where
  pub weighed : weights' ≡ cond done (on_top by weights) weights
  pub shared : shares' ≡ cond done (on_top (m total by) shares) shares

-- A refused founding or close hands the book back.
abbrev pub staged : {A B : Type 0} → A → B → Option Refusal → Result B (A × Refusal)
staged a b None = Ok b
staged a b (Some e) = Err (a, e)

abbrev pub passes : Option Refusal → Bool
passes o = is_none o

module _ {D : Type 0} (m : D → Meaning) where
  abbrev pub found_asks : Intake D → List Customer → List ℕ → List ℕ → Option Refusal
  found_asks b customers weights shares =
      first (
      (wide (length customers) weights shares, ShortSheet)
      ∷ (nat_lt 0 (sum_by founding_weight customers), NoFoundingWeight)
      ∷ (divisible b.header.founding_total (sum_by founding_weight customers), Spoiled)
      ∷ []
      )

  -- Founding divides the founding total by founding weights, and writes the marks.
  pub record Founds (b : Intake D) (customers : List Customer) (weights shares : List ℕ) (r : Result (OpenBook D) (Intake D × Refusal)) (customers' : List Customer) (weights' shares' : List ℕ) : Type 0 where
    pub answer : r ≡ staged b (opened b) (found_asks b customers weights shares)
    pub after : customers' ≡ cond (passes (found_asks b customers weights shares)) (founded_by (m b.divider b.header.founding_total (map founding_weight customers)) customers) customers
    pub sheets : Sheets (m b.divider) b.header.founding_total (map founding_weight customers) (passes (found_asks b customers weights shares)) weights shares weights' shares'

  abbrev pub close_asks : OpenBook D → List Customer → List ℕ → List ℕ → Option Refusal
  close_asks b customers weights shares =
      first (
      (wide (length customers) weights shares, ShortSheet)
      ∷ ((sum_by (λ c. c.transit) customers == 0), OnTheWay)
      ∷ (nat_lt 0 (sum_by (λ c. c.mark) customers) && divisible b.header.capability (sum_by (λ c. c.mark) customers), Spoiled)
      ∷ []
      )

  -- Closing divides the capability by marks, and writes the RHWMs.
  pub record Closes (b : OpenBook D) (customers : List Customer) (weights shares : List ℕ) (r : Result (ClosedBook D) (OpenBook D × Refusal)) (customers' : List Customer) (weights' shares' : List ℕ) : Type 0 where
    pub answer : r ≡ staged b (closed b) (close_asks b customers weights shares)
    pub after : customers' ≡ cond (passes (close_asks b customers weights shares)) (rated_by (m b.divider b.header.capability (map (λ c. c.mark) customers)) customers) customers
    pub sheets : Sheets (m b.divider) b.header.capability (map (λ c. c.mark) customers) (passes (close_asks b customers weights shares)) weights shares weights' shares'

-- The size of a signed number, and a size with the sign of another.
abbrev pub size : ℤ → ℕ
size (pos n) = n
size (negsuc n) = n + 1

abbrev pub like : ℤ → ℕ → ℤ
like (pos _) n = pos n
like (negsuc _) n = neg_ℤ (pos n)

-- n places of a sheet from a place on, and the sheet with others there.
abbrev pub part : {A : Type 0} → List A → ℕ → ℕ → List A
part sheet from n = take n (drop from sheet)

abbrev pub written : {A : Type 0} → List A → ℕ → List A → List A
written sheet from values = splice sheet from (from + length values) values

-- The pool that a letter names, where it names one.
abbrev pub pool_in : ℕ → Pool
pool_in letter = unwrap_or (pool_of letter) Composite

-- Whether a cost is 0.
abbrev pub no_cost : ℤ → Bool
no_cost z = size z == 0

-- The charges of a cost by weights.
abbrev pub charges_of : Meaning → ℤ → List ℕ → List ℤ
charges_of m z by = cond (no_cost z) (replicate (length by) (pos 0)) (map (like z) (m (size z) by))

module _ {D : Type 0} (m : D → Meaning) where
  abbrev pub cost_in : ClosedBook D → ℕ → ℤ
  cost_in b letter = cost b.costs b.credits (pool_in letter)

  abbrev pub weights_in : List Customer → ℕ → List ℕ
  weights_in customers letter = map (pool_weight (pool_in letter)) customers

  abbrev pub bill_asks : ClosedBook D → List Customer → ℕ → List ℕ → List ℕ → List ℤ → Option Refusal
  bill_asks b customers letter weights shares charges =
      first (
      (is_some (pool_of letter), UnknownLetter)
      ∷ (wide (length customers) weights shares && nat_le (4 * length customers) (length charges), ShortSheet)
      ∷ (no_cost (cost_in b letter) || nat_lt 0 (sum (weights_in customers letter)), NoWeight)
      ∷ (no_cost (cost_in b letter) || divisible (size (cost_in b letter)) (sum (weights_in customers letter)), Spoiled)
      ∷ []
      )

  -- A bill divides a pool's cost by the pool's weights, and writes its part of the charges.
  pub record Bills (b : ClosedBook D) (customers : List Customer) (letter : ℕ) (weights shares : List ℕ) (charges : List ℤ) (r : Result (Unit {0}) Refusal) (weights' shares' : List ℕ) (charges' : List ℤ) : Type 0 where
    pub answer : r ≡ told tt (bill_asks b customers letter weights shares charges)
    pub sheets : Sheets (m b.divider) (size (cost_in b letter)) (weights_in customers letter) (passes (bill_asks b customers letter weights shares charges) && not (no_cost (cost_in b letter))) weights shares weights' shares'
    pub after : charges' ≡ cond (passes (bill_asks b customers letter weights shares charges)) (written charges (order (pool_in letter) * length customers) (charges_of (m b.divider) (cost_in b letter) (weights_in customers letter))) charges
