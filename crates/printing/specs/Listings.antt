-- What is printed for a page: the listing of its book, or the row of its fault.
use Rattle.std.specs.Prelude.{◌≡◌, ℕ, ◌+◌, List, [], ◌∷◌, ◌++◌, map, length, get_or, drop, ℤ, pos, ◌+ℤ◌, ◌-ℤ◌, Some, None, Ok, Err, sum_by, Option, Result}
use Rattle.std.specs.List.Sorted.{IsPermutation}
use Rattle.register.specs.Records.{place_of}
use Rattle.records.specs.declared.customer.Customer.{Customer}
use Rattle.records.specs.declared.pool.Pool.{Pool}
use Rattle.records.specs.declared.pool.Pool.TheVariants.{Composite, NonSlice, Slice, Tier2}
use Rattle.records.specs.Figures.{above_rhwm}
use Rattle.book.specs.Customers.{key, nobody}
use Rattle.book.specs.Rates.{Meaning}
use Rattle.book.specs.Sides.{cost as pool_cost}
use Rattle.lines.specs.Lines.{customer, line_of}
use Rattle.listing.specs.Listing.{charge_at, customer_row, sum_row}
use Rattle.runs.specs.History.{cost_by, expenses, credits}
use Rattle.runs.specs.Runs.{sumℤ}
use Rattle.page.specs.declared.fault.Fault.{Fault}
use Rattle.page.specs.Answers.{fault_row}
use Rattle.page.specs.Pages.{Reading, Closed, page_lines, ComesTo, OnlyOutcome}
use Rattle.page.specs.Sums.{founding_total, capability, grant_in, cost_lines}
use Rattle.printing.specs.declared.printed.Printed.{Printed}

-- The numbers of a page's customers, in the order of the page.
abbrev pub numbers : List Reading → List ℕ
numbers [] = []
numbers (Ok (customer name f) ∷ rs) = f.number ∷ numbers rs
numbers (_ ∷ rs) = numbers rs

-- Their rows.
abbrev pub rows_of : List Customer → List ℤ → List Reading → List ℕ
rows_of cs charges [] = []
rows_of cs charges (Ok (customer name f) ∷ rs) = customer_row cs charges f.number name ++ rows_of cs charges rs
rows_of cs charges (_ ∷ rs) = rows_of cs charges rs

module _ {D : Type 0} where
  -- The listing: these rows, and the row of sums.
  abbrev pub listing : Closed D → List Reading → List ℕ
  listing c rs = rows_of c.customers c.charges rs ++ sum_row c.book.costs c.book.credits c.customers

  -- What is printed: the listing, or the row of the fault.
  abbrev pub text : List ℕ → Result (Closed D) Fault → List ℕ
  text page (Ok c) = listing c (map line_of (page_lines page))
  text page (Err f) = fault_row f

  abbrev pub fault_of : Result (Closed D) Fault → Option Fault
  fault_of (Ok c) = None
  fault_of (Err f) = Some f

  -- What stands in the row of a number.
  abbrev pub listed : Closed D → ℕ → Customer
  listed c n = get_or c.customers (place_of key n c.customers) nobody

  abbrev pub charged : Closed D → Pool → ℕ → ℤ
  charged c p n = charge_at c.charges (length c.customers) (place_of key n c.customers) p

  -- Its charges in all four pools together.
  abbrev pub all_charged : Closed D → ℕ → ℤ
  all_charged c n = charged c Composite n +ℤ charged c NonSlice n +ℤ charged c Slice n +ℤ charged c Tier2 n

  -- Each customer has one row; the marks of the rows add up to the founding total and the
  -- grants, the RHWMs to the capability, the Above-RHWM loads to those of all customers, and
  -- the charges in each pool to its cost, which is the one drawn from the page's cost lines. The
  -- charges of all rows add up to the expenses less the credits among these; a shift is neither.
  pub record ListsAll (rs : List Reading) (c : Closed D) : Type 0 where
    pub customers : IsPermutation (map key c.customers) (numbers rs)
    pub marks : sum_by (λ n. (listed c n).mark) (numbers rs) ≡ founding_total rs + sum_by grant_in rs
    pub rhwms : sum_by (λ n. (listed c n).rhwm) (numbers rs) ≡ capability rs
    pub above : sum_by (λ n. above_rhwm (listed c n)) (numbers rs) ≡ sum_by above_rhwm c.customers
    pub charges : (p : Pool) → sumℤ (map (charged c p) (numbers rs)) ≡ pool_cost c.book.costs c.book.credits p
    pub costs : (p : Pool) → pool_cost c.book.costs c.book.credits p ≡ cost_by (cost_lines rs) p
    pub together :
        sumℤ (map (all_charged c) (numbers rs)) ≡ pos (expenses (cost_lines rs)) -ℤ pos (credits (cost_lines rs))

  abbrev pub ListingAddsUp : List ℕ → Result (Closed D) Fault → Type 0
  ListingAddsUp page (Ok c) = ListsAll (map line_of (page_lines page)) c
  ListingAddsUp page (Err f) = Unit {0}

  -- What a page comes to is printed at the front of a buffer.
  pub record Prints (m : D → Meaning) (d : D) (page buffer : List ℕ) (r : Printed) (buffer' : List ℕ) : Type 0 where
    pub outcome : Result (Closed D) Fault
    pub comes : ComesTo m d page outcome
    pub only : OnlyOutcome m d page outcome
    pub adds_up : ListingAddsUp page outcome
    pub fault : r.fault ≡ fault_of outcome
    pub count : r.length ≡ length (text page outcome)
    pub after : buffer' ≡ text page outcome ++ drop (length (text page outcome)) buffer
