-- Customers as they are entered, and what the book writes into their records.
use Rattle.std.specs.Prelude.{◌≡◌, ℕ, Bool, cond, not, ◌&&◌, List, [], ◌∷◌, length, is_some, is_ok, Option, Result, nat_lt}
use Rattle.std.specs.Option.{unwrap_or}
use Rattle.units.specs.Ranges.{admits, number_figure, measured_figure, founding_figure, conservation_figure, retail_figure, large_figure, resources_figure, elected_figure, slice_figure}
use Rattle.register.specs.Records.{lookup, added}
use Rattle.records.specs.declared.customer.Customer.{Customer}
use Rattle.book.specs.declared.figures.Figures.{Figures}
use Rattle.book.specs.declared.refusal.Refusal.{Refusal}
use Rattle.book.specs.declared.refusal.Refusal.TheVariants.{OutOfRange, Full, Taken}
use Rattle.book.specs.Answers.{first, told}

abbrev pub key : Customer → ℕ
key c = c.number

-- The record as it is entered: nothing kept by the book yet.
abbrev pub entered : Figures → Customer
entered f = record {
  number = f.number;
  measured = f.measured;
  founding = f.founding;
  conservation = f.conservation;
  retail = f.retail;
  large = f.large;
  resources = f.resources;
  elected = f.elected;
  slice = f.slice;
  mark = 0;
  transit = 0;
  rhwm = 0;
}

-- Whether every figure is in its range.
abbrev pub in_ranges : Figures → Bool
in_ranges f =
    admits number_figure f.number
    && admits measured_figure f.measured
    && admits founding_figure f.founding
    && admits conservation_figure f.conservation
    && admits retail_figure f.retail
    && admits large_figure f.large
    && admits resources_figure f.resources
    && admits elected_figure f.elected
    && admits slice_figure f.slice

-- The questions of enter, where the register has so many places.
abbrev pub enter_asks : ℕ → List Customer → Figures → Option Refusal
enter_asks places customers f =
    first (
    (in_ranges f, OutOfRange)
    ∷ (nat_lt (length customers) places, Full)
    ∷ (not (is_some (lookup key f.number customers)), Taken)
    ∷ []
    )

-- An entering adds a customer.
pub record Enters (places : ℕ) (customers : List Customer) (f : Figures) (r : Result (Unit {0}) Refusal) (customers' : List Customer) : Type 0 where
  pub answer : r ≡ told tt (enter_asks places customers f)
  pub after : customers' ≡ cond (is_ok r) (added key (entered f) customers) customers

-- A record that stands for none.
abbrev pub nobody : Customer
nobody = record { number = 0; measured = 0; founding = 0; conservation = 0; retail = 0; large = 0; resources = 0; elected = 0; slice = 0; mark = 0; transit = 0; rhwm = 0 }

-- The customer of a number, and whether one stands.
abbrev pub customer : List Customer → ℕ → Customer
customer customers n = unwrap_or (lookup key n customers) nobody

abbrev pub stands : List Customer → ℕ → Bool
stands customers n = is_some (lookup key n customers)

-- With another mark and load on the way.
abbrev pub marked : Customer → ℕ → ℕ → Customer
marked c mark transit = record c { mark = mark; transit = transit }

-- With another RHWM.
abbrev pub rated : Customer → ℕ → Customer
rated c rhwm = record c { rhwm = rhwm }

-- Each record with the share at its place written into it.
abbrev pub with_shares : (Customer → ℕ → Customer) → List ℕ → List Customer → List Customer
with_shares write shares [] = []
with_shares write [] (c ∷ cs) = c ∷ cs
with_shares write (s ∷ shares) (c ∷ cs) = write c s ∷ with_shares write shares cs

-- The share as its mark, and nothing on the way; or as its RHWM.
abbrev pub founded_by : List ℕ → List Customer → List Customer
founded_by shares customers = with_shares (λ c s. marked c s 0) shares customers

abbrev pub rated_by : List ℕ → List Customer → List Customer
rated_by shares customers = with_shares rated shares customers
