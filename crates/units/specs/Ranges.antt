-- The one table of the forms of lines: what stands in each field, and the range of each figure.
use Rattle.std.specs.Prelude.{ℕ, ◌+◌, ◌-◌, ◌≤◌, Bool, true, false, cond, ◌&&◌, List, [], ◌∷◌, length, nat_le, nat_lt, slice_index_or}
use Rattle.units.specs.declared.ranges.Letter.{Letter}
use Rattle.units.specs.declared.ranges.Letter.TheVariants.{Header, Customer, Expense, Credit, Shift, Grant, Transfer}
use Rattle.units.specs.declared.ranges.Measure.TheVariants.{Plain, Thousandths, Cents}
use Rattle.units.specs.declared.ranges.Kind.{Kind}
use Rattle.units.specs.declared.ranges.Kind.TheVariants.{Figure, Name, Pool, OtherPool}
use Rattle.units.specs.declared.ranges.Refusal.{Refusal}
use Rattle.units.specs.declared.ranges.Refusal.TheVariants.{OutOfRange}

-- The number of each refusal.
abbrev pub number : Refusal → ℕ
number OutOfRange = 6

-- The figures of lines, each with what it counts, its lowest and its highest: a record's number,
-- the loads of a header, those of a customer, any other load, and a cost amount.
abbrev pub number_figure : Kind
number_figure = Figure Plain 1 9999

abbrev pub total_figure : Kind
total_figure = Figure Thousandths 1 20000000

abbrev pub capability_figure : Kind
capability_figure = Figure Thousandths 0 20000000

abbrev pub measured_figure : Kind
measured_figure = Figure Thousandths 0 2000000

abbrev pub founding_figure : Kind
founding_figure = Figure Thousandths 0 2000000

abbrev pub conservation_figure : Kind
conservation_figure = Figure Thousandths 0 500000

abbrev pub retail_figure : Kind
retail_figure = Figure Thousandths 0 2000000

abbrev pub large_figure : Kind
large_figure = Figure Thousandths 0 2000000

abbrev pub resources_figure : Kind
resources_figure = Figure Thousandths 0 2000000

abbrev pub elected_figure : Kind
elected_figure = Figure Thousandths 0 30000

abbrev pub slice_figure : Kind
slice_figure = Figure Thousandths 0 2000000

abbrev pub load_figure : Kind
load_figure = Figure Thousandths 0 20050000

abbrev pub cents_figure : Kind
cents_figure = Figure Cents 1 100000000000

-- What stands in the fields after each letter, in their order.
abbrev pub form : Letter → List Kind
form Header = total_figure ∷ capability_figure ∷ []
form Customer =
    number_figure
    ∷ Name
    ∷ measured_figure
    ∷ founding_figure
    ∷ conservation_figure
    ∷ retail_figure
    ∷ large_figure
    ∷ resources_figure
    ∷ elected_figure
    ∷ slice_figure
    ∷ []
form Expense = number_figure ∷ Pool ∷ cents_figure ∷ []
form Credit = number_figure ∷ Pool ∷ cents_figure ∷ []
form Shift = number_figure ∷ Pool ∷ OtherPool ∷ cents_figure ∷ []
form Grant = number_figure ∷ load_figure ∷ []
form Transfer = number_figure ∷ number_figure ∷ load_figure ∷ []

-- How many fields a line has, its letter among them.
abbrev pub count : Letter → ℕ
count l = length (form l) + 1

-- What stands in a field; the letter is field 1. The letter, and a field that there is not, are no figures.
abbrev pub kind : Letter → ℕ → Kind
kind l field = cond (nat_lt field 2) Name (slice_index_or (form l) (field - 2) Name)

-- Whether a figure stands in a field.
abbrev pub is_figure : Kind → Bool
is_figure (Figure m low high) = true
is_figure Name = false
is_figure Pool = false
is_figure OtherPool = false

-- The lowest and the highest of a figure. Nothing lies from 1 to 0, the range of what is no figure.
abbrev pub span : Kind → ℕ × ℕ
span (Figure m low high) = (low, high)
span Name = (1, 0)
span Pool = (1, 0)
span OtherPool = (1, 0)

-- A figure lies between the lowest and the highest.
abbrev pub Within : Kind → ℕ → Type 0
Within κ figure = ((span κ).0 ≤ figure) × (figure ≤ (span κ).1)

-- The same, as a test.
abbrev pub admits : Kind → ℕ → Bool
admits κ figure = nat_le (span κ).0 figure && nat_le figure (span κ).1

-- Both by letter and field.
abbrev pub range : Letter → ℕ → ℕ × ℕ
range l field = span (kind l field)

abbrev pub in_range : Letter → ℕ → ℕ → Bool
in_range l field figure = admits (kind l field) figure
