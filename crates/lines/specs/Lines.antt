-- Lines by their contents: how they are read, and how they are written.
use Rattle.std.specs.Prelude.{◌≡◌, ℕ, ◌-◌, Bool, true, cond, ◌&&◌, List, [], ◌∷◌, ◌++◌, length, take, drop, is_ok, Some, None, Ok, Err, decimal, Option, Result, ◌==◌, encode_utf8, nat_le, slice_index}
use Rattle.std.specs.Str.Parse.{digits_value}
use Rattle.units.specs.Ranges.{count, admits, number_figure, total_figure, capability_figure, load_figure, cents_figure}
use Rattle.units.specs.declared.ranges.Letter.{Letter}
use Rattle.units.specs.declared.ranges.Letter.TheVariants.{Header, Customer, Expense, Credit, Shift, Grant, Transfer}
use Rattle.book.specs.declared.figures.Figures.{Figures}
use Rattle.book.specs.declared.figures.Posting.{Posting}
use Rattle.book.specs.declared.figures.Posting.TheVariants as posting
use Rattle.book.specs.Customers.{in_ranges}
use Rattle.rows.specs.Rows.{parted, joined}
use Rattle.lines.specs.declared.fault.Fault.{Fault}
use Rattle.lines.specs.declared.fault.Refusal.TheVariants.{UnknownLetter, FieldCount, NoRoom}
use Rattle.lines.specs.declared.line.Line.{Line}
use Rattle.lines.specs.declared.line.Line.TheVariants as line
use Rattle.lines.specs.Answers.{told, or_else}
use Rattle.lines.specs.Letters.{field, byte_of, letter_of}
use Rattle.lines.specs.Questions.{first_fault}

-- What a line holds: loads and cents, customers by name and figures, pools by their letters.
pub data Contents : Type 0 where
  header : ℕ → ℕ → Contents
  customer : List ℕ → Figures → Contents
  cost : ℕ → Posting → ℕ → Contents
  grant : ℕ → ℕ → Contents
  transfer : ℕ → ℕ → ℕ → Contents

abbrev pub contents : Line → Contents
contents (line.Header total capability) = header total capability
contents (line.Customer name figures) = customer name.now figures
contents (line.Cost number p cents) = cost number p cents
contents (line.Grant number load) = grant number load
contents (line.Transfer giver receiver load) = transfer giver receiver load

abbrev pub cost_letter : Posting → Letter
cost_letter (posting.Expense p) = Expense
cost_letter (posting.Credit p) = Credit
cost_letter (posting.Shift p q) = Shift

abbrev pub letter : Contents → Letter
letter (header total capability) = Header
letter (customer name f) = Customer
letter (cost number p cents) = cost_letter p
letter (grant number load) = Grant
letter (transfer giver receiver load) = Transfer

-- The letters of the pools of a cost line.
abbrev pub pools : Posting → List (List ℕ) → List (List ℕ)
pools (posting.Expense p) rest = encode_utf8 p ∷ rest
pools (posting.Credit p) rest = encode_utf8 p ∷ rest
pools (posting.Shift p q) rest = encode_utf8 p ∷ encode_utf8 q ∷ rest

-- The fields after the letter.
abbrev pub held : Contents → List (List ℕ)
held (header total capability) = decimal total ∷ decimal capability ∷ []
held (customer name f) =
    decimal f.number ∷ name ∷ decimal f.measured ∷ decimal f.founding ∷ decimal f.conservation ∷ decimal f.retail ∷ decimal f.large ∷ decimal f.resources ∷ decimal f.elected ∷ decimal f.slice ∷ []
held (cost number p cents) = decimal number ∷ pools p (decimal cents ∷ [])
held (grant number load) = decimal number ∷ decimal load ∷ []
held (transfer giver receiver load) = decimal giver ∷ decimal receiver ∷ decimal load ∷ []

-- All fields of a line, and its bytes.
abbrev pub fields : Contents → List (List ℕ)
fields c = (byte_of (letter c) ∷ []) ∷ held c

abbrev pub written : Contents → List ℕ
written c = joined (fields c)

-- The contents of a field: its figure, and the letter in it.
abbrev pub figure : List ℕ → ℕ
figure f = digits_value 10 f

abbrev pub pool : List ℕ → ℕ
pool f = slice_index f 0

-- What the fields after a letter hold. It is asked only of as many fields as the letter's form has.
abbrev pub made : Letter → List (List ℕ) → Contents
made Header (total ∷ capability ∷ []) = header (figure total) (figure capability)
made Customer (number ∷ name ∷ measured ∷ founding ∷ conservation ∷ retail ∷ large ∷ resources ∷ elected ∷ slice ∷ []) =
    customer name (record {
      number = figure number;
      measured = figure measured;
      founding = figure founding;
      conservation = figure conservation;
      retail = figure retail;
      large = figure large;
      resources = figure resources;
      elected = figure elected;
      slice = figure slice;
    })
made Expense (number ∷ p ∷ cents ∷ []) = cost (figure number) (posting.Expense (pool p)) (figure cents)
made Credit (number ∷ p ∷ cents ∷ []) = cost (figure number) (posting.Credit (pool p)) (figure cents)
made Shift (number ∷ p ∷ q ∷ cents ∷ []) = cost (figure number) (posting.Shift (pool p) (pool q)) (figure cents)
made Grant (number ∷ load ∷ []) = grant (figure number) (figure load)
made Transfer (giver ∷ receiver ∷ load ∷ []) = transfer (figure giver) (figure receiver) (figure load)
made _ _ = header 0 0

-- The first fault in the fields after the letter.
abbrev pub faults : Letter → List (List ℕ) → Option Fault
faults l fs = first_fault l fs 2 (count l - 1)

-- What fields are read as under their letter: count, then field by field.
abbrev pub read_under : Option Letter → List (List ℕ) → Result Contents Fault
read_under None fs = Err (record { field = 0; refusal = UnknownLetter })
read_under (Some l) fs =
    cond (length fs == count l) (told (made l (drop 1 fs)) (faults l fs)) (Err (record { field = 0; refusal = FieldCount }))

abbrev pub read_fields : List (List ℕ) → Result Contents Fault
read_fields fs = read_under (letter_of (field fs 1)) fs

-- The line that some bytes are, or their fault.
abbrev pub line_of : List ℕ → Result Contents Fault
line_of bytes = read_fields (parted 44 bytes)

-- An answer of the reader, by the contents of its line.
abbrev pub answer_of : Result Line Fault → Result Contents Fault
answer_of (Ok l) = Ok (contents l)
answer_of (Err f) = Err f

-- The first fault of a line: in its fields, then of the room it is to be written to.
abbrev pub fault_in : Contents → Option Fault
fault_in c = faults (letter c) (fields c)

abbrev pub write_asks : Letter → List (List ℕ) → ℕ → Option Fault
write_asks l fs room =
    or_else (faults l fs) (cond (nat_le (length (joined fs)) room) None (Some (record { field = 0; refusal = NoRoom })))

-- Whether every figure of a line is in its range.
abbrev pub ranged : Contents → Bool
ranged (header total capability) = admits total_figure total && admits capability_figure capability
ranged (customer name f) = in_ranges f
ranged (cost number p cents) = admits number_figure number && admits cents_figure cents
ranged (grant number load) = admits number_figure number && admits load_figure load
ranged (transfer giver receiver load) = admits number_figure giver && admits number_figure receiver && admits load_figure load

-- A line is written at the front of a buffer, and is read there again.
pub record Writes (c : Contents) (buffer : List ℕ) (r : Result ℕ Fault) (buffer' : List ℕ) : Type 0 where
  pub answer : r ≡ told (length (written c)) (write_asks (letter c) (fields c) (length buffer))
  pub after : buffer' ≡ cond (is_ok r) (written c ++ drop (length (written c)) buffer) buffer
  pub again : is_ok r ≡ true → line_of (take (length (written c)) buffer') ≡ Ok c
