-- The letters of lines, and fields by their numbers.
use Rattle.std.specs.Prelude.{ℕ, ◌-◌, cond, List, [], length, Some, None, Option, ◌==◌, slice_index, slice_index_or}
use Rattle.units.specs.declared.ranges.Letter.{Letter}
use Rattle.units.specs.declared.ranges.Letter.TheVariants.{Header, Customer, Expense, Credit, Shift, Grant, Transfer}

-- The field of a number; the letter is field 1.
abbrev pub field : List (List ℕ) → ℕ → List ℕ
field fs k = slice_index_or fs (k - 1) []

-- The byte of each letter: H, C, E, R, A, G, T.
abbrev pub byte_of : Letter → ℕ
byte_of Header = 72
byte_of Customer = 67
byte_of Expense = 69
byte_of Credit = 82
byte_of Shift = 65
byte_of Grant = 71
byte_of Transfer = 84

-- The letter of a first field: its one byte, if that is known.
abbrev pub letter_at : ℕ → Option Letter
letter_at b =
    cond (b == 72) (Some Header) (cond (b == 67) (Some Customer) (cond (b == 69) (Some Expense) (cond (b == 82) (Some Credit) (cond (b == 65) (Some Shift) (cond (b == 71) (Some Grant) (cond (b == 84) (Some Transfer) None))))))

abbrev pub letter_of : List ℕ → Option Letter
letter_of f = cond (length f == 1) (letter_at (slice_index f 0)) None
