-- Which bytes are a figure, and which number it is.
use Rattle.std.specs.Prelude.{ℕ, ◌+◌, ◌*◌, ◌^◌, Bool, cond, not, ◌&&◌, List, length, Some, None, Ok, Err, Option, Result, ◌==◌, nat_lt, slice_index}
use Rattle.std.specs.Str.{all_ascii_digits}
use Rattle.std.specs.Str.Parse.{digits_value}
use Rattle.figures.specs.declared.refusal.Refusal.{Refusal}
use Rattle.figures.specs.declared.refusal.Refusal.TheVariants.{NotAFigure, OutOfRange}

-- The number of each refusal.
abbrev pub number : Refusal → ℕ
number NotAFigure = 5
number OutOfRange = 6

-- One or more digits, the first no 0 unless it is the only one.
abbrev pub is_figure : List ℕ → Bool
is_figure bytes = nat_lt 0 (length bytes) && not (slice_index bytes 0 == 48 && nat_lt 1 (length bytes)) && all_ascii_digits bytes

-- The number that the bytes spell, or the first question that fails.
abbrev pub figure : List ℕ → Result ℕ Refusal
figure bytes =
    cond (is_figure bytes) (cond (nat_lt (digits_value 10 bytes) (2 ^ 64)) (Ok (digits_value 10 bytes)) (Err OutOfRange)) (Err NotAFigure)

-- A number that fits 64 bits.
abbrev pub fitting : ℕ → Option ℕ
fitting n = cond (nat_lt n (2 ^ 64)) (Some n) None

-- A number with one digit more.
abbrev pub appended : Option ℕ → ℕ → Option ℕ
appended None digit = None
appended (Some n) digit = fitting (n * 10 + digit)
