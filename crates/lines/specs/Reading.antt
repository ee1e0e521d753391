-- Fields as they are taken, one after the other.
use Rattle.std.specs.Prelude.{◌≡◌, ℕ, zero, suc, ◌+◌, ◌≤◌, true, List, [], ◌∷◌, length, drop, Err, Option, Result, MatchResult}
use Rattle.std.specs.Borrow.{Bor}
use Rattle.rows.specs.Rows.{parted, parts_after}
use Rattle.units.specs.Ranges.{form, count, kind, is_figure}
use Rattle.units.specs.declared.ranges.Kind.{Kind}
use Rattle.lines.specs.declared.fault.Fault.{Fault}
use Rattle.lines.specs.declared.taking.Fields.{Fields}
use Rattle.lines.specs.declared.line.Line.{Line}
use Rattle.lines.specs.Letters.{field}
use Rattle.lines.specs.Lines.{contents, made, read_fields}

-- All fields of a line of which some are taken.
abbrev pub all : Fields → List (List ℕ)
all s = parted 44 s.line.now

-- The bytes of the next field, and what stands after it.
pub record Next (s : Fields) (bytes : List ℕ) (rest : Option (Bor (List ℕ))) : Type 0 where
  pub is : bytes ≡ field (all s) s.place
  pub left : parts_after 44 rest ≡ drop s.place (all s)
  pub within : s.place ≤ length (all s)

-- So many fields are taken of the same line.
pub record Taken (n : ℕ) (s t : Fields) : Type 0 where
  pub all : all t ≡ all s
  pub letter : t.letter ≡ s.letter
  pub place : t.place ≡ s.place + n

-- The next field is one of those that the letter asks for, and of this kind.
pub record Due (κ : Kind) (s : Fields) : Type 0 where
  pub few : s.place ≤ count s.letter
  pub kind : kind s.letter s.place ≡ κ

-- The next field is a figure.
pub record FigureDue (s : Fields) : Type 0 where
  pub few : s.place ≤ count s.letter
  pub figure : is_figure (kind s.letter s.place) ≡ true

-- The line is refused with this fault.
abbrev pub Refuses : Fields → Fault → Type 0
Refuses s f = Err f ≡ read_fields (all s)

-- So many fields are taken, and what is read of them is as it should be; or the line is refused.
abbrev pub Takes : {X : Type 0} → ℕ → Fields → Fields → Result X Fault → (X → Type 0) → Type 0
Takes n s t r Holds = MatchResult r (λ x. Taken n s t × Holds x) (Refuses s)

-- So many fields, from the k-th on.
abbrev pub fields_from : ℕ → ℕ → List (List ℕ) → List (List ℕ)
fields_from zero k fs = []
fields_from (suc n) k fs = field fs k ∷ fields_from n (k + 1) fs

-- All fields are taken, and what is read is the line that they make.
abbrev pub TakesAll : Fields → Fields → Result Line Fault → Type 0
TakesAll s t r = Takes (length (form s.letter)) s t r (λ l. contents l ≡ made s.letter (fields_from (length (form s.letter)) 2 (all s)))
