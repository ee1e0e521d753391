-- The questions that are put to the fields of a line.
use Rattle.std.specs.Prelude.{◌≡◌, ℕ, zero, suc, ◌+◌, ◌-◌, ◌^◌, ◌<◌, Bool, true, false, cond, not, ◌&&◌, ◌⊎◌, List, [], ◌∷◌, length, is_some, Some, None, Ok, Err, Option, Result, ◌==◌, nat_le, nat_lt, slice_index}
use Rattle.units.specs.Ranges.{kind, admits, is_figure}
use Rattle.units.specs.declared.ranges.Letter.{Letter}
use Rattle.units.specs.declared.ranges.Kind.{Kind}
use Rattle.units.specs.declared.ranges.Kind.TheVariants.{Figure, Name, Pool, OtherPool}
use Rattle.figures.specs.Figure.{figure}
use Rattle.figures.specs.declared.refusal.Refusal as figures
use Rattle.figures.specs.declared.refusal.Refusal.TheVariants.{OutOfRange}
use Rattle.records.specs.Pools.{pool_of}
use Rattle.rows.specs.declared.field.Field.{Field}
use Rattle.rows.specs.declared.field.Field.TheVariants as held
use Rattle.lines.specs.declared.fault.Fault.{Fault}
use Rattle.lines.specs.declared.fault.Refusal.{Refusal}
use Rattle.lines.specs.declared.fault.Refusal.TheVariants as refusal
use Rattle.lines.specs.declared.fault.Refusal.TheVariants.{NotAName, UnknownPool}
use Rattle.lines.specs.Letters.{field}
use Rattle.lines.specs.Answers.{at_field, or_else}

-- A byte of a name: from 32 to 126, and no comma.
abbrev pub name_byte : ℕ → Bool
name_byte b = nat_le 32 b && nat_le b 126 && not (b == 44)

abbrev pub name_bytes : List ℕ → Bool
name_bytes [] = true
name_bytes (b ∷ bs) = name_byte b && name_bytes bs

-- A name has 1 to 24 of them.
abbrev pub a_name : List ℕ → Bool
a_name f = nat_lt 0 (length f) && nat_le (length f) 24 && name_bytes f

-- A pool is one known letter.
abbrev pub a_pool : List ℕ → Bool
a_pool f = length f == 1 && is_some (pool_of (slice_index f 0))

-- A figure as its field takes it: refused with 6 too where it is outside the field's range.
abbrev pub in_field : Kind → Result ℕ figures.Refusal → Result ℕ figures.Refusal
in_field kind (Ok n) = cond (admits kind n) (Ok n) (Err OutOfRange)
in_field kind (Err e) = Err e

-- What it is refused for, as a line's refusal.
abbrev pub refused : Result ℕ figures.Refusal → Option Refusal
refused (Ok n) = None
refused (Err e) = Some (refusal.Figure e)

-- What a field is refused for, if anything; the second pool of a shift is unlike the field before it.
abbrev pub asks : Kind → List ℕ → List ℕ → Option Refusal
asks (Figure m low high) f before = refused (in_field (Figure m low high) (figure f))
asks Name f before = cond (a_name f) None (Some NotAName)
asks Pool f before = cond (a_pool f) None (Some UnknownPool)
asks OtherPool f before = cond (a_pool f && not (slice_index f 0 == slice_index before 0)) None (Some UnknownPool)

abbrev pub asked : Letter → List (List ℕ) → ℕ → Option Refusal
asked l fs k = asks (kind l k) (field fs k) (field fs (k - 1))

-- The first fault in n fields from field k on.
abbrev pub first_fault : Letter → List (List ℕ) → ℕ → ℕ → Option Fault
first_fault l fs k zero = None
first_fault l fs k (suc n) = or_else (at_field k (asked l fs k)) (first_fault l fs (k + 1) n)

-- A field holds what its kind asks for.
abbrev pub Fits : Kind → Field → Type 0
Fits kind (held.Text bytes) = kind ≡ Name
Fits kind (held.Letter c) = (kind ≡ Pool) ⊎ (kind ≡ OtherPool)
Fits kind (held.Figure n) = (is_figure kind ≡ true) × (n < 2 ^ 64)
Fits kind (held.Minus n) = ⊥

-- The field that a second pool is compared with holds a letter.
abbrev pub Compared : Kind → Field → Type 0
Compared (Figure m low high) before = Unit {0}
Compared Name before = Unit {0}
Compared Pool before = Unit {0}
Compared OtherPool before = Fits Pool before

-- Whether a field holds this letter.
abbrev pub holds : ℕ → Field → Bool
holds c (held.Text bytes) = false
holds c (held.Letter d) = c == d
holds c (held.Figure n) = false
holds c (held.Minus n) = false
