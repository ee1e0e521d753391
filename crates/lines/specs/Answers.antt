-- Refusals by their numbers, and faults by their fields.
use Rattle.std.specs.Prelude.{ℕ, Some, None, Ok, Err, Option, Result}
use Rattle.figures.specs.Figure as figures
use Rattle.lines.specs.declared.fault.Fault.{Fault}
use Rattle.lines.specs.declared.fault.Refusal.{Refusal}
use Rattle.lines.specs.declared.fault.Refusal.TheVariants.{UnknownLetter, FieldCount, Figure, NotAName, UnknownPool, NoRoom}

-- The number of each refusal; a figure's is that of figures.
abbrev pub number : Refusal → ℕ
number UnknownLetter = 3
number FieldCount = 4
number (Figure e) = figures.number e
number NotAName = 7
number UnknownPool = 8
number NoRoom = 9

-- The answer of a call: its value, or what the first "no" gave.
abbrev pub told : {X E : Type 0} → X → Option E → Result X E
told x None = Ok x
told x (Some e) = Err e

-- A fault at a field, if a question fails there; field 0 is the whole line.
abbrev pub at_field : ℕ → Option Refusal → Option Fault
at_field k None = None
at_field k (Some e) = Some (record { field = k; refusal = e })

-- The first of two faults.
abbrev pub or_else : Option Fault → Option Fault → Option Fault
or_else None second = second
or_else (Some f) second = Some f
