-- Refusals by their numbers, and questions in their order.
use Rattle.std.specs.Prelude.{ℕ, Bool, cond, List, [], ◌∷◌, Some, None, Ok, Err, Option, Result}
use Rattle.units.specs.declared.ranges.Refusal as units
use Rattle.units.specs.declared.ranges.Refusal.TheVariants as ranges
use Rattle.register.specs.declared.refusal.Refusal as register
use Rattle.register.specs.declared.refusal.Refusal.TheVariants as kept
use Rattle.book.specs.declared.refusal.Refusal.{Refusal}
use Rattle.book.specs.declared.refusal.Refusal.TheVariants.{OutOfRange, UnknownPool, Full, Taken, ShortSheet, NoFoundingWeight, Spoiled, Missing, NoLoad, OverGranted, AlreadyLifted, OverMark, NotOnTheWay, NoReceiver, SameCustomer, OverSide, OnTheWay, UnknownLetter, NoWeight}

-- The number of each refusal.
abbrev pub number : Refusal → ℕ
number OutOfRange = 6
number UnknownPool = 8
number Full = 20
number Taken = 21
number ShortSheet = 22
number NoFoundingWeight = 23
number Spoiled = 24
number Missing = 25
number NoLoad = 26
number OverGranted = 27
number AlreadyLifted = 28
number OverMark = 29
number NotOnTheWay = 30
number NoReceiver = 31
number SameCustomer = 32
number OverSide = 33
number OnTheWay = 35
number UnknownLetter = 36
number NoWeight = 37

-- Questions in their order, each with what a "no" gives: the first "no".
abbrev pub first : List (Bool × Refusal) → Option Refusal
first [] = None
first (q ∷ qs) = cond q.0 (first qs) (Some q.1)

-- The answer of a call: its value, or what the first "no" gave.
abbrev pub told : {X : Type 0} → X → Option Refusal → Result X Refusal
told x None = Ok x
told x (Some e) = Err e

-- A register's refusal, as the book gives it.
abbrev pub of_register : register.Refusal → Refusal
of_register kept.Full = Full
of_register kept.Taken = Taken
of_register kept.Missing = Missing

-- A refused range, as the book gives it.
abbrev pub of_range : units.Refusal → Refusal
of_range ranges.OutOfRange = OutOfRange
