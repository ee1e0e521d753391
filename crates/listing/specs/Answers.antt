-- Refusals by their numbers, and questions in their order.
use Rattle.std.specs.Prelude.{ℕ, Bool, cond, List, [], ◌∷◌, Ok, Err, Result}
use Rattle.listing.specs.declared.refusal.Refusal.{Refusal}
use Rattle.listing.specs.declared.refusal.Refusal.TheVariants.{Missing, ShortSheet, NotAName, NoRoom}

-- The number of each refusal.
abbrev pub number : Refusal → ℕ
number Missing = 25
number ShortSheet = 22
number NotAName = 7
number NoRoom = 9

-- Questions in their order, each with what a "no" gives: the first "no", or the value.
abbrev pub told : {X : Type 0} → X → List (Bool × Refusal) → Result X Refusal
told x [] = Ok x
told x (q ∷ qs) = cond q.0 (told x qs) (Err q.1)
