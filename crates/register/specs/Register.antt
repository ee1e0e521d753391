-- A register keeps records of one kind, in rising order of their numbers, in
-- memory that it is lent. The records stand in the first places of the
-- memory; what the other places hold is no record, and stays but for shifts.
use Rattle.std.specs.Prelude.{◌≡◌, ℕ, ◌<◌, min, true, List, ◌++◌, length, take, drop, is_some, Some, None, Ok, Err, Option, Result}
use Rattle.register.specs.Records.{lookup, place_of, usable}
use Rattle.register.specs.declared.Keyed.{Ghosts}
use Rattle.register.specs.declared.Register.{Register}
use Rattle.register.specs.declared.refusal.Refusal.{Refusal}
use Rattle.register.specs.declared.refusal.Refusal.TheVariants.{Full, Taken, Missing}

-- What all places of the memory hold.
abbrev pub memory : {R : Type 0} {k : Ghosts R} → Register R k → List R
memory reg = reg.places.now

abbrev pub room : {R : Type 0} {k : Ghosts R} → Register R k → ℕ
room reg = usable (memory reg)

-- How many records stand.
abbrev pub count : {R : Type 0} {k : Ghosts R} → Register R k → ℕ
count reg = min reg.standing (room reg)

-- The standing records, in their order.
abbrev pub records : {R : Type 0} {k : Ghosts R} → Register R k → List R
records reg = take (count reg) (memory reg)

-- The memory with records in its first places, and what it held in all others.
abbrev pub laid : {R : Type 0} → List R → List R → List R
laid xs mem = xs ++ drop (length xs) mem

-- The answer of a call that asks for a record: the record, or that it is missing.
abbrev pub Sought : {R : Type 0} → Option R → Result R Refusal → Type 0
Sought o (Ok x) = o ≡ Some x
Sought o (Err e) = (o ≡ None) × (e ≡ Missing)

-- The place of the record of a number, or that it is missing.
abbrev pub Placed : {R : Type 0} → (R → ℕ) → ℕ → List R → Result ℕ Refusal → Type 0
Placed key n xs (Ok i) = (i ≡ place_of key n xs) × (i < length xs)
Placed key n xs (Err e) = (lookup key n xs ≡ None) × (e ≡ Missing)

-- The answer to adding a record where there are so many places: is one free, and
-- then, is the number new.
abbrev pub Admitted : {R : Type 0} → (R → ℕ) → ℕ → R → List R → Result (Unit {0}) Refusal → Type 0
Admitted key places row xs (Ok _) = (length xs < places) × (lookup key (key row) xs ≡ None)
Admitted key places row xs (Err Full) = length xs ≡ places
Admitted key places row xs (Err Taken) = (length xs < places) × (is_some (lookup key (key row) xs) ≡ true)
Admitted key places row xs (Err Missing) = ⊥

-- A call that refuses leaves the register as it was: every place, and the count.
-- Each call has this, `Kept`, its answer and its records in clauses of their own, since callers cite them one by one.
abbrev pub Untouched : {R T : Type 0} {k : Ghosts R} → Result T Refusal → Register R k → Register R k → Type 0
Untouched (Ok _) before after = Unit {0}
Untouched (Err _) before after = after ≡ before

-- What every change of a register keeps: `rest`, the places past the records
-- that stand then; `size`, the number of places; `lender`, whose memory it is.
pub record Kept {R : Type 0} {k : Ghosts R} (before after : Register R k) : Type 0 where
  pub rest : memory after ≡ laid (records after) (memory before)
  pub size : length (memory after) ≡ length (memory before)
  pub lender : after.places.ghost_name ≡ before.places.ghost_name
