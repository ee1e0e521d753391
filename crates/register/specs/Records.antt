-- Records in a list, each with a number, `key`. The list may be in any order,
-- and a number may stand in it twice: every definition still has a meaning.
use Rattle.std.specs.Prelude.{◌≡◌, ℕ, min, length, zero, suc, ◌<◌, ◌≤◌, Bool, true, cond, Ok, Err, Result, not, List, [], ◌∷◌, map, is_some, Some, None, Option, ◌==◌, nat_lt, slice_set}
use Rattle.std.specs.List.{AllByRecursion, prefix_len}
use Rattle.std.specs.Coded.{×_prop, Unit-prop, le_prop}

-- The first record of a number.
abbrev pub lookup : {R : Type 0} → (R → ℕ) → ℕ → List R → Option R
lookup key n [] = None
lookup key n (x ∷ xs) = cond (key x == n) (Some x) (lookup key n xs)

-- With a record put in before the first one of a higher number.
abbrev pub added : {R : Type 0} → (R → ℕ) → R → List R → List R
added key row [] = row ∷ []
added key row (x ∷ xs) = cond (nat_lt (key row) (key x)) (row ∷ x ∷ xs) (x ∷ added key row xs)

-- Without the first record of a number.
abbrev pub without : {R : Type 0} → (R → ℕ) → ℕ → List R → List R
without key n [] = []
without key n (x ∷ xs) = cond (key x == n) xs (x ∷ without key n xs)

-- With a record in the place of the first one of its number.
abbrev pub replaced : {R : Type 0} → (R → ℕ) → R → List R → List R
replaced key row [] = []
replaced key row (x ∷ xs) = cond (key x == key row) (row ∷ xs) (x ∷ replaced key row xs)

-- The record at a place, where it has the number sought.
abbrev pub lookup_at : {R : Type 0} → (R → ℕ) → ℕ → ℕ → List R → Option R
lookup_at key i n [] = None
lookup_at key zero n (x ∷ xs) = cond (key x == n) (Some x) None
lookup_at key (suc i) n (x ∷ xs) = lookup_at key i n xs

-- With a record at a place, where the one that stands there has its number.
abbrev pub replaced_at : {R : Type 0} → (R → ℕ) → ℕ → R → List R → List R
replaced_at key i row xs = cond (is_some (lookup_at key i (key row) xs)) (slice_set xs i row) xs

-- Strictly rising order: each number is lower than all behind it.
abbrev pub Rising : List ℕ → Type 0
Rising [] = Unit {0}
Rising (n ∷ ns) = AllByRecursion (λ m. n < m) ns × Rising ns

-- The records stand in rising order of their numbers, no number twice.
abbrev pub InOrder : {R : Type 0} → (R → ℕ) → List R → Type 0
InOrder key xs = Rising (map key xs)

-- Whether a number rises above the last one, if there is one.
abbrev pub rises : Option ℕ → ℕ → Bool
rises None n = true
rises (Some last) n = nat_lt last n

-- The records from the first one on that rise, the first of them above the last number if there is one.
abbrev pub rising_after : {R : Type 0} → (R → ℕ) → Option ℕ → List R → List R
rising_after key last [] = []
rising_after key last (x ∷ xs) = cond (rises last (key x)) (x ∷ rising_after key (Some (key x)) xs) []

-- The records from the first one on that stand in rising order.
abbrev pub rising_front : {R : Type 0} → (R → ℕ) → List R → List R
rising_front key xs = rising_after key None xs

-- How many records stand before the first one of a number: all, where none has it.
abbrev pub place_of : {R : Type 0} → (R → ℕ) → ℕ → List R → ℕ
place_of key n xs = prefix_len (λ x. not (key x == n)) xs

-- How many records stand before the first one of a higher number: all, where none has one.
abbrev pub place_for : {R : Type 0} → (R → ℕ) → ℕ → List R → ℕ
place_for key n xs = prefix_len (λ x. not (nat_lt n (key x))) xs

-- How many places of a memory a register uses: the first 512, or all of a shorter one.
abbrev pub usable : {R : Type 0} → List R → ℕ
usable mem = min (length mem) 512

-- The place of the record of a number, or the place where it would go.
abbrev pub Located : {R : Type 0} → (R → ℕ) → ℕ → List R → Result ℕ ℕ → Type 0
Located key n xs (Ok i) = (i ≡ place_of key n xs) × (i < length xs)
Located key n xs (Err i) = (i ≡ place_for key n xs) × (i ≤ length xs) × (lookup key n xs ≡ None)

-- A register can be in rising order in one way only.
above-prop : (n : ℕ) (ns : List ℕ) → IsProp (AllByRecursion (λ m. n < m) ns)
above-prop n [] = Unit-prop
above-prop n (m ∷ ms) = ×_prop le_prop (above-prop n ms)

rising-prop : (ns : List ℕ) → IsProp (Rising ns)
rising-prop [] = Unit-prop
rising-prop (n ∷ ns) = ×_prop (above-prop n ns) (rising-prop ns)

pub in_order-prop : {R : Type 0} (key : R → ℕ) (xs : List R) → IsProp (InOrder key xs)
in_order-prop key xs = rising-prop (map key xs)
