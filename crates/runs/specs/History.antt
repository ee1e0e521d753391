-- Calls with their answers, and what is drawn from a history of them, the newest first.
use Rattle.std.specs.Prelude.{◌≡◌, ℕ, Bool, ◌⊎◌, if◌then◌else◌, List, [], ◌∷◌, ℤ, pos, ◌-ℤ◌, Some, None, Ok, sum_by, Option, Result, ◌==◌}
use Rattle.std.specs.Result.{result_err}
use Rattle.std.specs.List.{list_any}
use Rattle.records.specs.declared.cost_line.CostLine.{CostLine}
use Rattle.records.specs.declared.cost_line.Entry.{Entry}
use Rattle.records.specs.declared.cost_line.Entry.TheVariants.{Expense, Credit}
use Rattle.records.specs.declared.pool.Pool.{Pool}
use Rattle.records.specs.Pools.{pool_of, cost_of, credit_of}
use Rattle.book.specs.declared.figures.Posting.{Posting}
use Rattle.book.specs.declared.parcel.Parcel.{Parcel}
use Rattle.book.specs.declared.refusal.Refusal.{Refusal}
use Rattle.book.specs.Lines.{new_line}

-- A call of a run, with its answer; staying is a close that was refused.
pub data Event : Type 0 where
  granting : (number load : ℕ) → Result (Unit {0}) Refusal → Event
  lifting : (number load : ℕ) → Result Parcel Refusal → Event
  landing : (p : Parcel) (receiver : ℕ) → Result (Unit {0}) Refusal → Event
  returning : (p : Parcel) → Result (Unit {0}) Refusal → Event
  posting : (number : ℕ) (p : Posting) (cents : ℕ) → Result (Unit {0}) Refusal → Event
  striking : (number : ℕ) → Result (Unit {0}) Refusal → Event
  staying : Refusal → Event
  closing : Event
  billing : (letter : ℕ) → Result (Unit {0}) Refusal → Event

-- Why a call was refused, if it was.
abbrev pub refusal : Event → Option Refusal
refusal (granting number load r) = result_err r
refusal (lifting number load r) = result_err r
refusal (landing p receiver r) = result_err r
refusal (returning p r) = result_err r
refusal (posting number p cents r) = result_err r
refusal (striking number r) = result_err r
refusal (staying e) = Some e
refusal closing = None
refusal (billing letter r) = result_err r

-- The load that a call granted.
abbrev pub grant_of : Event → ℕ
grant_of (granting number load (Ok u)) = load
grant_of _ = 0

-- The accepted grants.
abbrev pub grants : List Event → ℕ
grants events = sum_by grant_of events

abbrev pub among : ℕ → List ℕ → Bool
among n ms = list_any (λ m. n == m) ms

-- The lines that accepted postings entered and no later accepted striking of their number removed;
-- the numbers struck later than these events are given.
abbrev pub drawn : List ℕ → List Event → List CostLine
drawn struck [] = []
drawn struck (posting number p cents (Ok u) ∷ es) =
    if among number struck then drawn struck es else (new_line number p cents ∷ drawn struck es)
drawn struck (striking number (Ok u) ∷ es) = drawn (number ∷ struck) es
drawn struck (_ ∷ es) = drawn struck es

abbrev pub lines_of : List Event → List CostLine
lines_of events = drawn [] events

-- A pool's cost by these lines: its cost side less its credit side.
abbrev pub cost_by : List CostLine → Pool → ℤ
cost_by lines p =
    pos (sum_by (λ l. cost_of l.entry p l.cents) lines) -ℤ pos (sum_by (λ l. credit_of l.entry p l.cents) lines)

-- The expenses, and the credits, among them; a shift is neither.
abbrev pub expense_in : Entry → ℕ → ℕ
expense_in (Expense p) n = n
expense_in _ n = 0

abbrev pub credit_in : Entry → ℕ → ℕ
credit_in (Credit p) n = n
credit_in _ n = 0

abbrev pub expenses : List CostLine → ℕ
expenses lines = sum_by (λ l. expense_in l.entry l.cents) lines

abbrev pub credits : List CostLine → ℕ
credits lines = sum_by (λ l. credit_in l.entry l.cents) lines

-- The pool that a call billed.
abbrev pub bill_of : Event → Option Pool
bill_of (billing letter (Ok u)) = pool_of letter
bill_of _ = None

-- A pool is billed once a bill of it is accepted.
abbrev pub Billed : Pool → List Event → Type 0
Billed p [] = ⊥
Billed p (e ∷ es) = (bill_of e ≡ Some p) ⊎ Billed p es
