-- Posting and striking of cost lines.
use Rattle.std.specs.Prelude.{◌≡◌, ℕ, cond, not, List, [], ◌∷◌, length, is_some, is_ok, Option, Result, nat_lt}
use Rattle.std.specs.Option.{unwrap_or}
use Rattle.units.specs.Ranges.{admits, number_figure}
use Rattle.register.specs.Records.{lookup, added, without}
use Rattle.records.specs.declared.cost_line.CostLine.{CostLine}
use Rattle.records.specs.declared.cost_line.Entry.{Entry}
use Rattle.records.specs.declared.cost_line.Entry.TheVariants as entry
use Rattle.records.specs.declared.pool.Pool.TheVariants.{Composite}
use Rattle.book.specs.declared.figures.Posting.{Posting}
use Rattle.book.specs.declared.refusal.Refusal.{Refusal}
use Rattle.book.specs.declared.refusal.Refusal.TheVariants.{OutOfRange, UnknownPool, Full, Taken, OverSide, Missing, Spoiled}
use Rattle.book.specs.declared.stages.OpenBook.{OpenBook}
use Rattle.book.specs.Answers.{first, told}
use Rattle.book.specs.Books.{posting, striking}
use Rattle.book.specs.Sides.{entry_of, all_stay, all_hold}

abbrev pub key : CostLine → ℕ
key l = l.number

-- What is entered, where the letters are known.
abbrev pub entry_in : Posting → Entry
entry_in p = unwrap_or (entry_of p) (entry.Expense Composite)

abbrev pub new_line : ℕ → Posting → ℕ → CostLine
new_line number p cents = record { number = number; entry = entry_in p; cents = cents }

-- The questions of post, where the register has so many places.
abbrev pub post_asks : {D : Type 0} → OpenBook D → ℕ → List CostLine → ℕ → Posting → ℕ → Option Refusal
post_asks b places lines number p cents =
    first (
    (admits number_figure number, OutOfRange)
    ∷ (is_some (entry_of p), UnknownPool)
    ∷ (nat_lt (length lines) places, Full)
    ∷ (not (is_some (lookup key number lines)), Taken)
    ∷ (all_stay b.costs b.credits (entry_in p) cents, OverSide)
    ∷ []
    )

-- A posting enters a cost line, and raises the sides of its pools.
pub record Posts {D : Type 0} (b : OpenBook D) (places : ℕ) (lines : List CostLine) (number : ℕ) (p : Posting) (cents : ℕ) (r : Result (Unit {0}) Refusal) (b' : OpenBook D) (lines' : List CostLine) : Type 0 where
  pub answer : r ≡ told tt (post_asks b places lines number p cents)
  pub book : b' ≡ cond (is_ok r) (posting b (entry_in p) cents) b
  pub after : lines' ≡ cond (is_ok r) (added key (new_line number p cents) lines) lines

-- The cost line of a number.
abbrev pub cost_line : List CostLine → ℕ → CostLine
cost_line lines n = unwrap_or (lookup key n lines) (record { number = 0; entry = entry.Expense Composite; cents = 0 })

abbrev pub strike_asks : {D : Type 0} → OpenBook D → List CostLine → ℕ → Option Refusal
strike_asks b lines number =
    first (
    (is_some (lookup key number lines), Missing)
    ∷ (all_hold b.costs b.credits (cost_line lines number).entry (cost_line lines number).cents, Spoiled)
    ∷ []
    )

-- A striking removes a cost line, and lowers the sides that it raised.
pub record Strikes {D : Type 0} (b : OpenBook D) (lines : List CostLine) (number : ℕ) (r : Result (Unit {0}) Refusal) (b' : OpenBook D) (lines' : List CostLine) : Type 0 where
  pub answer : r ≡ told tt (strike_asks b lines number)
  pub book : b' ≡ cond (is_ok r) (striking b (cost_line lines number).entry (cost_line lines number).cents) b
  pub after : lines' ≡ cond (is_ok r) (without key number lines) lines
