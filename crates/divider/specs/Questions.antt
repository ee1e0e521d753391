-- What a divider asks before it divides, and what it then answers.
use Rattle.std.specs.Prelude.{◌≡◌, ℕ, ◌-◌, ◌*◌, ◌^◌, ◌<◌, ◌≤◌, cond, ◌&&◌, List, length, Some, None, Ok, Err, sum, Option, Result, ◌==◌, nat_le, nat_lt}
use Rattle.divider.specs.declared.refusal.Refusal.{Refusal}
use Rattle.divider.specs.declared.refusal.Refusal.TheVariants.{SheetLength, NoWeight, TooLarge}

-- The number of each refusal.
abbrev pub number : Refusal → ℕ
number SheetLength = 40
number NoWeight = 41
number TooLarge = 42

-- The largest sum of weights, and the largest total times it.
abbrev pub limit : ℕ
limit = 2 ^ 63 - 1

-- The total and the weights pass the questions 41 and 42.
pub record Passes (total : ℕ) (weights : List ℕ) : Type 0 where
  pub some : 0 < sum weights
  pub small : sum weights ≤ limit
  pub fits : total * sum weights ≤ limit

-- The first of the questions 41 and 42 that fails, by the sum of the weights.
abbrev pub asked_of_sum : ℕ → ℕ → Option Refusal
asked_of_sum total all =
    cond (nat_lt 0 all) (cond (nat_le all limit && nat_le (total * all) limit) None (Some TooLarge)) (Some NoWeight)

-- The first question that fails, for a sheet of so many places.
abbrev pub asked : ℕ → List ℕ → ℕ → Option Refusal
asked total weights places =
    cond (places == length weights) (asked_of_sum total (sum weights)) (Some SheetLength)

-- The answer to the questions: the sum of the weights, or the first that fails.
abbrev pub Weighed : ℕ → List ℕ → ℕ → Result ℕ Refusal → Type 0
Weighed total weights places (Ok all) = (asked total weights places ≡ None) × (all ≡ sum weights)
Weighed total weights places (Err e) = asked total weights places ≡ Some e

-- What a division answers and leaves on the sheet: the shares, or the first question that fails and the sheet as it was.
abbrev pub Divided : ℕ → List ℕ → List ℕ → List ℕ → List ℕ → Result Unit Refusal → Type 0
Divided total weights shares old new (Ok _) = (asked total weights (length old) ≡ None) × (new ≡ shares)
Divided total weights shares old new (Err e) = (asked total weights (length old) ≡ Some e) × (new ≡ old)
