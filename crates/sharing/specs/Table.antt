-- The table of a division.
use Rattle.std.specs.Prelude.{◌≡◌, ℕ, ◌+◌, List, [], ◌∷◌, ◌++◌, length, Some, None, Ok, Err, codes, decimal, sum_by, sum, Result, slice_index}
use Rattle.std.specs.List.{range_with_len, flat_map}
use Rattle.divider.specs.Questions.{Passes, asked}
use Rattle.divider.specs.Shares.{whole, rest}
use Rattle.largest.specs.Largest.{by_remainders}
use Rattle.running.specs.Running.{by_running}
use Rattle.sharing.specs.declared.fault.Fault.{Fault}
use Rattle.sharing.specs.declared.fault.Fault.TheVariants.{UnknownRule, NoTotal, Word, Division, NoMemory}
use Rattle.sharing.specs.declared.rule.Rule.{Rule}
use Rattle.sharing.specs.declared.rule.Rule.TheVariants.{Largest, Running}

-- The shares by each rule.
abbrev pub by_rule : Rule → ℕ → List ℕ → List ℕ
by_rule Largest = by_remainders
by_rule Running = by_running

-- Four figures with commas between them, and the end byte.
abbrev pub four : ℕ → ℕ → ℕ → ℕ → List ℕ
four a b c d = decimal a ++ (44 ∷ (decimal b ++ (44 ∷ (decimal c ++ (44 ∷ (decimal d ++ (10 ∷ [])))))))

-- Five figures, likewise.
abbrev pub row : ℕ → ℕ → ℕ → ℕ → ℕ → List ℕ
row a b c d e = decimal a ++ (44 ∷ four b c d e)

-- The line of a place: the place, the weight, the whole part and the remainder of its exact share, its share.
abbrev pub line : ℕ → List ℕ → List ℕ → ℕ → List ℕ
line total weights shares k =
    row (k + 1) (slice_index weights k) (whole total (sum weights) (slice_index weights k)) (rest total (sum weights) (slice_index weights k)) (slice_index shares k)

-- The lines of the first n places.
abbrev pub lines : ℕ → List ℕ → List ℕ → ℕ → List ℕ
lines total weights shares n = flat_map (line total weights shares) (range_with_len 0 n)

-- The sums of the columns, with the word sum where the other lines have their place.
abbrev pub sum_line : ℕ → List ℕ → List ℕ → List ℕ
sum_line total weights shares =
    codes "sum," ++ four (sum weights) (sum_by (whole total (sum weights)) weights) (sum_by (rest total (sum weights)) weights) (sum shares)

abbrev pub table : ℕ → List ℕ → List ℕ → List ℕ
table total weights shares = lines total weights shares (length weights) ++ sum_line total weights shares

-- all is the sum of the weights, and the questions passed.
pub record Ready (total all : ℕ) (weights : List ℕ) : Type 0 where
  pub is_sum : all ≡ sum weights
  pub passes : Passes total weights

-- The answer of a division: what P says where no question fails, or the divider's refusal.
-- Nothing is said of when memory runs out.
abbrev pub Answers : {X : Type 0} → ℕ → List ℕ → (X → Type 0) → Result X Fault → Type 0
Answers total weights P (Ok x) = (asked total weights (length weights) ≡ None) × P x
Answers total weights P (Err UnknownRule) = ⊥
Answers total weights P (Err NoTotal) = ⊥
Answers total weights P (Err (Word word e)) = ⊥
Answers total weights P (Err (Division e)) = asked total weights (length weights) ≡ Some e
Answers total weights P (Err NoMemory) = asked total weights (length weights) ≡ None
