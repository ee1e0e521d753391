-- What a request asks, and what is answered.
use Rattle.std.specs.Prelude.{◌≡◌, ℕ, ◌+◌, ◌<◌, true, List, [], ◌∷◌, map, length, drop, is_ok, Some, None, Ok, Err, vec_items, string_bytes, codes, decimal, Option, Result, Vec, String, ◌≢◌, slice_index_or}
use Rattle.std.specs.declared.alloc.Global.{Global}
use Rattle.divider.specs.Questions as division
use Rattle.divider.specs.Questions.{asked}
use Rattle.figures.specs.Figure as figures
use Rattle.figures.specs.Figure.{figure}
use Rattle.figures.specs.declared.refusal.Refusal.{Refusal}
use Rattle.sharing.specs.declared.fault.Fault.{Fault}
use Rattle.sharing.specs.declared.fault.Fault.TheVariants.{UnknownRule, NoTotal, Word, Division, NoMemory}
use Rattle.sharing.specs.declared.rule.Rule.{Rule}
use Rattle.sharing.specs.declared.rule.Rule.TheVariants.{Largest, Running}
use Rattle.sharing.specs.Table.{by_rule, table}

-- The number of each fault; want of memory has none.
abbrev pub number : Fault → Option ℕ
number UnknownRule = Some 3
number NoTotal = Some 4
number (Word word e) = Some (figures.number e)
number (Division e) = Some (division.number e)
number NoMemory = None

abbrev pub name : Rule → List ℕ
name Largest = codes "largest"
name Running = codes "running"

-- The rule that a word names; the fault of one that names none.
abbrev pub Names : List ℕ → Result Rule Fault → Type 0
Names word (Ok rule) = word ≡ name rule
Names word (Err e) = (e ≡ UnknownRule) × ((rule : Rule) → word ≢ name rule)

-- The first of the words that is no figure, and why; they are counted from 2.
pub record FirstBad (words : List (List ℕ)) (word : ℕ) (why : Refusal) : Type 0 where
  pub place : ℕ
  pub counted : word ≡ place + 2
  pub stands : place < length words
  pub bad : figure (slice_index_or words place []) ≡ Err why
  pub good : (k : ℕ) → k < place → is_ok (figure (slice_index_or words k [])) ≡ true

-- The first of the words, the total, is a figure: memory is asked for only once it was read.
abbrev pub FigureFirst : List (List ℕ) → Type 0
FigureFirst words = (0 < length words) × (is_ok (figure (slice_index_or words 0 [])) ≡ true)

-- The figures that words spell.
abbrev pub Figures : List (List ℕ) → Result (Vec ℕ Global) Fault → Type 0
Figures words (Ok found) = words ≡ map decimal (vec_items found)
Figures words (Err UnknownRule) = ⊥
Figures words (Err NoTotal) = ⊥
Figures words (Err (Word word why)) = FirstBad words word why
Figures words (Err (Division e)) = ⊥
Figures words (Err NoMemory) = FigureFirst words

-- The words are the name of a rule, a total and weights.
abbrev pub Asks : List (List ℕ) → Rule → ℕ → List ℕ → Type 0
Asks words rule total weights = words ≡ name rule ∷ (decimal total ∷ map decimal weights)

-- What is answered to the words of a request.
abbrev pub Answered : List (List ℕ) → Result (String Global) Fault → Type 0
Answered words (Ok text) =
    (rule : Rule) × (total : ℕ) × (weights : List ℕ) × (Asks words rule total weights × (asked total weights (length weights) ≡ None) × (string_bytes text ≡ table total weights (by_rule rule total weights)))
Answered words (Err UnknownRule) = (rule : Rule) → slice_index_or words 0 [] ≢ name rule
Answered words (Err NoTotal) = (rule : Rule) × (words ≡ name rule ∷ [])
Answered words (Err (Word word why)) =
    (rule : Rule) × ((slice_index_or words 0 [] ≡ name rule) × FirstBad (drop 1 words) word why)
Answered words (Err (Division e)) =
    (rule : Rule) × (total : ℕ) × (weights : List ℕ) × (Asks words rule total weights × (asked total weights (length weights) ≡ Some e))
Answered words (Err NoMemory) =
    (rule : Rule) × ((slice_index_or words 0 [] ≡ name rule) × FigureFirst (drop 1 words))
