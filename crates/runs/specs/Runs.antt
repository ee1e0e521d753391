-- Runs of a book, and what holds after every one of them.
use Rattle.std.specs.Prelude.{◌≡◌, ℕ, ◌+◌, ◌*◌, ◌<◌, ◌≤◌, List, [], ◌∷◌, map, length, get_or, ℤ, pos, ◌+ℤ◌, ◌-ℤ◌, ◌*ℤ◌, Some, Ok, Err, fold, sum_by, Result, ◌≢◌}
use Rattle.std.specs.List.{AllByRecursion}
use Rattle.divider.specs.Questions.{Passes}
use Rattle.divider.specs.Shares.{Fair}
use Rattle.records.specs.declared.customer.Customer.{Customer}
use Rattle.records.specs.declared.cost_line.CostLine.{CostLine}
use Rattle.records.specs.declared.pool.Pool.{Pool}
use Rattle.records.specs.declared.pool.Pool.TheVariants.{Composite, NonSlice, Slice, Tier2}
use Rattle.records.specs.Figures.{founding_weight, pool_weight}
use Rattle.records.specs.Pools.{order}
use Rattle.book.specs.declared.figures.Figures.{Figures}
use Rattle.book.specs.declared.figures.Posting.{Posting}
use Rattle.book.specs.declared.parcel.Parcel.{Parcel}
use Rattle.book.specs.declared.refusal.Refusal.{Refusal}
use Rattle.book.specs.declared.refusal.Refusal.TheVariants.{Spoiled}
use Rattle.book.specs.declared.stages.Intake.{Intake}
use Rattle.book.specs.declared.stages.OpenBook.{OpenBook}
use Rattle.book.specs.declared.stages.ClosedBook.{ClosedBook}
use Rattle.book.specs.Customers.{nobody, marked, rated, Enters}
use Rattle.book.specs.Marks.{Grants, Lifts, Lands, Returns}
use Rattle.book.specs.Lines.{Posts, Strikes}
use Rattle.book.specs.Sides.{cost}
use Rattle.book.specs.Rates.{Meaning, Founds, Closes, Bills, size, part}
use Rattle.runs.specs.History.{Event, granting, lifting, landing, returning, posting, striking, staying, closing, billing, refusal, grants, lines_of, cost_by, expenses, credits, Billed}

-- A book at either stage.
pub data Stage (D : Type 0) : Type 0 where
  open_book : OpenBook D → Stage D
  closed_book : ClosedBook D → Stage D

-- What a call finds: the book, the records of both registers, and the charges sheet.
pub record World (D : Type 0) : Type 0 where
  pub stage : Stage D
  pub customers : List Customer
  pub lines : List CostLine
  pub charges : List ℤ

abbrev pub at : {D : Type 0} → Stage D → List Customer → List CostLine → List ℤ → World D
at s cs ls ch = record { stage = s; customers = cs; lines = ls; charges = ch }

module _ {D : Type 0} (m : D → Meaning) where
  -- A call leads from one world to the next by what it promises in its contract.
  pub data Step : World D → Event → World D → Type 0 where
    grant : {b b' : OpenBook D} {cs cs' : List Customer} {ls : List CostLine} {ch : List ℤ} {number load : ℕ} {r : Result (Unit {0}) Refusal} → Grants b cs number load r b' cs' → Step (at (open_book b) cs ls ch) (granting number load r) (at (open_book b') cs' ls ch)
    lift : {b : OpenBook D} {cs cs' : List Customer} {ls : List CostLine} {ch : List ℤ} {number load : ℕ} {r : Result Parcel Refusal} → Lifts cs number load r cs' → Step (at (open_book b) cs ls ch) (lifting number load r) (at (open_book b) cs' ls ch)
    land : {b : OpenBook D} {cs cs' : List Customer} {ls : List CostLine} {ch : List ℤ} {p : Parcel} {receiver : ℕ} {r : Result (Unit {0}) Refusal} → Lands cs p receiver r cs' → Step (at (open_book b) cs ls ch) (landing p receiver r) (at (open_book b) cs' ls ch)
    return : {b : OpenBook D} {cs cs' : List Customer} {ls : List CostLine} {ch : List ℤ} {p : Parcel} {r : Result (Unit {0}) Refusal} → Returns cs p r cs' → Step (at (open_book b) cs ls ch) (returning p r) (at (open_book b) cs' ls ch)
    post : {b b' : OpenBook D} {cs : List Customer} {places : ℕ} {ls ls' : List CostLine} {ch : List ℤ} {number : ℕ} {p : Posting} {cents : ℕ} {r : Result (Unit {0}) Refusal} → Posts b places ls number p cents r b' ls' → Step (at (open_book b) cs ls ch) (posting number p cents r) (at (open_book b') cs ls' ch)
    strike : {b b' : OpenBook D} {cs : List Customer} {ls ls' : List CostLine} {ch : List ℤ} {number : ℕ} {r : Result (Unit {0}) Refusal} → Strikes b ls number r b' ls' → Step (at (open_book b) cs ls ch) (striking number r) (at (open_book b') cs ls' ch)
    stay : {b b' : OpenBook D} {cs cs' : List Customer} {ls : List CostLine} {ch : List ℤ} {e : Refusal} (ws ss ws' ss' : List ℕ) → Closes m b cs ws ss (Err (b', e)) cs' ws' ss' → Step (at (open_book b) cs ls ch) (staying e) (at (open_book b') cs' ls ch)
    close : {b : OpenBook D} {c : ClosedBook D} {cs cs' : List Customer} {ls : List CostLine} {ch : List ℤ} (ws ss ws' ss' : List ℕ) → Closes m b cs ws ss (Ok c) cs' ws' ss' → Step (at (open_book b) cs ls ch) closing (at (closed_book c) cs' ls ch)
    bill : {c : ClosedBook D} {cs : List Customer} {ls : List CostLine} {ch ch' : List ℤ} {letter : ℕ} {r : Result (Unit {0}) Refusal} (ws ss ws' ss' : List ℕ) → Bills m c cs letter ws ss ch r ws' ss' ch' → Step (at (closed_book c) cs ls ch) (billing letter r) (at (closed_book c) cs ls ch')

  -- The events, the newest first, lead from the first world to the last.
  pub data Run (w : World D) : List Event → World D → Type 0 where
    start : Run w [] w
    next : {es : List Event} {e : Event} {w' w'' : World D} → Run w es w' → Step w' e w'' → Run w (e ∷ es) w''

-- A customer without what books wrote into its record.
abbrev pub bare : Customer → Customer
bare c = rated (marked c 0 0) 0

-- Customers that all came by accepted enters, in a register of at most 512 places, whatever books wrote into their records since.
pub data Entered : List Customer → Type 0 where
  none : Entered []
  used : {cs cs' : List Customer} → Entered cs → map bare cs' ≡ map bare cs → Entered cs'
  one_more : {cs cs' : List Customer} (places : ℕ) (f : Figures) → places ≤ 512 → Entered cs → Enters places cs f (Ok tt) cs' → Entered cs'

-- Marks held and marks on their way.
abbrev pub held : List Customer → ℕ
held cs = sum_by (λ c. c.mark) cs

abbrev pub on_the_way : List Customer → ℕ
on_the_way cs = sum_by (λ c. c.transit) cs

-- f lies less than one unit from a / s: f × s and a differ by less than s.
abbrev pub WithinOne : ℤ → ℤ → ℕ → Type 0
WithinOne f a s = size (f *ℤ pos s -ℤ a) < s

-- The marks that a founding writes add up to the founding total, and each lies less than one unit from its exact share.
pub record Founded (total : ℕ) (cs : List Customer) : Type 0 where
  pub adds_up : held cs ≡ total
  pub near : (k : ℕ) → k < length cs → WithinOne (pos (get_or cs k nobody).mark) (pos (founding_weight (get_or cs k nobody) * total)) (sum_by founding_weight cs)

-- The RHWMs add up to the capability, and each lies less than one unit from its exact share.
pub record Rated (capability : ℕ) (cs : List Customer) : Type 0 where
  pub adds_up : sum_by (λ c. c.rhwm) cs ≡ capability
  pub near : (k : ℕ) → k < length cs → WithinOne (pos (get_or cs k nobody).rhwm) (pos ((get_or cs k nobody).mark * capability)) (held cs)

abbrev pub sumℤ : List ℤ → ℤ
sumℤ zs = fold (λ a z. a +ℤ z) (pos 0) zs

-- A pool's part of the charges sheet, for n customers.
abbrev pub charges_in : Pool → ℕ → List ℤ → List ℤ
charges_in p n charges = part charges (order p * n) n

-- A pool's charges add up to its cost, and each lies less than one cent from its exact share:
-- cost × weight / sum of weights, and 0 where the cost is 0.
pub record Paid (p : Pool) (cost : ℤ) (cs : List Customer) (charges : List ℤ) : Type 0 where
  pub adds_up : sumℤ (charges_in p (length cs) charges) ≡ cost
  pub none : cost ≡ pos 0 → (k : ℕ) → k < length cs → get_or (charges_in p (length cs) charges) k (pos 0) ≡ pos 0
  pub near : (cost ≡ pos 0 → ⊥) → (k : ℕ) → k < length cs → WithinOne (get_or (charges_in p (length cs) charges) k (pos 0)) (cost *ℤ pos (pool_weight p (get_or cs k nobody))) (sum_by (pool_weight p) cs)

-- All charges of the sheet's four parts.
abbrev pub all_charges : ℕ → List ℤ → ℤ
all_charges n charges =
    sumℤ (charges_in Composite n charges) +ℤ sumℤ (charges_in NonSlice n charges) +ℤ sumℤ (charges_in Slice n charges) +ℤ sumℤ (charges_in Tier2 n charges)

-- What holds of a closed book.
pub record Settled (capability : ℕ) (es : List Event) (cs : List Customer) (charges : List ℤ) : Type 0 where
  pub rated : Rated capability cs
  pub paid : (p : Pool) → Billed p es → Paid p (cost_by (lines_of es) p) cs charges
  pub together : Billed Composite es → Billed NonSlice es → Billed Slice es → Billed Tier2 es → all_charges (length cs) charges ≡ pos (expenses (lines_of es)) -ℤ pos (credits (lines_of es))

abbrev pub Closing : {D : Type 0} → ℕ → List Event → Stage D → World D → Type 0
Closing capability es (open_book b) w = Unit {0}
Closing capability es (closed_book c) w = Settled capability es w.customers w.charges

-- What holds after a run: marks balance, a closed book is settled, and no call answered 24.
pub record Sound {D : Type 0} (total capability : ℕ) (es : List Event) (w : World D) : Type 0 where
  pub balanced : held w.customers + on_the_way w.customers ≡ total + grants es
  pub settled : Closing capability es w.stage w
  pub unspoiled : AllByRecursion (λ e. refusal e ≢ Some Spoiled) es

-- Every run of this book, over these customers and an empty cost register, is sound, whatever the charges sheet.
abbrev pub StaysSound : {D : Type 0} → (D → Meaning) → ℕ → ℕ → OpenBook D → List Customer → Type 0
StaysSound {D} m total capability b cs =
    (charges : List ℤ) (es : List Event) (w : World D) → Run m (at (open_book b) cs [] charges) es w → Sound total capability es w

-- What holds besides of a closed book: nothing is on the way, and the costs that it keeps are those of its lines.
pub record Reconciled {D : Type 0} (es : List Event) (c : ClosedBook D) (cs : List Customer) : Type 0 where
  pub arrived : on_the_way cs ≡ 0
  pub costs : (p : Pool) → cost c.costs c.credits p ≡ cost_by (lines_of es) p

abbrev pub Reconciling : {D : Type 0} → List Event → Stage D → List Customer → Type 0
Reconciling es (open_book b) cs = Unit {0}
Reconciling es (closed_book c) cs = Reconciled es c cs

-- In every run of this book, over these customers and an empty cost register, a closed book is reconciled.
abbrev pub StaysReconciled : {D : Type 0} → (D → Meaning) → OpenBook D → List Customer → Type 0
StaysReconciled {D} m b cs =
    (charges : List ℤ) (es : List Event) (w : World D) → Run m (at (open_book b) cs [] charges) es w → Reconciling es w.stage w.customers

-- The laws of a divider's meaning.
abbrev pub LawfulMeaning : Meaning → Type 0
LawfulMeaning m = (total : ℕ) (weights : List ℕ) → Passes total weights → Fair total weights (m total weights)

-- A divider within its laws, by its meaning alone.
pub record Lawful : Type 0 where
  pub meaning : Meaning
  pub fair : LawfulMeaning meaning

-- For every divider within its laws: a book that was founded over entered customers stays sound.
abbrev pub BooksStaySound : {D : Type 0} → (D → Meaning) → Type 0
BooksStaySound {D} m =
    (intake : Intake D) (b : OpenBook D) (cs cs' : List Customer) (ws ss ws' ss' : List ℕ) → Entered cs → Founds m intake cs ws ss (Ok b) cs' ws' ss' → StaysSound m intake.header.founding_total intake.header.capability b cs'

abbrev pub AlwaysSound : Type 0
AlwaysSound = BooksStaySound {D = Lawful} (λ d. d.meaning)
