-- What the cost register and the sides of the pools keep along a run.
use Rattle.std.proofs.Common.{◌≡◌, ℕ, ◌+◌, ◌≤◌, true, cond, List, [], ◌∷◌, pos, ◌+ℤ◌, ◌-ℤ◌, Some, None, Ok, Err, sum_by, Result, sym, refl, ap, ◌∙◌, arith}
use borrow.Author.Differences.{ints}
use Rattle.std.proofs.lemmas.List.Sums.{sum_by-cons}
use Rattle.std.proofs.lemmas.Bool.Decides.{nat_tests}
use Rattle.register.specs.Records.{lookup, added, without, InOrder}
use Rattle.register.proofs.Sums.{sum_by-added, sum_by-without}
use Rattle.register.proofs.Order.{ordered_added, ordered_without, lookup-without_same}
use Rattle.register.proofs.Lookups.{lookup_key}
use Rattle.records.specs.declared.cost_line.CostLine.{CostLine}
use Rattle.records.specs.declared.cost_line.Entry.{Entry}
use Rattle.records.specs.declared.cost_line.Entry.TheVariants.{Expense, Credit, Shift}
use Rattle.records.specs.declared.pool.Pool.{Pool}
use Rattle.records.specs.declared.pool.Pool.TheVariants.{Composite, NonSlice, Slice, Tier2}
use Rattle.records.specs.Pools.{cost_of, credit_of}
use Rattle.book.specs.declared.figures.Posting.{Posting}
use Rattle.book.specs.declared.sides.Sides.{Sides}
use Rattle.book.specs.declared.refusal.Refusal.{Refusal}
use Rattle.book.specs.declared.refusal.Refusal.TheVariants.{Spoiled}
use Rattle.book.specs.declared.stages.OpenBook.{OpenBook}
use Rattle.book.specs.Sides.{side, no_sides, most_cents, cost, all_stay, posted_costs, posted_credits, struck_costs, struck_credits}
use Rattle.book.specs.Lines.{key, entry_in, new_line, post_asks, Posts, cost_line, strike_asks, Strikes}
use Rattle.runs.specs.History.{Event, posting, striking, refusal, among, drawn, lines_of, cost_by, expense_in, credit_in, expenses, credits}
use Rattle.runs.proofs.Asked.{accepted, denied}
use Rattle.runs.proofs.Pools.{side_posted_costs, side_posted_credits, side_struck_costs, side_struck_credits, all_stay_so, all_hold_so}

-- What a line has of the cost side, and of the credit side, of a pool.
abbrev pub cost_part : Pool → CostLine → ℕ
cost_part p l = cost_of l.entry p l.cents

abbrev pub credit_part : Pool → CostLine → ℕ
credit_part p l = credit_of l.entry p l.cents

-- A figure of the lines whose numbers are not struck later.
abbrev pub unless : List ℕ → (CostLine → ℕ) → CostLine → ℕ
unless struck f l = cond (among l.number struck) 0 (f l)

-- The sides are the sums over the lines that stand, and these are the lines of the history.
pub record LinesKept (es : List Event) (costs credits : Sides) (ls : List CostLine) : Type 0 where
  pub ordered : InOrder key ls
  pub costs_are : (p : Pool) → side costs p ≡ sum_by (cost_part p) ls
  pub credits_are : (p : Pool) → side credits p ≡ sum_by (credit_part p) ls
  pub within : (p : Pool) → (side costs p ≤ most_cents) × (side credits p ≤ most_cents)
  pub drawn_are : (f : CostLine → ℕ) (struck : List ℕ) → sum_by f (drawn struck es) ≡ sum_by (unless struck f) ls

pub none_kept : LinesKept [] no_sides no_sides []
none_kept = record { ordered = tt; costs_are = λ p. grind arith; credits_are = λ p. grind arith; within = λ p. (grind arith, grind arith); drawn_are = λ f struck. refl }

-- A posted line counts in the history as it does in the register.
drawn_posted : (f : CostLine → ℕ) (struck : List ℕ) (row : CostLine) (ds ls : List CostLine) → sum_by f ds ≡ sum_by (unless struck f) ls → sum_by f (cond (among row.number struck) ds (row ∷ ds)) ≡ sum_by (unless struck f) (added key row ls)
drawn_posted f struck row ds ls before =
    let more = sum_by-added key (unless struck f) row ls in
    let here = sum_by-cons f row ds in
    grind (arith, nat_tests)

-- A number that does not stand may be struck later.
unless_missing : (f : CostLine → ℕ) (struck : List ℕ) (n : ℕ) (ls : List CostLine) → lookup key n ls ≡ None → sum_by (unless (n ∷ struck) f) ls ≡ sum_by (unless struck f) ls
unless_missing f struck n [] none = refl
unless_missing f struck n (l ∷ ls) none =
    let ih = unless_missing f struck n ls in
    let here = sum_by-cons (unless (n ∷ struck) f) l ls in
    let same = sum_by-cons (unless struck f) l ls in
    grind (arith, nat_tests)

-- A line taken out counts no more.
drawn_struck : (f : CostLine → ℕ) (struck : List ℕ) (n : ℕ) (x : CostLine) (ls : List CostLine) → InOrder key ls → lookup key n ls ≡ Some x → sum_by (unless (n ∷ struck) f) ls ≡ sum_by (unless struck f) (without key n ls)
drawn_struck f struck n x ls o found =
    let less = sum_by-without key (unless (n ∷ struck) f) n x ls found in
    let rest = unless_missing f struck n (without key n ls) (lookup-without_same key n ls o) in
    let here = lookup_key key n x ls found in
    grind (arith, nat_tests)

-- A line more, or less, in the register and on the sides.
module _ {es : List Event} {costs credits : Sides} {ls : List CostLine} (kept : LinesKept es costs credits ls) where
  more_kept : (number : ℕ) (p : Posting) (cents : ℕ) (u : Unit {0}) → lookup key number ls ≡ None → all_stay costs credits (entry_in p) cents ≡ true → LinesKept (posting number p cents (Ok u) ∷ es) (posted_costs costs (entry_in p) cents) (posted_credits credits (entry_in p) cents) (added key (new_line number p cents) ls)
  more_kept number p cents u new fits =
      let e = entry_in p in
      let row = new_line number p cents in
      record {
        ordered = ordered_added key row ls new kept.ordered;
        costs_are = λ q. omega (arith, side_posted_costs costs q cents e, kept.costs_are q, sum_by-added key (cost_part q) row ls);
        credits_are = λ q. omega (arith, side_posted_credits credits q cents e, kept.credits_are q, sum_by-added key (credit_part q) row ls);
        within = λ q.
            let now = all_stay_so costs credits cents q e (kept.within q).0 (kept.within q).1 fits in
            (omega (arith, side_posted_costs costs q cents e), omega (arith, side_posted_credits credits q cents e));
        drawn_are = λ f struck. drawn_posted f struck row (drawn struck es) ls (kept.drawn_are f struck);
      }

  -- What a line that stands has of a side is on it.
  part_held : (x : CostLine) (n : ℕ) → lookup key n ls ≡ Some x → (p : Pool) → (cost_part p x ≤ side costs p) × (credit_part p x ≤ side credits p)
  part_held x n found p =
      (omega (arith, kept.costs_are p, sum_by-without key (cost_part p) n x ls found), omega (arith, kept.credits_are p, sum_by-without key (credit_part p) n x ls found))

  less_kept : (number : ℕ) (u : Unit {0}) (x : CostLine) → lookup key number ls ≡ Some x → LinesKept (striking number (Ok u) ∷ es) (struck_costs costs x.entry x.cents) (struck_credits credits x.entry x.cents) (without key number ls)
  less_kept number u x found =
      let e = x.entry in
      let n = x.cents in
      record {
        ordered = ordered_without key number ls kept.ordered;
        costs_are = λ q. omega (arith, side_struck_costs costs q n e, kept.costs_are q, sum_by-without key (cost_part q) number x ls found);
        credits_are = λ q. omega (arith, side_struck_credits credits q n e, kept.credits_are q, sum_by-without key (credit_part q) number x ls found);
        within = λ q.
            let w = kept.within q in
            (omega (arith, side_struck_costs costs q n e), omega (arith, side_struck_credits credits q n e));
        drawn_are = λ f struck. kept.drawn_are f (number ∷ struck) ∙ drawn_struck f struck number x ls kept.ordered found;
      }

-- Events that touch no line.
pub others_keep : {es es' : List Event} {costs credits : Sides} {ls : List CostLine} → ((struck : List ℕ) → drawn struck es' ≡ drawn struck es) → LinesKept es costs credits ls → LinesKept es' costs credits ls
others_keep same kept =
    record {
      ordered = kept.ordered;
      costs_are = kept.costs_are;
      credits_are = kept.credits_are;
      within = kept.within;
      drawn_are = λ f struck. ap (sum_by f) (same struck) ∙ kept.drawn_are f struck;
    }

-- A posting never answers 24.
pub post_unspoiled : {D : Type 0} {b b' : OpenBook D} {places : ℕ} {ls ls' : List CostLine} (number : ℕ) (p : Posting) (cents : ℕ) (r : Result (Unit {0}) Refusal) → Posts b places ls number p cents r b' ls' → refusal (posting number p cents r) ≡ Some Spoiled → ⊥
post_unspoiled number p cents (Ok u) s given = let z : ◌≡◌ {A = ℕ} 0 1 = cc in omega arith
post_unspoiled {b = b} {places = places} {ls = ls} number p cents (Err e) s given =
    let why = denied tt e (post_asks b places ls number p cents) s.answer in
    let z : ◌≡◌ {A = ℕ} 0 1 = grind arith in omega arith

module _ {D : Type 0} {b b' : OpenBook D} {es : List Event} {ls ls' : List CostLine} (kept : LinesKept es b.costs b.credits ls) where
  pub post_keeps : {places : ℕ} (number : ℕ) (p : Posting) (cents : ℕ) (r : Result (Unit {0}) Refusal) → Posts b places ls number p cents r b' ls' → LinesKept (posting number p cents r ∷ es) b'.costs b'.credits ls'
  post_keeps {places} number p cents (Ok u) s =
      let ok = accepted tt u (post_asks b places ls number p cents) s.answer in
      let new : lookup key number ls ≡ None = grind arith in
      let fits : all_stay b.costs b.credits (entry_in p) cents ≡ true = grind arith in
      rw (s.book, s.after) (more_kept kept number p cents u new fits)
  post_keeps number p cents (Err e) s = rw (s.book, s.after) (others_keep (λ struck. refl) kept)

  pub strike_keeps : (number : ℕ) (r : Result (Unit {0}) Refusal) → Strikes b ls number r b' ls' → LinesKept (striking number r ∷ es) b'.costs b'.credits ls'
  strike_keeps number (Ok u) s =
      let ok = accepted tt u (strike_asks b ls number) s.answer in
      let found : lookup key number ls ≡ Some (cost_line ls number) = grind arith in
      rw (s.book, s.after) (less_kept kept number u (cost_line ls number) found)
  strike_keeps number (Err e) s = rw (s.book, s.after) (others_keep (λ struck. refl) kept)

  -- Nor does a striking: the sides hold what the lines put on them.
  pub strike_unspoiled : (number : ℕ) (r : Result (Unit {0}) Refusal) → Strikes b ls number r b' ls' → refusal (striking number r) ≡ Some Spoiled → ⊥
  strike_unspoiled number (Ok u) s given = let z : ◌≡◌ {A = ℕ} 0 1 = cc in omega arith
  strike_unspoiled number (Err e) s given =
      let why = denied tt e (strike_asks b ls number) s.answer in
      let found : lookup key number ls ≡ Some (cost_line ls number) = grind arith in
      let x = cost_line ls number in
      let held = part_held kept x number found in
      let all = all_hold_so b.costs b.credits x.cents x.entry (λ p. (held p).0) (λ p. (held p).1) in
      let z : ◌≡◌ {A = ℕ} 0 1 = grind arith in omega arith

-- A figure of the history's lines adds up to that of the standing ones.
pub lines_are : {es : List Event} {costs credits : Sides} {ls : List CostLine} → LinesKept es costs credits ls → (f : CostLine → ℕ) → sum_by f (lines_of es) ≡ sum_by f ls
lines_are kept f = kept.drawn_are f []

-- A pool's cost by the sides is its cost by the history's lines.
pub cost_is : {es : List Event} {costs credits : Sides} {ls : List CostLine} → LinesKept es costs credits ls → (p : Pool) → cost costs credits p ≡ cost_by (lines_of es) p
cost_is kept p =
    let a = kept.costs_are p ∙ sym (lines_are kept (cost_part p)) in
    let b = kept.credits_are p ∙ sym (lines_are kept (credit_part p)) in
    rw (a, b)

-- Four figures that together are two others add up as these do.
four_sums : {X : Type 0} (f g h k a b : X → ℕ) → ((x : X) → f x + g x + h x + k x ≡ a x + b x) → (xs : List X) → sum_by f xs + sum_by g xs + sum_by h xs + sum_by k xs ≡ sum_by a xs + sum_by b xs
four_sums f g h k a b each [] = refl
four_sums f g h k a b each (x ∷ xs) =
    omega (arith, each x, four_sums f g h k a b each xs, sum_by-cons f x xs, sum_by-cons g x xs, sum_by-cons h x xs, sum_by-cons k x xs, sum_by-cons a x xs, sum_by-cons b x xs)

-- What a shift moves.
abbrev shift_in : Entry → ℕ → ℕ
shift_in (Expense p) n = 0
shift_in (Credit p) n = 0
shift_in (Shift p q) n = n

-- What a line adds to the four pools together.
entry_costs : (e : Entry) (n : ℕ) → cost_of e Composite n + cost_of e NonSlice n + cost_of e Slice n + cost_of e Tier2 n ≡ expense_in e n + shift_in e n
entry_costs e n = grind arith

entry_credits : (e : Entry) (n : ℕ) → credit_of e Composite n + credit_of e NonSlice n + credit_of e Slice n + credit_of e Tier2 n ≡ credit_in e n + shift_in e n
entry_credits e n = grind arith

four_costs : (c₀ c₁ c₂ c₃ d₀ d₁ d₂ d₃ expense credit shift : ℕ) → c₀ + c₁ + c₂ + c₃ ≡ expense + shift → d₀ + d₁ + d₂ + d₃ ≡ credit + shift → (pos c₀ -ℤ pos d₀) +ℤ (pos c₁ -ℤ pos d₁) +ℤ (pos c₂ -ℤ pos d₂) +ℤ (pos c₃ -ℤ pos d₃) ≡ pos expense -ℤ pos credit
four_costs c₀ c₁ c₂ c₃ d₀ d₁ d₂ d₃ expense credit shift h k = omega (arith, ints)

-- The four pools' costs together are the expenses less the credits: shifts cancel.
pub costs_together : (ls : List CostLine) → cost_by ls Composite +ℤ cost_by ls NonSlice +ℤ cost_by ls Slice +ℤ cost_by ls Tier2 ≡ pos (expenses ls) -ℤ pos (credits ls)
costs_together ls =
    let moved = λ (l : CostLine). shift_in l.entry l.cents in
    let spent = λ (l : CostLine). expense_in l.entry l.cents in
    let earned = λ (l : CostLine). credit_in l.entry l.cents in
    let cs = λ (p : Pool). sum_by (cost_part p) ls in
    let ds = λ (p : Pool). sum_by (credit_part p) ls in
    four_costs (cs Composite) (cs NonSlice) (cs Slice) (cs Tier2) (ds Composite) (ds NonSlice) (ds Slice) (ds Tier2) (expenses ls) (credits ls) (sum_by moved ls)
    (four_sums (cost_part Composite) (cost_part NonSlice) (cost_part Slice) (cost_part Tier2) spent moved (λ l. entry_costs l.entry l.cents) ls)
    (four_sums (credit_part Composite) (credit_part NonSlice) (credit_part Slice) (credit_part Tier2) earned moved (λ l. entry_credits l.entry l.cents) ls)
