-- The sides of the pools as cost lines raise and lower them.
use Rattle.std.proofs.Common.{◌≡◌, ℕ, ◌+◌, ◌-◌, ◌≤◌, true, cond, leb, ◌⊎◌, refl, ap, subst, inl, inr, ⊎_elim, arith}
use Rattle.std.proofs.lemmas.Bool.{cases_eq, ne_eqb, eq-eqb, and_parts, and_from, leb-true, le-leb}
use Rattle.records.specs.declared.pool.Pool.{Pool}
use Rattle.records.specs.declared.cost_line.Entry.{Entry}
use Rattle.records.specs.declared.cost_line.Entry.TheVariants.{Expense, Credit, Shift}
use Rattle.records.specs.Pools.{order, where_same, cost_of, credit_of}
use Rattle.book.specs.declared.sides.Sides.{Sides}
use Rattle.book.specs.Sides.{side, raised, lowered, posted_costs, posted_credits, struck_costs, struck_credits, most_cents, stays, all_stay, all_hold}

-- Pools with one place are one pool.
pub same_pool : (p q : Pool) → order p ≡ order q → p ≡ q
same_pool p q e = grind arith

-- Two pools are one, or an amount of the first is none of the second.
pub cases_pool : (p q : Pool) → (p ≡ q) ⊎ ((n : ℕ) → where_same p q n ≡ 0)
cases_pool p q =
    ⊎_elim (λ e. inl (same_pool p q e)) (λ ne. inr (λ n. ap (λ t. cond t n 0) (ne_eqb (order p) (order q) ne))) (cases_eq (order p) (order q))

pub whole_same : (p : Pool) (n : ℕ) → where_same p p n ≡ n
whole_same p n = ap (λ t. cond t n 0) (eq-eqb (order p) (order p) refl)

-- One pool's side is raised, and no other.
pub side_raised : (s : Sides) (p q : Pool) (n : ℕ) → side (raised s p n) q ≡ side s q + where_same p q n
side_raised s p q n = grind arith

pub side_lowered : (s : Sides) (p q : Pool) (n : ℕ) → side (lowered s p n) q ≡ side s q - where_same p q n
side_lowered s p q n = grind arith

-- A posted line adds to each side what it holds of it, and a struck one takes that off.
module _ (s : Sides) (q : Pool) (n : ℕ) where
  pub side_posted_costs : (e : Entry) → side (posted_costs s e n) q ≡ side s q + cost_of e q n
  side_posted_costs (Expense p) = side_raised s p q n
  side_posted_costs (Credit p) = omega arith
  side_posted_costs (Shift p r) = side_raised s p q n

  pub side_posted_credits : (e : Entry) → side (posted_credits s e n) q ≡ side s q + credit_of e q n
  side_posted_credits (Expense p) = omega arith
  side_posted_credits (Credit p) = side_raised s p q n
  side_posted_credits (Shift p r) = side_raised s r q n

  pub side_struck_costs : (e : Entry) → side (struck_costs s e n) q ≡ side s q - cost_of e q n
  side_struck_costs (Expense p) = side_lowered s p q n
  side_struck_costs (Credit p) = omega arith
  side_struck_costs (Shift p r) = side_lowered s p q n

  pub side_struck_credits : (e : Entry) → side (struck_credits s e n) q ≡ side s q - credit_of e q n
  side_struck_credits (Expense p) = omega arith
  side_struck_credits (Credit p) = side_lowered s p q n
  side_struck_credits (Shift p r) = side_lowered s r q n

-- Both sides of a pool with a line more are within the limit.
abbrev pub Stays : Sides → Sides → Entry → ℕ → Pool → Type 0
Stays costs credits e n q =
    (side costs q + cost_of e q n ≤ most_cents) × (side credits q + credit_of e q n ≤ most_cents)

module _ (costs credits : Sides) (n : ℕ) (q : Pool) where
  stays_so : (e : Entry) (p : Pool) → stays costs credits e n p ≡ true → p ≡ q → Stays costs credits e n q
  stays_so e p ok same =
      let parts = and_parts (leb (side costs p + cost_of e p n) most_cents) (leb (side credits p + credit_of e p n) most_cents) ok in
      subst (Stays costs credits e n) same (leb-true (side costs p + cost_of e p n) most_cents parts.0, leb-true (side credits p + credit_of e p n) most_cents parts.1)

  -- Where the pools that a line touches stay within it, all do.
  pub all_stay_so : (e : Entry) → side costs q ≤ most_cents → side credits q ≤ most_cents → all_stay costs credits e n ≡ true → Stays costs credits e n q
  all_stay_so (Expense p) c d ok =
      ⊎_elim (stays_so (Expense p) p ok) (λ none. (omega (arith, none n), omega arith)) (cases_pool p q)
  all_stay_so (Credit p) c d ok =
      ⊎_elim (stays_so (Credit p) p ok) (λ none. (omega arith, omega (arith, none n))) (cases_pool p q)
  all_stay_so (Shift p r) c d ok =
      let parts = and_parts (stays costs credits (Shift p r) n p) (stays costs credits (Shift p r) n r) ok in
      ⊎_elim (stays_so (Shift p r) p parts.0)
      (λ none. ⊎_elim (stays_so (Shift p r) r parts.1) (λ none_too. (omega (arith, none n), omega (arith, none_too n))) (cases_pool r q))
      (cases_pool p q)

-- Where each side holds what a line has of it, the line can be struck.
pub all_hold_so : (costs credits : Sides) (n : ℕ) (e : Entry) → ((p : Pool) → cost_of e p n ≤ side costs p) → ((p : Pool) → credit_of e p n ≤ side credits p) → all_hold costs credits e n ≡ true
all_hold_so costs credits n (Expense p) c d = le-leb n (side costs p) (rw whole_same at (c p))
all_hold_so costs credits n (Credit p) c d = le-leb n (side credits p) (rw whole_same at (d p))
all_hold_so costs credits n (Shift p q) c d =
    and_from (leb n (side costs p)) (leb n (side credits q)) (le-leb n (side costs p) (rw whole_same at (c p))) (le-leb n (side credits q) (rw whole_same at (d q)))
