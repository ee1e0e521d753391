-- The sides of the pools, and what a cost line does to them.
use Rattle.std.specs.Prelude.{ℕ, ◌+◌, ◌-◌, Bool, cond, ◌&&◌, ℤ, pos, ◌-ℤ◌, Some, None, Option, option_map, ◌==◌, nat_le}
use Rattle.records.specs.declared.pool.Pool.{Pool}
use Rattle.records.specs.declared.pool.Pool.TheVariants.{Composite, NonSlice, Slice, Tier2}
use Rattle.records.specs.declared.cost_line.Entry.{Entry}
use Rattle.records.specs.declared.cost_line.Entry.TheVariants as entry
use Rattle.records.specs.Pools.{pool_of, order, cost_of, credit_of}
use Rattle.book.specs.declared.sides.Sides.{Sides}
use Rattle.book.specs.declared.figures.Posting.{Posting}
use Rattle.book.specs.declared.figures.Posting.TheVariants.{Expense, Credit, Shift}

abbrev pub side : Sides → Pool → ℕ
side s Composite = s.composite
side s NonSlice = s.nonslice
side s Slice = s.slice
side s Tier2 = s.tier2

abbrev pub no_sides : Sides
no_sides = record { composite = 0; nonslice = 0; slice = 0; tier2 = 0 }

-- With an amount in one pool; with an amount more there, or less.
abbrev pub with_side : Sides → Pool → ℕ → Sides
with_side s Composite n = record s { composite = n }
with_side s NonSlice n = record s { nonslice = n }
with_side s Slice n = record s { slice = n }
with_side s Tier2 n = record s { tier2 = n }

abbrev pub raised : Sides → Pool → ℕ → Sides
raised s p n = with_side s p (side s p + n)

abbrev pub lowered : Sides → Pool → ℕ → Sides
lowered s p n = with_side s p (side s p - n)

-- The cost sides, and the credit sides, once a line of so many cents is posted.
abbrev pub posted_costs : Sides → Entry → ℕ → Sides
posted_costs s (entry.Expense p) n = raised s p n
posted_costs s (entry.Credit p) n = s
posted_costs s (entry.Shift p q) n = raised s p n

abbrev pub posted_credits : Sides → Entry → ℕ → Sides
posted_credits s (entry.Expense p) n = s
posted_credits s (entry.Credit p) n = raised s p n
posted_credits s (entry.Shift p q) n = raised s q n

-- The same once it is struck.
abbrev pub struck_costs : Sides → Entry → ℕ → Sides
struck_costs s (entry.Expense p) n = lowered s p n
struck_costs s (entry.Credit p) n = s
struck_costs s (entry.Shift p q) n = lowered s p n

abbrev pub struck_credits : Sides → Entry → ℕ → Sides
struck_credits s (entry.Expense p) n = s
struck_credits s (entry.Credit p) n = lowered s p n
struck_credits s (entry.Shift p q) n = lowered s q n

-- The most cents on a side of a pool.
abbrev pub most_cents : ℕ
most_cents = 400000000000

-- Whether both sides of a pool stay within the most cents once a line is posted.
abbrev pub stays : Sides → Sides → Entry → ℕ → Pool → Bool
stays costs credits e n p =
    nat_le (side costs p + cost_of e p n) most_cents && nat_le (side credits p + credit_of e p n) most_cents

-- The same of each pool that the line touches.
abbrev pub all_stay : Sides → Sides → Entry → ℕ → Bool
all_stay costs credits (entry.Expense p) n = stays costs credits (entry.Expense p) n p
all_stay costs credits (entry.Credit p) n = stays costs credits (entry.Credit p) n p
all_stay costs credits (entry.Shift p q) n =
    stays costs credits (entry.Shift p q) n p && stays costs credits (entry.Shift p q) n q

-- Whether the sides that a line raised hold its cents.
abbrev pub all_hold : Sides → Sides → Entry → ℕ → Bool
all_hold costs credits (entry.Expense p) n = nat_le n (side costs p)
all_hold costs credits (entry.Credit p) n = nat_le n (side credits p)
all_hold costs credits (entry.Shift p q) n = nat_le n (side costs p) && nat_le n (side credits q)

-- A pool's cost: its cost side less its credit side.
abbrev pub cost : Sides → Sides → Pool → ℤ
cost costs credits p = pos (side costs p) -ℤ pos (side credits p)

-- A shift between two pools, where both are known and unlike.
abbrev pub paired : Option Pool → Option Pool → Option Entry
paired None q = None
paired (Some p) None = None
paired (Some p) (Some q) = cond (order p == order q) None (Some (entry.Shift p q))

abbrev pub entry_of : Posting → Option Entry
entry_of (Expense p) = option_map entry.Expense (pool_of p)
entry_of (Credit p) = option_map entry.Credit (pool_of p)
entry_of (Shift p q) = paired (pool_of p) (pool_of q)
