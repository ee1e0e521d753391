-- Pools by their letters, and which sides of them a cost line raises.
use Rattle.std.specs.Prelude.{ℕ, cond, Some, None, Option, ◌==◌}
use Rattle.records.specs.declared.pool.Pool.{Pool}
use Rattle.records.specs.declared.pool.Pool.TheVariants.{Composite, NonSlice, Slice, Tier2}
use Rattle.records.specs.declared.cost_line.Entry.{Entry}
use Rattle.records.specs.declared.cost_line.Entry.TheVariants.{Expense, Credit, Shift}

-- The pool of a letter, C, N, S or T.
abbrev pub pool_of : ℕ → Option Pool
pool_of letter =
    cond (letter == 67) (Some Composite) (cond (letter == 78) (Some NonSlice) (cond (letter == 83) (Some Slice) (cond (letter == 84) (Some Tier2) None)))

-- The place of a pool in the order C, N, S, T.
abbrev pub order : Pool → ℕ
order Composite = 0
order NonSlice = 1
order Slice = 2
order Tier2 = 3

-- n where the two pools are the same, else 0.
abbrev pub where_same : Pool → Pool → ℕ → ℕ
where_same p q n = cond (order p == order q) n 0

-- What an amount of a cost line adds to the cost side, and to the credit side, of a pool.
abbrev pub cost_of : Entry → Pool → ℕ → ℕ
cost_of (Expense p) pool n = where_same p pool n
cost_of (Credit p) pool n = 0
cost_of (Shift p q) pool n = where_same p pool n

abbrev pub credit_of : Entry → Pool → ℕ → ℕ
credit_of (Expense p) pool n = 0
credit_of (Credit p) pool n = where_same p pool n
credit_of (Shift p q) pool n = where_same q pool n
