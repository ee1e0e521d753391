-- The figures that are drawn from a customer's record. A difference stops at 0.
use Rattle.std.specs.Prelude.{ℕ, ◌+◌, ◌-◌, min}
use Rattle.records.specs.declared.customer.Customer.{Customer}
use Rattle.records.specs.declared.pool.Pool.{Pool}
use Rattle.records.specs.declared.pool.Pool.TheVariants.{Composite, NonSlice, Slice, Tier2}

-- By these the founding total is divided.
abbrev pub founding_weight : Customer → ℕ
founding_weight c = c.measured - c.founding + c.conservation

abbrev pub net_requirement : Customer → ℕ
net_requirement c = c.retail - c.large - c.resources

abbrev pub tier1 : Customer → ℕ
tier1 c = min c.rhwm (net_requirement c)

abbrev pub above_rhwm : Customer → ℕ
above_rhwm c = net_requirement c - tier1 c

abbrev pub slice_part : Customer → ℕ
slice_part c = min c.slice (tier1 c)

-- By these a pool's cost is divided.
abbrev pub pool_weight : Pool → Customer → ℕ
pool_weight Composite c = tier1 c
pool_weight NonSlice c = tier1 c - slice_part c
pool_weight Slice c = slice_part c
pool_weight Tier2 c = min c.elected (above_rhwm c)
