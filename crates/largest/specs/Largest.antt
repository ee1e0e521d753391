-- The shares by largest remainder.
use Rattle.std.specs.Prelude.{ℕ, ◌+◌, ◌-◌, cond, List, map, length, take, sum_by, sum, count_by, nat_eq, nat_lt, slice_index}
use Rattle.std.specs.List.{range_with_len}
use Rattle.divider.specs.Shares.{whole, rest}

-- What the whole parts leave of the total.
abbrev pub left_over : ℕ → ℕ → List ℕ → ℕ
left_over total all weights = total - sum_by (whole total all) weights

-- How many remainders are above a number, and how many equal it.
abbrev pub above : ℕ → ℕ → ℕ → List ℕ → ℕ
above total all a weights = count_by (λ w. nat_lt a (rest total all w)) weights

abbrev pub level : ℕ → ℕ → ℕ → List ℕ → ℕ
level total all a weights = count_by (λ w. nat_eq (rest total all w) a) weights

-- How many places go before a place: those with a larger remainder, and the earlier ones with the same.
abbrev pub ahead : ℕ → ℕ → List ℕ → ℕ → ℕ
ahead total all weights place =
    above total all (rest total all (slice_index weights place)) weights
    + level total all (rest total all (slice_index weights place)) (take place weights)

-- One more than the whole part where fewer places go before than there are units left over.
abbrev pub share : ℕ → ℕ → List ℕ → ℕ → ℕ
share total all weights place =
    whole total all (slice_index weights place) + cond (nat_lt (ahead total all weights place) (left_over total all weights)) 1 0

abbrev pub by_remainders : ℕ → List ℕ → List ℕ
by_remainders total weights = map (share total (sum weights) weights) (range_with_len 0 (length weights))
