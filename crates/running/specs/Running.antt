-- The shares by running sums.
use Rattle.std.specs.Prelude.{ℕ, ◌+◌, ◌-◌, List, [], ◌∷◌, sum}
use Rattle.divider.specs.Shares.{whole}

-- The shares of these weights, where those before them add up to before.
abbrev pub running_from : ℕ → ℕ → ℕ → List ℕ → List ℕ
running_from total all before [] = []
running_from total all before (w ∷ ws) =
    (whole total all (before + w) - whole total all before) ∷ running_from total all (before + w) ws

abbrev pub by_running : ℕ → List ℕ → List ℕ
by_running total weights = running_from total (sum weights) 0 weights
