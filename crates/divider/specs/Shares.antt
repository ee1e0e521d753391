-- The exact share of a weight, and the laws that the shares of every divider keep.
use Rattle.std.specs.Prelude.{◌≡◌, ℕ, ◌+◌, ◌*◌, ◌/◌, ◌%◌, ◌<◌, ◌⊎◌, List, length, sum, slice_index}

-- The whole part of total * weight / all, where all is the sum of the weights, and its remainder.
abbrev pub whole : ℕ → ℕ → ℕ → ℕ
whole total all weight = total * weight / all

abbrev pub rest : ℕ → ℕ → ℕ → ℕ
rest total all weight = total * weight % all

-- A share is the whole part, or one more where there is a remainder.
abbrev pub Near : ℕ → ℕ → ℕ → ℕ → Type 0
Near total all weight share =
    (share ≡ whole total all weight) ⊎ ((share ≡ whole total all weight + 1) × (0 < rest total all weight))

-- One share for each weight; they add up to the total, and each is near its exact share.
pub record Fair (total : ℕ) (weights shares : List ℕ) : Type 0 where
  pub len : length shares ≡ length weights
  pub adds_up : sum shares ≡ total
  pub near : (k : ℕ) → k < length weights → Near total (sum weights) (slice_index weights k) (slice_index shares k)
