-- Lines that are left, one after the other.
use Rattle.std.specs.Prelude.{◌≡◌, ℕ, ◌+◌, List, ◌∷◌}
use Rattle.std.specs.Borrow.{Bor}

-- The first of some lines from the n-th on, with its number, and those after it.
pub record FirstOf (n : ℕ) (lines : List (List ℕ)) (first : ℕ × Bor (List ℕ)) (n' : ℕ) (lines' : List (List ℕ)) : Type 0 where
  pub number : first.0 ≡ n
  pub next : n' ≡ n + 1
  pub parts : lines ≡ first.1.now ∷ lines'
