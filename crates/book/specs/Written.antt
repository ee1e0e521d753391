-- Shares written into the records of customers.
use Rattle.std.specs.Prelude.{◌≡◌, ℕ, ◌^◌, ◌<◌, List, [], ◌∷◌}
use Rattle.records.specs.declared.customer.Customer.{Customer}

-- Each record with the share at its place written into it, where `becomes` says what it may become.
abbrev pub Written : (Customer → ℕ → Customer → Type 0) → List ℕ → List Customer → List Customer → Type 0
Written becomes shares [] new = new ≡ []
Written becomes [] (c ∷ cs) new = new ≡ c ∷ cs
Written becomes (s ∷ shares) (c ∷ cs) [] = ⊥
Written becomes (s ∷ shares) (c ∷ cs) (d ∷ new) = becomes c s d × Written becomes shares cs new

-- A record keeps its number, whatever share is written into it.
abbrev pub KeepsNumber : (Customer → ℕ → Customer → Type 0) → Customer → Type 0
KeepsNumber becomes c = (s : ℕ) (d : Customer) → s < 2 ^ 32 → becomes c s d → d.number ≡ c.number
