-- What the sheet holds on the way to the shares.
use Rattle.std.specs.Prelude.{◌≡◌, ℕ, ◌+◌, ◌-◌, ◌*◌, ◌%◌, ◌≤◌, Bool, cond, ◌&&◌, leb, List, [], ◌∷◌, count_by, nat_le, nat_lt}
use Rattle.divider.specs.Shares.{whole, rest}

-- A weight's remainder and whole part in one number.
abbrev pub packed : ℕ → ℕ → ℕ → ℕ → ℕ
packed total all unit weight = rest total all weight * unit + whole total all weight

-- How many packed remainders are at least a.
abbrev pub reached : ℕ → ℕ → List ℕ → ℕ
reached unit a sheet = count_by (λ x. leb (a * unit) x) sheet

-- Whether a packed number is at the level: at it or above by less than a unit.
abbrev pub at_level : ℕ → ℕ → ℕ → Bool
at_level unit level x = nat_le level x && nat_lt x (level + unit)

-- The packed numbers, of which the first spare ones at the level are raised by a unit.
abbrev pub raised : ℕ → ℕ → ℕ → List ℕ → List ℕ
raised unit level spare [] = []
raised unit level spare (x ∷ xs) =
    (x + cond (at_level unit level x && nat_lt 0 spare) unit 0) ∷ raised unit level (spare - cond (at_level unit level x) 1 0) xs

-- The share of a packed number: its whole part, and one more where the number is at least above.
abbrev pub share_of : ℕ → ℕ → ℕ → ℕ
share_of unit above x = x % unit + cond (nat_le above x) 1 0

-- The mark at which the units that are left run out: all above it are served, and the spare ones at it.
pub record Divides (unit : ℕ) (sheet : List ℕ) (left mark spare : ℕ) : Type 0 where
  pub enough : left ≤ reached unit mark sheet
  pub served : reached unit (mark + 1) sheet ≤ left
  pub remains : spare ≡ left - reached unit (mark + 1) sheet
