-- What it says that no question fails.
use Rattle.std.proofs.Common.{◌≡◌, ℕ, List, None, arith}
use Rattle.std.proofs.lemmas.Bool.Decides.{nat_tests}
use Rattle.divider.specs.Questions.{Passes, asked}

pub passed : (t : ℕ) (ws : List ℕ) (n : ℕ) → asked t ws n ≡ None → Passes t ws
passed t ws n e = record { some = grind (arith, nat_tests); small = grind (arith, nat_tests); fits = grind (arith, nat_tests) }
