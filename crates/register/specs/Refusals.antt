use Rattle.std.specs.Prelude.{ℕ}
use Rattle.register.specs.declared.refusal.Refusal.{Refusal}
use Rattle.register.specs.declared.refusal.Refusal.TheVariants.{Full, Taken, Missing}

-- The number of each refusal.
abbrev pub number : Refusal → ℕ
number Full = 20
number Taken = 21
number Missing = 25
