-- What is written, where not all of it may be.
use Rattle.std.specs.Prelude.{ℕ, List, take, Option}
use Rattle.std.specs.Io.KnownBytes.{Appends}

-- Known bytes grow by the front of some bytes: by none of them, by some or by all.
abbrev pub AppendsFront : Option (List ℕ) → Option (List ℕ) → List ℕ → Type 0
AppendsFront held held' bytes = (n : ℕ) × Appends held held' (take n bytes)
