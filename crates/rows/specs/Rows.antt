-- Rows of text.
use Rattle.std.specs.Prelude.{◌≡◌, ℕ, cond, List, [], ◌∷◌, ◌++◌, map, length, drop, Some, None, decimal, Option, ◌==◌, encode_utf8, nat_le, nat_lt}
use Rattle.std.specs.Borrow.{Bor}
use Rattle.rows.specs.declared.field.Field.{Field}
use Rattle.rows.specs.declared.field.Field.TheVariants.{Text, Letter, Figure, Minus}

-- Parts, with some bytes before the first.
abbrev pub before : List ℕ → List (List ℕ) → List (List ℕ)
before bs [] = bs ∷ []
before bs (p ∷ ps) = (bs ++ p) ∷ ps

-- The parts of some bytes: a separator ends one part and begins the next.
abbrev pub parted : ℕ → List ℕ → List (List ℕ)
parted s [] = [] ∷ []
parted s (b ∷ bs) = cond (b == s) ([] ∷ parted s bs) (before (b ∷ []) (parted s bs))

-- The parts of what stands after a separator, if one stood there.
abbrev pub parts_after : ℕ → Option (Bor (List ℕ)) → List (List ℕ)
parts_after s None = []
parts_after s (Some bytes) = parted s bytes.now

-- A first part, and the parts of what stands after it.
abbrev pub all_parts : ℕ → Bor (List ℕ) × Option (Bor (List ℕ)) → List (List ℕ)
all_parts s r = r.0.now ∷ parts_after s r.1

-- What stands before the field at a place: a comma, but nothing before the first.
abbrev pub comma : ℕ → List ℕ
comma i = cond (nat_lt 0 i) (44 ∷ []) []

-- Fields that stand after another: each with a comma before it.
abbrev pub trailing : List (List ℕ) → List ℕ
trailing [] = []
trailing (f ∷ fs) = 44 ∷ (f ++ trailing fs)

-- Fields with commas between them.
abbrev pub joined : List (List ℕ) → List ℕ
joined [] = []
joined (f ∷ fs) = f ++ trailing fs

-- The bytes of a field.
abbrev pub spelled : Field → List ℕ
spelled (Text bytes) = bytes.now
spelled (Letter c) = encode_utf8 c
spelled (Figure n) = decimal n
spelled (Minus n) = 45 ∷ decimal n

-- The bytes of a row: its fields, and what ends it.
abbrev pub row : List Field → List ℕ → List ℕ
row fields end = joined (map spelled fields) ++ end

-- Bytes over the front of a buffer.
abbrev pub over : List ℕ → List ℕ → List ℕ
over bytes buffer = bytes ++ drop (length bytes) buffer

-- Bytes are written at the front of a buffer that holds them; another stays as it was.
pub record Writes (bytes buffer : List ℕ) (r : Option ℕ) (buffer' : List ℕ) : Type 0 where
  pub answer : r ≡ cond (nat_le (length bytes) (length buffer)) (Some (length bytes)) None
  pub after : buffer' ≡ cond (nat_le (length bytes) (length buffer)) (bytes ++ drop (length bytes) buffer) buffer
