-- What a division answers by a number, and what it leaves on the sheet.
use Rattle.std.specs.Prelude.{◌≡◌, ℕ, List, length, Some, None, Option}
use Rattle.divider.specs.declared.refusal.Refusal.{Refusal}
use Rattle.divider.specs.Questions.{number, asked}

-- 0 where no question fails, else the number of the first that does.
abbrev pub code : Option Refusal → ℕ
code None = 0
code (Some e) = number e

-- The shares where no question fails, else the sheet as it was.
abbrev pub sheet_after : Option Refusal → List ℕ → List ℕ → List ℕ
sheet_after None shares old = shares
sheet_after (Some _) shares old = old

-- The number and the sheet after a division that is to leave these shares.
abbrev pub Answered : ℕ → List ℕ → List ℕ → List ℕ → List ℕ → ℕ → Type 0
Answered total weights shares old new r =
    (r ≡ code (asked total weights (length old))) × (new ≡ sheet_after (asked total weights (length old)) shares old)
