-- Calls one after the other, each made only where the one before it was accepted.
-- A call goes from one state to the next: `Call s r s'` says that from s it returns r and leaves s'.
use Rattle.std.specs.Prelude.{◌≡◌, List, [], ◌∷◌, Ok, Err, Result}
use Rattle.book.specs.declared.refusal.Refusal.{Refusal}

abbrev pub Answer : Type 0
Answer = Result (Unit {0}) Refusal

-- A call, and where it is accepted the next one, with what the first returned; the refusal of either is that of both.
pub data Then {X S : Type 0} (First : Result X Refusal → S → Type 0) (Next : X → S → Answer → S → Type 0)
    : Answer → S → Type 0 where
  refused : {e : Refusal} {s : S} → First (Err e) s → Then First Next (Err e) s
  accepted : {x : X} {r : Answer} {s s' : S} → First (Ok x) s → Next x s r s' → Then First Next r s'

-- A call for each of a list, up to the first that is refused.
unfoldable pub InTurn : {X S : Type 0} → (X → S → Answer → S → Type 0) → List X → S → Answer → S → Type 0
InTurn Call [] s r s' = (r ≡ Ok tt) × (s' ≡ s)
InTurn Call (x ∷ xs) s r s' = Then (Call x s) (λ _. InTurn Call xs) r s'
