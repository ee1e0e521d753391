-- One call after the other, as a loop over a list makes them.
use Rattle.std.proofs.Common.{ℕ, ◌+◌, ◌<◌, ◌≤◌, List, length, get_or, drop, Ok, Err, refl}
use Rattle.std.proofs.lemmas.List.{drop_more, drop_all}
use Rattle.book.specs.declared.refusal.Refusal.{Refusal}
use Rattle.worked_book.specs.InTurn.{Answer, refused, accepted, InTurn}

module _ {X S : Type 0} (Call : X → S → Answer → S → Type 0) (xs : List X) (i : ℕ) where
  -- the call at a place, and those after it
  pub goes_on : (d : X) (s s' s'' : S) (r : Answer) → i < length xs → Call (get_or xs i d) s (Ok tt) s' → InTurn Call (drop (i + 1) xs) s' r s'' → InTurn Call (drop i xs) s r s''
  unfolding InTurn
  goes_on d s s' s'' r lt call others = rw (drop_more xs i d lt) (accepted call others)

  -- the call at a place is refused
  pub stops : (d : X) (s s' : S) (e : Refusal) → i < length xs → Call (get_or xs i d) s (Err e) s' → InTurn Call (drop i xs) s (Err e) s'
  unfolding InTurn
  stops d s s' e lt call = rw (drop_more xs i d lt) (refused call)

  -- no call is left
  pub ends : (s : S) → length xs ≤ i → InTurn Call (drop i xs) s (Ok tt) s
  unfolding InTurn
  ends s le = rw (drop_all i xs le) (refl, refl)
