-- Shares written into records, one after the other.
use Rattle.std.proofs.Common.{◌≡◌, ℕ, zero, suc, ◌+◌, ◌<◌, List, [], ◌∷◌, length, get_or, take, set, refl, ap, add-one, arith}
use Rattle.records.specs.declared.customer.Customer.{Customer}
use Rattle.book.specs.Customers.{nobody, with_shares}
use Rattle.book.specs.Written.{Written}

pub length_with : (w : Customer → ℕ → Customer) (ss : List ℕ) (cs : List Customer) → length (with_shares w ss cs) ≡ length cs
length_with w ss [] = refl
length_with w [] (c ∷ cs) = refl
length_with w (s ∷ ss) (c ∷ cs) = ap suc (length_with w ss cs)

module _ (becomes : Customer → ℕ → Customer → Type 0) where
  pub written_none : (cs : List Customer) → Written becomes [] cs cs
  written_none [] = refl
  written_none (c ∷ cs) = refl

  pub length_written : (ss : List ℕ) (cs new : List Customer) → Written becomes ss cs new → length new ≡ length cs
  length_written ss [] new w = ap length w
  length_written [] (c ∷ cs) new w = ap length w
  length_written (s ∷ ss) (c ∷ cs) [] w = absurd w
  length_written (s ∷ ss) (c ∷ cs) (d ∷ new) w = ap suc (length_written ss cs new w.1)

  -- what is still to be written stands as it was
  pub written_ahead : (ss : List ℕ) (cs new : List Customer) (i : ℕ) → Written becomes (take i ss) cs new → get_or new i nobody ≡ get_or cs i nobody
  written_ahead ss [] new i w = rw w refl
  written_ahead [] (c ∷ cs) new zero w = rw w refl
  written_ahead [] (c ∷ cs) new (suc i) w = rw w refl
  written_ahead (s ∷ ss) (c ∷ cs) new zero w = rw w refl
  written_ahead (s ∷ ss) (c ∷ cs) [] (suc i) w = absurd w
  written_ahead (s ∷ ss) (c ∷ cs) (d ∷ new) (suc i) w = written_ahead ss cs new i w.1

  written_next : (ss : List ℕ) (cs new : List Customer) (i : ℕ) (row : Customer) → i < length ss → i < length cs → Written becomes (take i ss) cs new → becomes (get_or cs i nobody) (get_or ss i 0) row → Written becomes (take (suc i) ss) cs (set new i row)
  written_next ss [] new i row h k w r = absurd (omega arith)
  written_next [] (c ∷ cs) new i row h k w r = absurd (omega arith)
  written_next (s ∷ ss) (c ∷ cs) new zero row h k w r = rw w (r, written_none cs)
  written_next (s ∷ ss) (c ∷ cs) [] (suc i) row h k w r = absurd w
  written_next (s ∷ ss) (c ∷ cs) (d ∷ new) (suc i) row h k w r = (w.0, written_next ss cs new i row (omega arith) (omega arith) w.1 r)

  pub written_more : (ss : List ℕ) (cs new : List Customer) (i : ℕ) (row : Customer) → i < length ss → i < length cs → Written becomes (take i ss) cs new → becomes (get_or cs i nobody) (get_or ss i 0) row → Written becomes (take (i + 1) ss) cs (set new i row)
  written_more ss cs new i row h k w r = rw (add-one i) (written_next ss cs new i row h k w r)

  -- where a record can only become f of it and its share, it does
  pub written_is : (f : Customer → ℕ → Customer) → ((c : Customer) (s : ℕ) (d : Customer) → becomes c s d → d ≡ f c s) → (ss : List ℕ) (cs new : List Customer) → Written becomes ss cs new → new ≡ with_shares f ss cs
  written_is f are ss [] new w = w
  written_is f are [] (c ∷ cs) new w = w
  written_is f are (s ∷ ss) (c ∷ cs) [] w = absurd w
  written_is f are (s ∷ ss) (c ∷ cs) (d ∷ new) w = rw (are c s d w.0, written_is f are ss cs new w.1) refl
