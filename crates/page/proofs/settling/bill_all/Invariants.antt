use Rattle.std.proofs.Common.{[], ◌∷◌, drop, ℤ, List, Result}
use Rattle.register.specs.Register.{records}
use Rattle.book.specs.declared.refusal.Refusal.{Refusal}
use Rattle.page.specs.Pages.{BillsAll}
use Rattle.page.proofs.settling.bill_all.Given as goal

-- What billing the letters left comes to, billing all comes to.
abbrev pub invariant-loop-letter : goal.invariant-loop-letter
invariant-loop-letter g l =
    (r : Result (Unit {0}) Refusal) (ch : List ℤ) → BillsAll g.D.Divider.meaning l.book (records l.customers) (drop l.letter-index (67 ∷ 78 ∷ 83 ∷ 84 ∷ [])) l.charges r ch → BillsAll g.D.Divider.meaning l.book (records l.customers) (67 ∷ 78 ∷ 83 ∷ 84 ∷ []) l.initial.charges r ch
