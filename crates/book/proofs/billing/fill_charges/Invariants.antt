use Rattle.std.proofs.Common.{◌≡◌, ℕ, ◌<◌, get_or, pos, ◌-ℤ◌}
use Rattle.book.specs.Rates.{like}
use Rattle.book.proofs.billing.fill_charges.Given as goal

abbrev pub invariant-loop-i : goal.invariant-loop-i
invariant-loop-i l = (k : ℕ) → k < l.i → get_or l.part k (pos 0) ≡ like (pos l.costs -ℤ pos l.credits) (get_or l.shares k 0)
