use Rattle.std.proofs.Common.{◌≡◌, ℕ, ◌≤◌, true, List, sym, subst, arith}
use Rattle.std.proofs.lemmas.Bool.Decides.{nat_tests}
use Rattle.std.proofs.lemmas.Result.{err_from_is_err_and}
use Rattle.units.specs.Ranges.{in_range}
use Rattle.units.specs.declared.ranges.Letter.TheVariants.{Grant}
use Rattle.records.specs.declared.customer.Customer.{Customer}
use Rattle.book.specs.Marks.{Lifts, Lands}
use Rattle.worked_book.specs.InTurn.{Answer, Then, refused, accepted}
use Rattle.worked_book.specs.Calls.{Ranged, Transfers}
use Rattle.worked_book.proofs.Growing.{kept_grown, landing_grows}
use Rattle.worked_book.proofs.transfer.Goals as goal

ranged : (n : ℕ) → n ≤ 20050000 → in_range Grant 3 n ≡ true
ranged n le = grind (arith, nat_tests)

transfers : (cs : List Customer) (giver receiver n load : ℕ) (r : Answer) (cs' : List Customer) → ((0 ≤ n) × (n ≤ 20050000)) × (load ≡ n) → Then (Lifts cs giver load) (λ p lifted. Lands lifted p receiver) r cs' → Transfers giver receiver n cs r cs'
transfers cs giver receiver n load r cs' is t =
    subst (λ b. Ranged b (λ ds. Then (Lifts ds giver n) (λ p lifted. Lands lifted p receiver)) cs r cs') (sym (ranged n is.0.1)) (subst (λ k. Then (Lifts cs giver k) (λ p lifted. Lands lifted p receiver) r cs') is.1 t)

pub returns-in_err-parcel-clause-done : goal.returns-in_err-parcel-clause-done
returns-in_err-parcel-clause-done c =
    let p = err_from_is_err_and c.from_residual-in_err-parcel.result c.from_residual-in_err-parcel.ensures.1 in
    rw (p.1, p.2) (transfers _ _ _ _ _ _ _ c.in_ok-new.ensures (refused c.in_err-parcel.ensures.done))

pub returns-clause-done : goal.returns-clause-done
returns-clause-done c = transfers _ _ _ _ _ _ _ c.in_ok-new.ensures (accepted c.in_ok-parcel.ensures.done c.land.ensures.done)

pub returns-clause-kept : goal.returns-clause-kept
returns-clause-kept c = kept_grown _ _ _ (landing_grows _ _ _ _ _ c.land.ensures.done) c.lift.ensures.kept c.land.ensures.kept
