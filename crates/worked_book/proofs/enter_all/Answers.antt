use Rattle.std.proofs.Common.{◌+◌, drop, subst}
use Rattle.std.proofs.lemmas.Result.{err_from_is_err_and}
use Rattle.register.specs.Register.{records}
use Rattle.worked_book.specs.declared.TheConstants.{FIGURES}
use Rattle.worked_book.specs.Calls.{EntersAll}
use Rattle.worked_book.proofs.Growing.{room_kept, kept_grown, entering_grows}
use Rattle.worked_book.proofs.Turns.{goes_on, stops, ends}
use Rattle.worked_book.proofs.enter_all.Goals as goal

pub returns-in_err-enter-clause-done : goal.returns-in_err-enter-clause-done
returns-in_err-enter-clause-done c =
    let p = err_from_is_err_and c.from_residual.result c.from_residual.ensures.1 in
    rw (p.1, p.2) (c.loop-figures.invariant.turn _ _ (stops _ _ _ _ _ _ _ c.loop-figures-test.true c.in_err-enter.ensures.done))

pub loop-figures-preserved : goal.loop-figures-preserved
loop-figures-preserved c =
    let l = c.loop-figures in
    record {
      turn = λ r cs p. l.invariant.turn r cs (goes_on _ _ _ _ _ _ _ _ c.loop-figures-test.true c.in_ok-enter.ensures.done (subst (λ n. EntersAll n (drop (l.figures-index + 1) FIGURES) (records c.enter.new.customers) r cs) (room_kept _ _ c.enter.ensures.kept) p));
      kept = kept_grown _ _ _ (entering_grows _ _ _ _ c.in_ok-enter.ensures.done) l.invariant.kept c.enter.ensures.kept;
    }

pub returns-clause-done : goal.returns-clause-done
returns-clause-done c = c.loop-figures.invariant.turn _ _ (ends _ _ _ _ c.loop-figures-test.false)
