use Rattle.std.proofs.Common.{◌+◌, drop, subst}
use Rattle.std.proofs.lemmas.Result.{err_from_is_err_and}
use Rattle.register.specs.Register.{records}
use Rattle.worked_book.specs.declared.TheConstants.{LINES}
use Rattle.worked_book.specs.Calls.{PostsAll}
use Rattle.worked_book.proofs.Growing.{room_kept, kept_grown, posting_grows}
use Rattle.worked_book.proofs.Turns.{goes_on, stops, ends}
use Rattle.worked_book.proofs.post_all.Goals as goal

pub returns-in_err-post-clause-done : goal.returns-in_err-post-clause-done
returns-in_err-post-clause-done c =
    let p = err_from_is_err_and c.from_residual.result c.from_residual.ensures.1 in
    rw (p.1, p.2) (c.loop-number.invariant.turn _ _ (stops _ _ _ _ _ _ _ c.loop-number-test.true c.in_err-post.ensures.done))

pub loop-number-preserved : goal.loop-number-preserved
loop-number-preserved c =
    let l = c.loop-number in
    record {
      turn = λ r s p. l.invariant.turn r s (goes_on _ _ _ _ _ _ _ _ c.loop-number-test.true c.in_ok-post.ensures.done (subst (λ n. PostsAll n (drop (l.number-index + 1) LINES) (c.post.new.book, records c.post.new.lines) r s) (room_kept _ _ c.post.ensures.kept) p));
      kept = kept_grown _ _ _ (posting_grows _ _ _ _ _ _ _ c.in_ok-post.ensures.done) l.invariant.kept c.post.ensures.kept;
    }

pub returns-clause-done : goal.returns-clause-done
returns-clause-done c = c.loop-number.invariant.turn _ _ (ends _ _ _ _ c.loop-number-test.false)
