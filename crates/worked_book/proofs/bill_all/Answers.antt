use Rattle.std.proofs.lemmas.Result.{err_from_is_err_and}
use Rattle.worked_book.proofs.Turns.{goes_on, stops, ends}
use Rattle.worked_book.proofs.bill_all.Goals as goal

pub returns-in_err-bill : goal.returns-in_err-bill
returns-in_err-bill c =
    let p = err_from_is_err_and c.from_residual.result c.from_residual.ensures.1 in
    rw (p.1, p.2) (c.loop-letter.invariant _ _ (stops _ _ _ _ _ _ _ c.loop-letter-test.true c.in_err-bill.ensures))

pub loop-letter-preserved : goal.loop-letter-preserved
loop-letter-preserved c =
    λ r ch p. c.loop-letter.invariant r ch (goes_on _ _ _ _ _ _ _ _ c.loop-letter-test.true c.in_ok-bill.ensures p)

pub returns : goal.returns
returns c = c.loop-letter.invariant _ _ (ends _ _ _ _ c.loop-letter-test.false)
