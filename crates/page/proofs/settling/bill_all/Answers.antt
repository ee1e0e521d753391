use Rattle.std.proofs.Common.{[], ◌∷◌, List, ℕ}
use Rattle.std.proofs.lemmas.List.{drop_more, drop_all}
use Rattle.std.proofs.lemmas.Result.{err_from_is_err_and}
use Rattle.page.specs.Pages.{none, billed, unbilled}
use Rattle.page.proofs.settling.bill_all.Goals as goal

letters : List ℕ
letters = 67 ∷ 78 ∷ 83 ∷ 84 ∷ []

pub loop-letter-preserved : goal.loop-letter-preserved
unfolding letters
loop-letter-preserved g c = λ r ch p.
    let next = drop_more letters c.loop-letter.letter-index 0 c.loop-letter-test.true in
    c.loop-letter.invariant r ch (rw next (billed c.in_ok-bill.ensures p))

pub returns-in_err-bill : goal.returns-in_err-bill
unfolding letters
returns-in_err-bill g c =
    let p = err_from_is_err_and c.from_residual.result c.from_residual.ensures.1 in
    let next = drop_more letters c.loop-letter.letter-index 0 c.loop-letter-test.true in
    rw (p.1, p.2) (c.loop-letter.invariant _ _ (rw next (unbilled c.in_err-bill.ensures)))

pub returns : goal.returns
unfolding letters
returns g c =
    let past = drop_all c.loop-letter.letter-index letters c.loop-letter-test.false in
    c.loop-letter.invariant _ _ (rw past none)
