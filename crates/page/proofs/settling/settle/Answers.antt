use Rattle.std.proofs.Common.{◌≡◌, subst, rules}
use Rattle.std.proofs.lemmas.Result.{err_from_is_err_and}
use Rattle.register.specs.Register.{records}
use Rattle.page.specs.Pages.{ClosesOn, unclosed, unsettled, settled}
use Rattle.page.proofs.Telling.{still_ok, told_as}
use Rattle.page.proofs.settling.settle.Goals as goal

pub returns-in_err-closed : goal.returns-in_err-closed
returns-in_err-closed g c =
    let p = err_from_is_err_and c.from_residual.result c.from_residual.ensures.1 in
    let t = told_as _ _ _ c.close.result c.in_err-closed.field-0.0 _ c.in_err-closed.ensures.cases in
    let e : c.in_err-closed.field-0.0 ≡ t.0.1 = search rules in
    rw (p.1, p.2, e) (unclosed (subst (λ r. ClosesOn g.D.Divider.meaning c.args.book (records c.args.customers.now) r (records c.close.new.customers)) t.1 c.close.ensures))

pub returns-in_err-bill_all : goal.returns-in_err-bill_all
returns-in_err-bill_all g c =
    let p = err_from_is_err_and c.from_residual-in_err-bill_all.result c.from_residual-in_err-bill_all.ensures.1 in
    let is = still_ok _ _ _ c.close.result c.in_ok-closed.closed c.in_ok-closed.ensures.cases in
    rw (p.1, p.2) (unsettled (subst (λ r. ClosesOn g.D.Divider.meaning c.args.book (records c.args.customers.now) r (records c.close.new.customers)) is c.close.ensures) c.in_err-bill_all.ensures)

pub returns : goal.returns
returns g c =
    let is = still_ok _ _ _ c.close.result c.in_ok-closed.closed c.in_ok-closed.ensures.cases in
    settled (subst (λ r. ClosesOn g.D.Divider.meaning c.args.book (records c.args.customers.now) r (records c.close.new.customers)) is c.close.ensures) c.in_ok-bill_all.ensures
