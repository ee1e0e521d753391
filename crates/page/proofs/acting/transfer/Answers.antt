use Rattle.std.proofs.Common.{Ok, Err, refl, subst}
use Rattle.std.proofs.lemmas.Result.{err_from_is_err_and}
use Rattle.register.specs.Register.{records}
use Rattle.book.specs.Marks.{Lifts}
use Rattle.page.specs.Pages.{lands, stays}
use Rattle.page.proofs.acting.transfer.Goals as goal

pub returns-in_err-parcel : goal.returns-in_err-parcel
returns-in_err-parcel g c =
    let p = err_from_is_err_and c.from_residual-in_err-parcel.result c.from_residual-in_err-parcel.ensures.1 in
    let cs = records c.args.customers.now in
    rw (p.1, p.2) (stays (subst (λ n. Lifts cs c.args.giver n (Err c.in_err-parcel.field-0.0) (records c.lift.new.customers)) c.in_ok-new.ensures.1 c.in_err-parcel.ensures.done))

pub returns-in_err-land : goal.returns-in_err-land
returns-in_err-land g c =
    let p = err_from_is_err_and c.from_residual-in_err-land.result c.from_residual-in_err-land.ensures.1 in
    let cs = records c.args.customers.now in
    rw (p.1, p.2) (lands (subst (λ n. Lifts cs c.args.giver n (Ok c.in_ok-parcel.parcel) (records c.lift.new.customers)) c.in_ok-new.ensures.1 c.in_ok-parcel.ensures.done) c.in_err-land.ensures.done)

pub returns : goal.returns
returns g c =
    let cs = records c.args.customers.now in
    (refl, lands (subst (λ n. Lifts cs c.args.giver n (Ok c.in_ok-parcel.parcel) (records c.lift.new.customers)) c.in_ok-new.ensures.1 c.in_ok-parcel.ensures.done) c.in_ok-land.ensures.done)
