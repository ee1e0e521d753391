use Rattle.std.proofs.Common.{Ok, sym, ap, ◌∙◌, subst}
use Rattle.register.specs.Register.{room, records}
use Rattle.lines.specs.Lines.{contents, cost, grant, transfer}
use Rattle.book.specs.Lines.{Posts}
use Rattle.book.specs.Marks.{Grants}
use Rattle.page.specs.Pages.{Moves, Acts, posts, grants, transfers}
use Rattle.page.specs.Steps.{LineActs}
use Rattle.page.proofs.Answering.{answered_by}
use Rattle.page.proofs.acting.act.Goals as goal

pub returns-in-Cost-clause-done : goal.returns-in-Cost-clause-done
returns-in-Cost-clause-done g c =
    let b = c.args.book.now in
    let cs = records c.args.customers.now in
    let ls = records c.args.costs.now in
    subst (λ x. LineActs (room c.args.costs.now) b cs ls x c.post.result c.post.new.book cs (records c.post.new.costs)) (sym (ap (λ v. Ok (contents v)) c.in-Cost.is) ∙ c.in_ok-read.ensures.reads) (answered_by tt (λ a. Posts b (room c.args.costs.now) ls c.in-Cost.number c.in-Cost.posting c.in-Cost.cents a c.post.new.book (records c.post.new.costs)) (λ a. Acts (room c.args.costs.now) b cs ls (cost c.in-Cost.number c.in-Cost.posting c.in-Cost.cents) a c.post.new.book cs (records c.post.new.costs)) c.post.result (λ a s. posts s) c.post.ensures.done)

pub returns-in-Grant-clause-done : goal.returns-in-Grant-clause-done
returns-in-Grant-clause-done g c =
    let b = c.args.book.now in
    let cs = records c.args.customers.now in
    let ls = records c.args.costs.now in
    subst (λ x. LineActs (room c.args.costs.now) b cs ls x c.grant.result c.grant.new.book (records c.grant.new.customers) ls) (sym (ap (λ v. Ok (contents v)) c.in-Grant.is) ∙ c.in_ok-read.ensures.reads) (answered_by tt (λ a. Grants b cs c.in-Grant.customer c.in-Grant.load a c.grant.new.book (records c.grant.new.customers)) (λ a. Acts (room c.args.costs.now) b cs ls (grant c.in-Grant.customer c.in-Grant.load) a c.grant.new.book (records c.grant.new.customers) ls) c.grant.result (λ a s. grants s) c.grant.ensures)

pub returns-in-Transfer-clause-done : goal.returns-in-Transfer-clause-done
returns-in-Transfer-clause-done g c =
    let b = c.args.book.now in
    let cs = records c.args.customers.now in
    let ls = records c.args.costs.now in
    subst (λ x. LineActs (room c.args.costs.now) b cs ls x c.transfer.result b (records c.transfer.new.customers) ls) (sym (ap (λ v. Ok (contents v)) c.in-Transfer.is) ∙ c.in_ok-read.ensures.reads) (answered_by tt (λ a. Moves cs c.in-Transfer.giver c.in-Transfer.receiver c.in-Transfer.load a (records c.transfer.new.customers)) (λ a. Acts (room c.args.costs.now) b cs ls (transfer c.in-Transfer.giver c.in-Transfer.receiver c.in-Transfer.load) a b (records c.transfer.new.customers) ls) c.transfer.result (λ a s. transfers s) c.transfer.ensures)
