use Rattle.std.proofs.Common.{length, take, sym, ap, ◌∙◌, subst}
use Rattle.divider.specs.Questions.{Passes}
use Rattle.book.specs.Rates.{on_top}
use Rattle.book.proofs.SheetParts.{front_on_top}
use Rattle.book.proofs.Weighings.{zip_length}
use Rattle.book.proofs.sharing.divide_by.Goals as goal

pub divide_first-requires-clause-passes : goal.divide_first-requires-clause-passes
divide_first-requires-clause-passes g c =
    let now = c.write_weights.ensures in
    let front = ap (take (length c.args.customers.now)) now.2 ∙ front_on_top now.0 c.args.weights.now (length c.args.customers.now) (zip_length _ c.args.customers.now now.0 now.1) in
    subst (Passes c.args.total) (sym front) (c.requires.passes now.0 now.1)

pub returns : goal.returns
returns g c =
    let now = c.write_weights.ensures in
    let front = ap (take (length c.args.customers.now)) now.2 ∙ front_on_top now.0 c.args.weights.now (length c.args.customers.now) (zip_length _ c.args.customers.now now.0 now.1) in (
      now.0,
      now.1,
      record {
        weighed = now.2;
        shared = c.divide_first.ensures ∙ ap (λ by. on_top (g.D.Divider.meaning c.args.divider.now c.args.total by) c.args.shares.now) front;
      },
    )
