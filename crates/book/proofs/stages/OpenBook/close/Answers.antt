use Rattle.std.proofs.Common.{rules, true, false, sum_by, sym, ◌∙◌}
use Rattle.register.specs.Register.{records}
use Rattle.records.specs.declared.customer.Customer.{Customer}
use Rattle.book.specs.Customers.{rated}
use Rattle.book.proofs.Portions.{written_is}
use Rattle.book.proofs.Stagings.{wide_at, divisible_at, close_moving, close_unmarked, close_spoiled, close_done}
use Rattle.book.proofs.Weighings.{weighed_as, weighed_sum, weighed_passes}
use Rattle.book.proofs.stages.OpenBook.close.Goals as goal
use Rattle.book.proofs.stages.OpenBook.close.Goals.{then-sum-eq0-via-then-sum-eq0, then-sum-eq0-via-else-sum-eq0+then-not-divisible}

pub returns-then-moving-ne0-clause-done : goal.returns-then-moving-ne0-clause-done
returns-then-moving-ne0-clause-done g c =
    let cs = records c.args.customers.now in
    let w = wide_at c.len.result cs c.args.weights.now c.args.shares.now c.wide.result true c.len.ensures c.wide.ensures c.if-not-wide.false in
    let m = weighed_sum _ (λ (x : Customer). x.transit) (λ x w r. search rules) c.records.result.now cs c.sum_of-moving.result c.records.ensures c.sum_of-moving.ensures in
    close_moving g.D.Divider.meaning c.args.self cs c.args.weights.now c.args.shares.now w (λ z. c.if-moving-ne0.true (m ∙ z))

pub returns-then-sum-eq0-clause-done : goal.returns-then-sum-eq0-clause-done
returns-then-sum-eq0-clause-done g c =
    let cs = records c.args.customers.now in
    let w = wide_at c.len.result cs c.args.weights.now c.args.shares.now c.wide.result true c.len.ensures c.wide.ensures c.if-not-wide.false in
    let m = weighed_sum _ (λ (x : Customer). x.transit) (λ x w r. search rules) c.records.result.now cs c.sum_of-moving.result c.records.ensures c.sum_of-moving.ensures in
    let s = weighed_sum _ (λ (x : Customer). x.mark) (λ x w r. search rules) c.records-2.result.now cs c.sum_of-sum.result c.records-2.ensures c.sum_of-sum.ensures in
    let still = sym m ∙ c.if-moving-ne0.false in
    elim c.then-sum-eq0.branch [
      | then-sum-eq0-via-then-sum-eq0 v ↦ close_unmarked g.D.Divider.meaning c.args.self cs c.args.weights.now c.args.shares.now w still (sym s ∙ v.if-sum-eq0.true)
      | then-sum-eq0-via-else-sum-eq0+then-not-divisible v ↦
          close_spoiled g.D.Divider.meaning c.args.self cs c.args.weights.now c.args.shares.now w still (λ z. v.if-sum-eq0.false (s ∙ z))
          (divisible_at c.thousandths-total.result c.args.self.header.capability c.sum_of-sum.result (sum_by (λ (x : Customer). x.mark) cs) v.divisible.result false (c.thousandths-total.ensures ∙ c.capability.ensures) s v.divisible.ensures v.if-not-divisible.true)
    ]

pub share_out-requires-clause-passes : goal.share_out-requires-clause-passes
share_out-requires-clause-passes g c =
    let cs = records c.args.customers.now in
    let s = weighed_sum _ (λ (x : Customer). x.mark) (λ x w r. search rules) c.records-2.result.now cs c.sum_of-sum.result c.records-2.ensures c.sum_of-sum.ensures in
    weighed_passes _ (λ (x : Customer). x.mark) (λ x w r. search rules) c.thousandths-total.result c.sum_of-sum.result cs s c.if-sum-eq0.false c.divisible.result c.divisible.ensures c.if-not-divisible.false

pub returns-clause-done : goal.returns-clause-done
returns-clause-done g c =
    let cs = records c.args.customers.now in
    let t = c.thousandths-total.ensures ∙ c.capability.ensures in
    let w = wide_at c.len.result cs c.args.weights.now c.args.shares.now c.wide.result true c.len.ensures c.wide.ensures c.if-not-wide.false in
    let m = weighed_sum _ (λ (x : Customer). x.transit) (λ x w r. search rules) c.records.result.now cs c.sum_of-moving.result c.records.ensures c.sum_of-moving.ensures in
    let s = weighed_sum _ (λ (x : Customer). x.mark) (λ x w r. search rules) c.records-2.result.now cs c.sum_of-sum.result c.records-2.ensures c.sum_of-sum.ensures in
    let d = divisible_at c.thousandths-total.result c.args.self.header.capability c.sum_of-sum.result (sum_by (λ (x : Customer). x.mark) cs) c.divisible.result true t s c.divisible.ensures c.if-not-divisible.false in
    let out = weighed_as _ (λ (x : Customer). x.mark) (λ x w r. search rules) cs _ c.share_out.ensures.done in
    let rates = written_is _ rated (λ c s d r. search rules) _ cs (records c.share_out.new.customers) out.0 in
    close_done g.D.Divider.meaning c.args.self cs c.args.weights.now c.args.shares.now w (sym m ∙ c.if-moving-ne0.false) (λ z. c.if-sum-eq0.false (s ∙ z)) d c.thousandths-total.result t (records c.share_out.new.customers) c.share_out.new.weights c.share_out.new.shares rates out.1 c.into_closed.result c.into_closed.ensures
