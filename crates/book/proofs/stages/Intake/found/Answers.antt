use Rattle.std.proofs.Common.{rules, true, false, sum_by, sym, ◌∙◌}
use Rattle.register.specs.Register.{records}
use Rattle.records.specs.Figures.{founding_weight}
use Rattle.book.specs.Customers.{marked}
use Rattle.book.proofs.Portions.{written_is}
use Rattle.book.proofs.Stagings.{wide_at, divisible_at, found_weightless, found_spoiled, found_done}
use Rattle.book.proofs.Weighings.{weighed_as, weighed_sum, weighed_passes}
use Rattle.book.proofs.stages.Intake.found.Goals as goal

pub returns-then-sum-eq0-clause-done : goal.returns-then-sum-eq0-clause-done
returns-then-sum-eq0-clause-done g c =
    let cs = records c.args.customers.now in
    let w = wide_at c.len.result cs c.args.weights.now c.args.shares.now c.wide.result true c.len.ensures c.wide.ensures c.if-not-wide.false in
    let s = weighed_sum _ founding_weight (λ x w r. search rules) c.records.result.now cs c.sum_of-sum.result c.records.ensures c.sum_of-sum.ensures in
    found_weightless g.D.Divider.meaning c.args.self cs c.args.weights.now c.args.shares.now w (sym s ∙ c.if-sum-eq0.true)

pub returns-then-not-divisible-clause-done : goal.returns-then-not-divisible-clause-done
returns-then-not-divisible-clause-done g c =
    let cs = records c.args.customers.now in
    let w = wide_at c.len.result cs c.args.weights.now c.args.shares.now c.wide.result true c.len.ensures c.wide.ensures c.if-not-wide.false in
    let s = weighed_sum _ founding_weight (λ x w r. search rules) c.records.result.now cs c.sum_of-sum.result c.records.ensures c.sum_of-sum.ensures in
    let d = divisible_at c.thousandths-total.result c.args.self.header.founding_total c.sum_of-sum.result (sum_by founding_weight cs) c.divisible.result false (c.thousandths-total.ensures ∙ c.founding_total.ensures) s c.divisible.ensures c.if-not-divisible.true in
    found_spoiled g.D.Divider.meaning c.args.self cs c.args.weights.now c.args.shares.now w (λ z. c.if-sum-eq0.false (s ∙ z)) d

pub share_out-requires-clause-passes : goal.share_out-requires-clause-passes
share_out-requires-clause-passes g c =
    let cs = records c.args.customers.now in
    let s = weighed_sum _ founding_weight (λ x w r. search rules) c.records.result.now cs c.sum_of-sum.result c.records.ensures c.sum_of-sum.ensures in
    weighed_passes _ founding_weight (λ x w r. search rules) c.thousandths-total.result c.sum_of-sum.result cs s c.if-sum-eq0.false c.divisible.result c.divisible.ensures c.if-not-divisible.false

pub returns-clause-done : goal.returns-clause-done
returns-clause-done g c =
    let cs = records c.args.customers.now in
    let t = c.thousandths-total.ensures ∙ c.founding_total.ensures in
    let w = wide_at c.len.result cs c.args.weights.now c.args.shares.now c.wide.result true c.len.ensures c.wide.ensures c.if-not-wide.false in
    let s = weighed_sum _ founding_weight (λ x w r. search rules) c.records.result.now cs c.sum_of-sum.result c.records.ensures c.sum_of-sum.ensures in
    let d = divisible_at c.thousandths-total.result c.args.self.header.founding_total c.sum_of-sum.result (sum_by founding_weight cs) c.divisible.result true t s c.divisible.ensures c.if-not-divisible.false in
    let out = weighed_as _ founding_weight (λ x w r. search rules) cs _ c.share_out.ensures.done in
    let marks = written_is _ (λ c s. marked c s 0) (λ c s d r. search rules) _ cs (records c.share_out.new.customers) out.0 in
    found_done g.D.Divider.meaning c.args.self cs c.args.weights.now c.args.shares.now w (λ z. c.if-sum-eq0.false (s ∙ z)) d c.thousandths-total.result t (records c.share_out.new.customers) c.share_out.new.weights c.share_out.new.shares marks out.1 c.into_open.result c.into_open.ensures
