use Rattle.std.proofs.Common.{rules, pos, ◌-ℤ◌, true, length, map, take, sym, refl, ap, ◌∙◌}
use Rattle.std.proofs.lemmas.List.{length-map}
use Rattle.records.specs.Figures.{pool_weight}
use Rattle.book.proofs.Bills.{each_small, bill_weightless, bill_spoiled, bill_done}
use Rattle.book.proofs.SheetParts.{front_on_top}
use Rattle.book.proofs.Stagings.{wide_at, passing}
use Rattle.book.proofs.Weighings.{weighed_as, weighed_sum, weighed_passes}
use Rattle.book.proofs.stages.ClosedBook.bill.Goals as goal

pub returns-then-sum-eq0 : goal.returns-then-sum-eq0
returns-then-sum-eq0 g c =
    let rs = c.records-records.result.now in
    let w = wide_at (length rs) rs c.args.weights.now c.args.shares.now c.wide.result true refl c.wide.ensures c.if-not-wide.false in
    let s = weighed_sum _ (pool_weight c.in-Some.pool) (λ x w r. search rules) rs rs c.sum_of-sum.result refl c.sum_of-sum.ensures in
    rw (sym c.records-records.ensures) (bill_weightless g.D.Divider.meaning c.args.self.now rs c.args.letter c.in-Some.pool c.args.weights.now c.args.shares.now c.args.charges.now (sym c.in-Some.ensures) w c.if-charges-n.false c.size-size.result c.size-size.ensures c.if-size-eq0.false c.sum_of-sum.result s c.if-sum-eq0.true)

pub returns-then-not-divisible : goal.returns-then-not-divisible
returns-then-not-divisible g c =
    let rs = c.records-records.result.now in
    let w = wide_at (length rs) rs c.args.weights.now c.args.shares.now c.wide.result true refl c.wide.ensures c.if-not-wide.false in
    let s = weighed_sum _ (pool_weight c.in-Some.pool) (λ x w r. search rules) rs rs c.sum_of-sum.result refl c.sum_of-sum.ensures in
    rw (sym c.records-records.ensures) (bill_spoiled g.D.Divider.meaning c.args.self.now rs c.args.letter c.in-Some.pool c.args.weights.now c.args.shares.now c.args.charges.now (sym c.in-Some.ensures) w c.if-charges-n.false c.size-size.result c.size-size.ensures c.if-size-eq0.false c.sum_of-sum.result s c.if-sum-eq0.false c.divisible.result c.divisible.ensures c.if-not-divisible.true)

pub divide_by-requires-clause-passes : goal.divide_by-requires-clause-passes
divide_by-requires-clause-passes g c =
    let rs = c.records-records.result.now in
    let s = weighed_sum _ (pool_weight c.in-Some.pool) (λ x w r. search rules) rs rs c.sum_of-sum.result refl c.sum_of-sum.ensures in
    weighed_passes _ (pool_weight c.in-Some.pool) (λ x w r. search rules) c.size-size.result c.sum_of-sum.result rs s c.if-sum-eq0.false c.divisible.result c.divisible.ensures c.if-not-divisible.false

pub fill_charges-requires-clause-small : goal.fill_charges-requires-clause-small
fill_charges-requires-clause-small g c =
    let rs = c.records-records.result.now in
    let n = c.size-size.result in
    let s = weighed_sum _ (pool_weight c.in-Some.pool) (λ x w r. search rules) rs rs c.sum_of-sum.result refl c.sum_of-sum.ensures in
    let passes = passing n c.sum_of-sum.result (pool_weight c.in-Some.pool) rs s c.if-sum-eq0.false c.divisible.result c.divisible.ensures c.if-not-divisible.false in
    let fair = g.met.D.Divider.fair c.args.self.now.divider n (map (pool_weight c.in-Some.pool) rs) passes in
    let sheets = weighed_as _ (pool_weight c.in-Some.pool) (λ x w r. search rules) rs _ c.divide_by.ensures in
    let front = ap (take (length rs)) sheets.shared ∙ front_on_top _ c.args.shares.now (length rs) (fair.len ∙ length-map rs (pool_weight c.in-Some.pool)) in
    λ k. rw front (each_small n _ _ passes fair k)

pub returns : goal.returns
returns g c =
    let rs = c.records-records.result.now in
    let n = c.size-size.result in
    let w = wide_at (length rs) rs c.args.weights.now c.args.shares.now c.wide.result true refl c.wide.ensures c.if-not-wide.false in
    let s = weighed_sum _ (pool_weight c.in-Some.pool) (λ x w r. search rules) rs rs c.sum_of-sum.result refl c.sum_of-sum.ensures in
    let passes = passing n c.sum_of-sum.result (pool_weight c.in-Some.pool) rs s c.if-sum-eq0.false c.divisible.result c.divisible.ensures c.if-not-divisible.false in
    let fair = g.met.D.Divider.fair c.args.self.now.divider n (map (pool_weight c.in-Some.pool) rs) passes in
    let sheets = weighed_as _ (pool_weight c.in-Some.pool) (λ x w r. search rules) rs _ c.divide_by.ensures in
    rw (sym c.records-records.ensures) (bill_done g.D.Divider.meaning c.args.self.now rs c.args.letter c.in-Some.pool c.args.weights.now c.args.shares.now c.args.charges.now (sym c.in-Some.ensures) w c.if-charges-n.false n c.size-size.ensures c.if-size-eq0.false c.sum_of-sum.result s c.if-sum-eq0.false c.divisible.result c.divisible.ensures c.if-not-divisible.false
    c.divide_by.new.weights c.divide_by.new.shares fair sheets (pos c.sides-costs.result.0 -ℤ pos c.sides-costs.result.1) (rw (c.sides-costs.ensures.costs, c.sides-costs.ensures.credits) refl) c.order.result c.order.ensures c.fill_charges.new.part c.fill_charges.ensures)
