use Rattle.std.proofs.Common.{◌∷◌, [], ◌++◌, refl, arith}
use Rattle.std.proofs.iter.Next.{says_at}
use Rattle.book.proofs.Weighings.{zip_more, sum_more}
use Rattle.book.proofs.weighing.sum_of.Goals as goal

pub loop-customer-preserved : goal.loop-customer-preserved
loop-customer-preserved g c =
    let now = c.loop-customer.invariant.0 in
    let w = c.weight.result in (
      (
        now.0 ++ w ∷ [],
        zip_more _ c.args.customers.now now.0 c.loop-customer.customer-index _ w c.loop-customer-test.true now.1 (says_at g.F.Fn c.weight.ensures refl),
        omega (arith, now.2, sum_more now.0 w, c.from-sum.ensures),
      ),
      omega (arith, c.loop-customer.invariant.1, c.from-sum.ensures),
    )
