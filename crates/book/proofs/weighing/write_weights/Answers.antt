use Rattle.std.proofs.Common.{ℕ, List, ◌∷◌, [], ◌++◌, take, set, refl, ap, ◌∙◌, arith}
use Rattle.std.proofs.iter.Next.{says_at}
use Rattle.std.proofs.lemmas.List.{length-take-le}
use Rattle.book.proofs.Weighings.{zip_length, zip_more, sheet_more}
use Rattle.book.proofs.weighing.write_weights.Goals as goal

pub loop-i-preserved : goal.loop-i-preserved
loop-i-preserved g c =
    let cs = c.args.customers.now in
    let i = c.loop-i.i in
    let w = c.weight.result in
    let now = c.loop-i.invariant in
    let so_far = zip_length _ (take i cs) now.0 now.1 ∙ length-take-le i cs (omega arith) in (
      now.0 ++ w ∷ [],
      zip_more _ cs now.0 i _ w c.loop-i-test.true now.1 (says_at g.F.Fn c.weight.ensures refl),
      ap (λ (s : List ℕ). set s i w) now.2 ∙ sheet_more now.0 c.args.sheet.now i 0 w so_far (omega (arith, c.requires.long)),
    )
