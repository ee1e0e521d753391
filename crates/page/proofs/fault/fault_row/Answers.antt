use Rattle.std.proofs.Common.{rules, ℕ, ◌^◌, ◌<◌, ◌≤◌, [], ◌∷◌, length, codes, decimal, arith}
use Rattle.listing.proofs.Listed.{figure_few, row_few, short_is}
use Rattle.page.specs.Answers.{number, field, layer, fault_row}
use Rattle.page.proofs.fault.fault_row.Goals as goal

pub returns-clause-short : goal.returns-clause-short
returns-clause-short c =
    let fault = c.args.fault in
    let small : (n : ℕ) → n < 2 ^ 64 → length (decimal n) ≤ 24 = λ n h. omega (arith, figure_few n h) in
    short_is (fault_row fault) c.ok_or.result (row_few (codes "F") (layer fault.cause ∷ decimal fault.line ∷ decimal (field fault.cause) ∷ decimal (number fault.cause) ∷ []) (omega arith)
    (omega arith, (c.layer.ensures.few, (small _ (search rules), (small _ (search rules), (small _ (search rules), tt))))))
