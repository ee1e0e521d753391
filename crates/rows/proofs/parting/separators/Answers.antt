use Rattle.std.proofs.Common.{◌≡◌, ◌==◌, arith, rules}
use Rattle.std.specs.List.{count_by}
use Rattle.rows.proofs.Parts.{length_parted}
use Rattle.rows.proofs.parting.separators.Goals as goal

pub returns-clause-count : goal.returns-clause-count
returns-clause-count c =
    let e : c.count.result ≡ count_by (λ b. b == c.args.separator) c.args.bytes.now = search rules in
    omega (arith, length_parted c.args.separator c.args.bytes.now)
