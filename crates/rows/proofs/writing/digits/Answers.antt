use Rattle.std.proofs.Common.{◌∙◌, ap, ◌+◌}
use Rattle.rows.proofs.Placing.{logged}
use Rattle.rows.proofs.writing.digits.Goals as goal

pub returns-clause-count : goal.returns-clause-count
returns-clause-count c = ap (λ k. k + 1) c.unwrap_or.ensures ∙ logged c.args.n c.checked_ilog10.result c.ranges.n.fits c.checked_ilog10.ensures.none c.checked_ilog10.ensures.power_le c.checked_ilog10.ensures.next_power_gt
