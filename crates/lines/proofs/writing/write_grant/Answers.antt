use Rattle.std.proofs.Common.{rules}
use Rattle.lines.proofs.Trips.{writes_from}
use Rattle.lines.proofs.writing.write_grant.Goals as goal

pub returns : goal.returns
returns c = rw (← c.from.ensures) (search (rules, writes_from))
