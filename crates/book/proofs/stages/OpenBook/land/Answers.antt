use Rattle.std.proofs.Common.{length, ap, ◌∙◌}
use Rattle.register.specs.Register.{records}
use Rattle.register.proofs.Change.{kept_then}
use Rattle.register.proofs.Lookups.{length-replaced}
use Rattle.book.specs.Customers.{key}
use Rattle.book.proofs.stages.OpenBook.land.Goals as goal

pub returns-clause-kept : goal.returns-clause-kept
returns-clause-kept g c =
    let b = c.replace-2.ensures in
    kept_then c.args.customers.now c.replace.new.self c.replace-2.new.self (ap length b.records ∙ length-replaced key _ (records c.replace.new.self)) c.replace.ensures.kept b.kept
