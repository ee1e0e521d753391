use Rattle.std.proofs.Common.{◌∙◌}
use Rattle.register.proofs.Laid.{remove_laid}
use Rattle.register.proofs.slices.remove_at.Goals as goal

pub returns-clause-after : goal.returns-clause-after
returns-clause-after g c =
    c.copy_within.ensures.after ∙ remove_laid c.args.memory.now c.args.standing c.args.at c.requires.0 c.requires.1
