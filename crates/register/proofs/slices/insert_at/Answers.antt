use Rattle.std.proofs.Common.{List, set, ap, ◌∙◌}
use Rattle.register.proofs.Laid.{insert_laid}
use Rattle.register.proofs.slices.insert_at.Goals as goal

pub returns : goal.returns
returns g c =
    ap (λ (t : List _). set t c.args.at c.args.row) c.copy_within.ensures.after ∙ insert_laid c.args.memory.now c.args.standing c.args.at c.args.row c.requires.0 c.requires.1
