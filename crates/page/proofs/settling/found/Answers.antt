use Rattle.std.proofs.Common.{refl}
use Rattle.page.specs.Pages.{founds_on}
use Rattle.page.proofs.settling.found.Goals as goal

pub returns : goal.returns
returns g c = founds_on _ _ _ _ refl refl c.found.ensures.done
