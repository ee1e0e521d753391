use Rattle.std.proofs.Common.{refl}
use Rattle.page.specs.Pages.{closes_on}
use Rattle.page.proofs.settling.close.Goals as goal

pub returns : goal.returns
returns g c = closes_on _ _ _ _ refl refl c.close.ensures.done
