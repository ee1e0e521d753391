use Rattle.std.proofs.Common.{refl}
use Rattle.page.specs.Pages.{bills_on}
use Rattle.page.proofs.settling.bill.Goals as goal

pub returns : goal.returns
returns g c = bills_on _ _ _ _ refl refl c.bill.ensures
