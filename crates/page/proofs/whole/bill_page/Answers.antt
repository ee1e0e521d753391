use Rattle.page.proofs.Adding.{page_adds_up}
use Rattle.page.proofs.Once.{comes_once}
use Rattle.page.proofs.whole.bill_page.Goals as goal

pub returns-clause-only : goal.returns-clause-only
returns-clause-only g c = comes_once g.D.Divider.meaning c.args.divider c.args.page.now _ c.bill_in.ensures.comes

pub returns-clause-sums : goal.returns-clause-sums
returns-clause-sums g c = page_adds_up g.D.Divider.meaning g.met.D.Divider.fair c.args.divider c.args.page.now _ c.bill_in.ensures.comes
