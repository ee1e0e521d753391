use Rattle.register.specs.Register.{records}
use Rattle.register.proofs.Found.{lookup-place_of}
use Rattle.register.proofs.Register.get.Goals as goal

pub returns : goal.returns
returns g c =
    let there = c.in_ok-at.ensures in
    lookup-place_of g.R.Keyed.key c.args.number c.in_ok-at.at c.index-records-at.result (records c.args.self.now) there.0 there.1 (cc)
