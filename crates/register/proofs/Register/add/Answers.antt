use Rattle.std.proofs.Common.{◌≡◌, None, Ok, sym, subst, arith}
use Rattle.register.specs.Records.{lookup, InOrder}
use Rattle.register.specs.Register.{records}
use Rattle.register.proofs.Change.{place_free, put_in}
use Rattle.register.proofs.Found.{placed_ok}
use Rattle.register.proofs.Order.{ordered_added}
use Rattle.register.proofs.Register.add.Goals as goal

pub returns-in_default-clause-answer : goal.returns-in_default-clause-answer
returns-in_default-clause-answer g c =
    let free = place_free c.args.self.now c.is_full.result c.is_full.ensures c.if-is_full.false in
    let found = placed_ok g.R.Keyed.key c.number.result c.records.result.now (Ok c.in_default.field-0) c.in_default.ensures in
    (free, rw (← c.number.ensures, ← c.records.ensures) found)

pub invariant_of-self : goal.invariant_of-self
invariant_of-self g c =
    let key = g.R.Keyed.key in
    let before = c.args.self.now in
    let free = place_free before c.is_full.result c.is_full.ensures c.if-is_full.false in
    let gap = c.in-Err.ensures in
    let are = put_in key before c.len-standing.result c.len-standing.ensures c.insert_at.new.memory c.args.row c.in-Err.at (omega arith) (rw (← c.number.ensures, ← c.records.ensures) gap) c.insert_at.ensures in
    let new : lookup key (key c.args.row) (records before) ≡ None = rw (← c.number.ensures, ← c.records.ensures) gap.2 in
    record { rising = subst (InOrder key) (sym are) (ordered_added key c.args.row (records before) new before.rising) }

pub returns-clause-records : goal.returns-clause-records
returns-clause-records g c =
    let before = c.args.self.now in
    let free = place_free before c.is_full.result c.is_full.ensures c.if-is_full.false in
    put_in g.R.Keyed.key before c.len-standing.result c.len-standing.ensures c.insert_at.new.memory c.args.row c.in-Err.at (omega arith) (rw (← c.number.ensures, ← c.records.ensures) c.in-Err.ensures) c.insert_at.ensures
