use Rattle.std.proofs.Common.{◌≡◌, ◌-◌, min, take, sym, subst, arith}
use Rattle.std.proofs.lemmas.List.{take-take}
use Rattle.register.specs.Records.{InOrder, usable}
use Rattle.register.specs.Register.{memory, records}
use Rattle.register.proofs.Change.{length-records, put_out}
use Rattle.register.proofs.Lookups.{without-missing}
use Rattle.register.proofs.Order.{ordered_take, ordered_without}
use Rattle.register.proofs.Register.remove.Goals as goal

pub returns-in_err-at-clause-records : goal.returns-in_err-at-clause-records
returns-in_err-at-clause-records g c =
    sym (without-missing g.R.Keyed.key c.args.number (records c.args.self.now) c.in_err-at.ensures.0)

pub invariant_of-self : goal.invariant_of-self
invariant_of-self g c =
    let key = g.R.Keyed.key in
    let before = c.args.self.now in
    let fewer = min (c.len-standing.result - 1) (usable (memory before)) in
    let long = length-records before in
    let shorter : take fewer (records before) ≡ take fewer (memory before) = take-take fewer _ (memory before) (omega (arith, c.len-standing.ensures)) in
    record { rising = subst (InOrder key) shorter (ordered_take key fewer (records before) before.rising) }

pub invariant_of-self-2 : goal.invariant_of-self-2
invariant_of-self-2 g c =
    let key = g.R.Keyed.key in
    let before = c.args.self.now in
    let out = put_out key before c.len-standing.result c.len-standing.ensures c.remove_at.new.memory c.args.number c.in_ok-at.at c.remove_at.result c.in_ok-at.ensures c.remove_at.ensures.old c.remove_at.ensures.after in
    record { rising = subst (InOrder key) (sym out.1) (ordered_without key c.args.number (records before) before.rising) }

pub returns-clause-answer : goal.returns-clause-answer
returns-clause-answer g c =
    (put_out g.R.Keyed.key c.args.self.now c.len-standing.result c.len-standing.ensures c.remove_at.new.memory c.args.number c.in_ok-at.at c.remove_at.result c.in_ok-at.ensures c.remove_at.ensures.old c.remove_at.ensures.after).0

pub returns-clause-records : goal.returns-clause-records
returns-clause-records g c =
    (put_out g.R.Keyed.key c.args.self.now c.len-standing.result c.len-standing.ensures c.remove_at.new.memory c.args.number c.in_ok-at.at c.remove_at.result c.in_ok-at.ensures c.remove_at.ensures.old c.remove_at.ensures.after).1
