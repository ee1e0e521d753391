use Rattle.std.proofs.Common.{ℕ, min, take, length, None, sym, ap, ◌∙◌, subst, arith}
use Rattle.register.specs.Records.{usable, rising_front, InOrder}
use Rattle.register.proofs.Rising.{front_taken, front_rises}
use Rattle.register.proofs.Register.of.Goals as goal

pub invariant_of-result : goal.invariant_of-result
invariant_of-result g c =
    let key = g.R.Keyed.key in
    let mem = c.args.places.now in
    let used = take (min c.args.standing (usable mem)) mem in
    let is = c.rising-standing.ensures ∙ ap (λ (u : ℕ). length (rising_front key (take u mem))) (omega (arith, c.min.ensures, c.min-used.ensures)) in
    record { rising = subst (InOrder key) (sym (front_taken key mem c.args.standing c.rising-standing.result is)) (front_rises key None used) }

pub returns-clause-records : goal.returns-clause-records
returns-clause-records g c =
    let key = g.R.Keyed.key in
    let mem = c.args.places.now in
    let is = c.rising-standing.ensures ∙ ap (λ (u : ℕ). length (rising_front key (take u mem))) (omega (arith, c.min.ensures, c.min-used.ensures)) in
    front_taken key mem c.args.standing c.rising-standing.result is
