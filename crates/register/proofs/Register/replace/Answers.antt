use Rattle.std.proofs.Common.{◌≡◌, ℕ, set, sym, refl, ap, subst, ◌∙◌}
use Rattle.register.specs.Records.{replaced, place_of, InOrder}
use Rattle.register.specs.Register.{memory, records, laid}
use Rattle.register.proofs.Change.{put_over, read_record, records_changed, kept_changed}
use Rattle.register.proofs.Found.{set-place_of, lookup-place_of}
use Rattle.register.proofs.Lookups.{replaced-missing}
use Rattle.register.proofs.Order.{ordered_replaced}
use Rattle.register.proofs.Register.replace.Goals as goal

pub returns-in_err-at-clause-records : goal.returns-in_err-at-clause-records
returns-in_err-at-clause-records g c =
    sym (replaced-missing g.R.Keyed.key c.args.row (records c.args.self.now) (rw (← c.number.ensures) c.in_err-at.ensures.0))

pub invariant_of-self : goal.invariant_of-self
invariant_of-self g c =
    let key = g.R.Keyed.key in
    let before = c.args.self.now in
    let row = c.args.row in
    let rs = records before in
    let at = c.in_ok-at.at in
    let there = c.in_ok-at.ensures in
    let place : at ≡ place_of key (key row) rs = rw (← c.number.ensures) there.0 in
    let put = put_over before at row (replaced key row rs) there.1 (ap (λ (i : ℕ). set rs i row) place ∙ set-place_of key row rs) in
    let new : c.put.new.memory ≡ laid (replaced key row rs) (memory before) = c.put.ensures.after ∙ put.0 in
    record { rising = subst (InOrder key) (sym (records_changed before _ before.standing (replaced key row rs) new put.1)) (ordered_replaced key row rs before.rising) }

pub returns : goal.returns
returns g c =
    let key = g.R.Keyed.key in
    let before = c.args.self.now in
    let row = c.args.row in
    let rs = records before in
    let at = c.in_ok-at.at in
    let there = c.in_ok-at.ensures in
    let place : at ≡ place_of key (key row) rs = rw (← c.number.ensures) there.0 in
    let put = put_over before at row (replaced key row rs) there.1 (ap (λ (i : ℕ). set rs i row) place ∙ set-place_of key row rs) in
    let new : c.put.new.memory ≡ laid (replaced key row rs) (memory before) = c.put.ensures.after ∙ put.0 in
    record {
      answer = lookup-place_of key (key row) at c.put.result rs place there.1 (read_record before at c.put.result there.1 c.put.ensures.old);
      records = records_changed before _ before.standing (replaced key row rs) new put.1;
      untouched = tt;
      kept = kept_changed before _ (replaced key row rs) new put.1 refl;
    }
