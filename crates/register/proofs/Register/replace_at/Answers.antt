use Rattle.std.proofs.Common.{◌≡◌, ◌<◌, get_or, length, None, sym, refl, ap, subst, ◌∙◌, arith}
use Rattle.register.specs.Records.{lookup_at, replaced_at, InOrder}
use Rattle.register.specs.Register.{memory, records, laid}
use Rattle.register.proofs.Change.{kept_same, put_over, read_record, records_changed, kept_changed}
use Rattle.register.proofs.Lookups.{lookup_at_past, lookup_at_other, lookup_at_read, replaced_at-set, replaced_at-missing}
use Rattle.register.proofs.Order.{ordered_replaced_at}
use Rattle.register.proofs.Register.replace_at.Goals as goal
use Rattle.register.proofs.Register.replace_at.Goals.{in_default-via-in-Some+else-number, in_default-via-in_default}

pub returns-in_default : goal.returns-in_default
returns-in_default g c =
    let key = g.R.Keyed.key in
    let before = c.args.self.now in
    let rs = records before in
    let missing : lookup_at key c.args.at (key c.args.row) rs ≡ None =
    elim c.in_default.branch [
      | in_default-via-in-Some+else-number w ↦
          let read = w.in-Some.ensures in
          lookup_at_other key c.args.at (key c.args.row) w.in-Some.old.now rs (cc) (λ q. w.if-number.false (w.number.ensures ∙ q ∙ sym c.number-number.ensures))
      | in_default-via-in_default w ↦
          let past = w.in_default.ensures in
          lookup_at_past key c.args.at (key c.args.row) rs (omega (arith, ap length c.records.ensures))
    ] in
    record {
      answer = (missing, refl);
      records = sym (replaced_at-missing key c.args.at c.args.row rs missing);
      untouched = refl;
      kept = kept_same before;
    }

pub invariant_of-self : goal.invariant_of-self
invariant_of-self g c =
    let key = g.R.Keyed.key in
    let before = c.args.self.now in
    let row = c.args.row in
    let rs = records before in
    let at = c.args.at in
    let stands = c.in-Some.ensures in
    let lt : at < length rs = omega (arith, ap length c.records.ensures, stands.lookup.3.0) in
    let old = c.put.result in
    let is : old ≡ get_or rs at old = read_record before at old lt c.put.ensures.old in
    let seen : c.in-Some.old.now ≡ get_or rs at old = rw (← c.records.ensures) (stands.lookup.3.1 old) in
    let number : key old ≡ key row = ap key (is ∙ sym seen) ∙ sym c.number.ensures ∙ c.if-number.true ∙ c.number-number.ensures in
    let put = put_over before at row (replaced_at key at row rs) lt (sym (replaced_at-set key at row old rs lt is number)) in
    let new : c.put.new.memory ≡ laid (replaced_at key at row rs) (memory before) = c.put.ensures.after ∙ put.0 in
    record { rising = subst (InOrder key) (sym (records_changed before _ before.standing (replaced_at key at row rs) new put.1)) (ordered_replaced_at key at row rs before.rising) }

pub returns-in-Some : goal.returns-in-Some
returns-in-Some g c =
    let key = g.R.Keyed.key in
    let before = c.args.self.now in
    let row = c.args.row in
    let rs = records before in
    let at = c.args.at in
    let stands = c.in-Some.ensures in
    let lt : at < length rs = omega (arith, ap length c.records.ensures, stands.lookup.3.0) in
    let old = c.put.result in
    let is : old ≡ get_or rs at old = read_record before at old lt c.put.ensures.old in
    let seen : c.in-Some.old.now ≡ get_or rs at old = rw (← c.records.ensures) (stands.lookup.3.1 old) in
    let number : key old ≡ key row = ap key (is ∙ sym seen) ∙ sym c.number.ensures ∙ c.if-number.true ∙ c.number-number.ensures in
    let put = put_over before at row (replaced_at key at row rs) lt (sym (replaced_at-set key at row old rs lt is number)) in
    let new : c.put.new.memory ≡ laid (replaced_at key at row rs) (memory before) = c.put.ensures.after ∙ put.0 in
    record {
      answer = lookup_at_read key at (key row) old rs lt is number;
      records = records_changed before _ before.standing (replaced_at key at row rs) new put.1;
      untouched = tt;
      kept = kept_changed before _ (replaced_at key at row rs) new put.1 refl;
    }
