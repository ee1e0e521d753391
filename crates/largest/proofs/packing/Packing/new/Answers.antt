use Rattle.std.proofs.Common.{arith}
use Rattle.largest.proofs.Packed.{mask_is, unit_fits, room}
use Rattle.largest.proofs.packing.Packing.new.Goals as goal

pub invariant_of-result : goal.invariant_of-result
invariant_of-result c =
    let e = c.next_power_of_two-unit.ensures in
    let u = c.next_power_of_two-unit.result in
    let f = unit_fits c.args.total c.args.sum u c.requires.1 c.requires.2 e.power e.upper_bound in
    record {
      some = c.requires.0;
      over = omega (arith, e.lower_bound);
      room = room c.args.sum u f e.power c.next_power_of_two-unit.type_inv;
      masks = λ x. mask_is u x e.power;
    }
