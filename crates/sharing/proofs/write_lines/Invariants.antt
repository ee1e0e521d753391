use Rattle.std.proofs.Common.{◌≡◌, ◌++◌, take, drop, length, ◌≤◌, string_bytes, sum_by}
use Rattle.divider.specs.Shares.{whole, rest}
use Rattle.sharing.specs.Table.{lines}
use Rattle.sharing.proofs.write_lines.Given as goal

abbrev pub invariant-loop-i : goal.invariant-loop-i
invariant-loop-i l = record {
  within : l.i-iterator.count ≤ length l.weights;
  weights : l.i-iterator.iter.a.rest.now ≡ drop l.i-iterator.count l.weights;
  shares : l.i-iterator.iter.b.rest.now ≡ drop l.i-iterator.count l.shares;
  text : string_bytes l.text ≡ string_bytes l.initial.text ++ lines l.total l.weights l.shares l.i-iterator.count;
  wholes : l.wholes ≡ sum_by (whole l.total l.sum) (take l.i-iterator.count l.weights);
  rests : l.rests ≡ sum_by (rest l.total l.sum) (take l.i-iterator.count l.weights);
}
