use Rattle.std.proofs.Common.{◌≤◌, ◌^◌, length, arith, rules, tests}
use Rattle.std.proofs.lemmas.Iterator.{YieldsList-from_slice}
use Rattle.std.proofs.lemmas.Iterator.Adapters.{fits_from_length, at_most_from_yields_List}
use Rattle.largest.proofs.packing.count_from.Goals as goal

pub sum-requires-clause-fits : goal.sum-requires-clause-fits
sum-requires-clause-fits c =
    let few : length c.args.sheet.now ≤ 2 ^ 63 = omega arith in
    fits_from_length _ _ (2 ^ 63) (2 ^ 64) (at_most_from_yields_List (YieldsList-from_slice c.args.sheet.now cc) few) c.map.ensures.closure (omega arith) (λ x r q k. search (rules, tests))
