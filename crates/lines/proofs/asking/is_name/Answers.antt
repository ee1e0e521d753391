use Rattle.std.proofs.Common.{◌≤◌, length, rules, tests}
use Rattle.std.proofs.lemmas.Iterator.{YieldsList-from_slice}
use Rattle.std.proofs.lemmas.Iterator.Search.{all_from_yields_List}
use Rattle.std.proofs.lemmas.Map.Keys.{le_from_is_le}
use Rattle.lines.specs.Questions.{name_byte}
use Rattle.lines.proofs.Fields.{name_of_bytes}
use Rattle.lines.proofs.asking.is_name.Goals as goal

pub returns-then-contains : goal.returns-then-contains
returns-then-contains c =
    let bs = c.args.bytes.now in
    let some : 1 ≤ length bs = le_from_is_le _ _ (rw c.new.ensures.start at c.if-contains.ensures.cases.0) in
    let few : length bs ≤ 24 = le_from_is_le _ _ (rw c.new.ensures.end at c.if-contains.ensures.cases.1) in
    name_of_bytes bs c.all.result some few (all_from_yields_List name_byte _ _ c.all.result c.all.ensures.ran (YieldsList-from_slice bs cc) (λ x b q k. search (rules, tests)))
