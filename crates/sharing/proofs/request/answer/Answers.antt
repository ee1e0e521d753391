use Rattle.std.proofs.Common.{◌-◌, arith, map, length, get_or, take, drop, string_bytes}
use Rattle.std.proofs.lemmas.Grind.{common_steps}
use Rattle.sharing.proofs.Requests.{answered}
use Rattle.sharing.proofs.request.answer.Goals as goal

pub returns : goal.returns
returns c =
    let xs = c.as_slice.result.now in
    answered (map string_bytes c.args.words.now) c.in_ok-rule.rule (get_or xs 0 0) (take (length xs - 1) (drop 1 xs)) c.table.result c.table.ensures (grind (arith, common_steps))
