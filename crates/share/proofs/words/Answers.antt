use Rattle.std.proofs.Common.{ap, ◌∙◌}
use Rattle.std.specs.Vec.Iter.{into_iter_items, into_iter_len}
use Rattle.std.proofs.lemmas.Iterator.{items_from_collect}
use Rattle.std.proofs.lemmas.Iterator.Adapters.{YieldsList-from_vec, YieldsList-from_skip}
use Rattle.share.proofs.words.Goals as goal

pub returns : goal.returns
returns c =
    let is = c.skip.ensures.source in
    items_from_collect c.collect.result c.collect.ensures.ran (YieldsList-from_skip 1 (YieldsList-from_vec (into_iter_items c.args.arguments) (ap into_iter_items is) (ap into_iter_len is ∙ c.args.arguments.rest.ok.0)) c.skip.ensures.count)
