use Rattle.std.proofs.Common.{rules}
use Rattle.std.proofs.lemmas.List.Sorted.{answers_always}
use Rattle.register.proofs.Bisect.{located}
use Rattle.register.proofs.slices.place_of.Goals as goal

pub returns : goal.returns
returns g c =
    let key = g.R.Keyed.key in
    let facts = c.binary_search_by_key.ensures in
    let by_key = facts.position key (answers_always _ _ _ (λ f a r f' called. search rules)) in
    located key c.args.number c.args.records.now c.requires c.binary_search_by_key.result facts.bound by_key
