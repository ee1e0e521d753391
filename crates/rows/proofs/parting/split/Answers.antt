use Rattle.std.proofs.Common.{◌+◌, ◌∷◌, ◌==◌, take, sym, ap, ◌∙◌, rules, tests}
use Rattle.std.proofs.lemmas.List.{take_rest}
use Rattle.std.proofs.lemmas.Iterator.{YieldsList-from_slice}
use Rattle.std.proofs.lemmas.Iterator.Search.{position_from_yields_List}
use Rattle.rows.specs.Rows.{parted}
use Rattle.rows.proofs.Parts.{split_at, split_none}
use Rattle.rows.proofs.parting.split.Goals as goal

pub returns-in-Some : goal.returns-in-Some
returns-in-Some c =
    let s = c.args.separator in
    let bs = c.args.bytes.now in
    let i = c.in-Some.at in
    let e = position_from_yields_List (λ b. b == s) _ _ c.position.result c.position.ensures.ran (YieldsList-from_slice bs (cc)) (λ x b q k. search (rules, tests)) in
    ap (λ ds. take i bs ∷ parted s ds) (take_rest bs (i + 1)) ∙ split_at s bs i (sym e ∙ c.in-Some.is)

pub returns-in-None : goal.returns-in-None
returns-in-None c =
    let s = c.args.separator in
    let bs = c.args.bytes.now in
    let e = position_from_yields_List (λ b. b == s) _ _ c.position.result c.position.ensures.ran (YieldsList-from_slice bs (cc)) (λ x b q k. search (rules, tests)) in
    split_none s bs (sym e ∙ c.in-None.is)
