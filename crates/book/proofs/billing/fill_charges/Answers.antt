use Rattle.std.proofs.Common.{pos, ◌-ℤ◌, sym, ◌∙◌, arith}
use Rattle.std.proofs.lemmas.List.{ext_get_or, get_or-map, length-map}
use Rattle.book.specs.Rates.{like}
use Rattle.book.proofs.billing.fill_charges.Goals as goal

pub returns : goal.returns
returns c =
    let ss = c.args.shares.now in
    ext_get_or (pos 0) _ _ (omega (arith, c.requires.each, length-map ss (like (pos c.args.costs -ℤ pos c.args.credits)))) (λ k h. c.loop-i.invariant k (omega (arith, c.requires.each)) ∙ sym (get_or-map (like (pos c.args.costs -ℤ pos c.args.credits)) ss k 0 (pos 0) (omega (arith, c.requires.each))))
