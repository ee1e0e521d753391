use Rattle.std.proofs.Common.{◌+◌, string_bytes, sym, ap, ◌∙◌, arith}
use Rattle.divider.specs.Shares.{whole, rest}
use Rattle.sharing.proofs.Lines.{next_at, text_more, wholes_more, rests_more}
use Rattle.sharing.proofs.write_lines.Goals as goal

pub overflow_add-wholes : goal.overflow_add-wholes
overflow_add-wholes c =
    let e = sym c.loop-i.invariant.weights ∙ c.in-Some.ensures.steps.0.0 in
    let m = wholes_more c.args.total c.args.sum c.args.weights.now c.requires.0 c.loop-i.i-iterator.count c.in-Some.weight.now _ e in
    omega (arith, c.loop-i.invariant.wholes, m.0, m.1)

pub overflow_add-rests : goal.overflow_add-rests
overflow_add-rests c =
    let e = sym c.loop-i.invariant.weights ∙ c.in-Some.ensures.steps.0.0 in
    let m = rests_more c.args.total c.args.sum c.args.weights.now c.requires.0 c.loop-i.i-iterator.count c.in-Some.weight.now _ e in
    omega (arith, c.loop-i.invariant.rests, m.0, m.1)

pub loop-i-preserved : goal.loop-i-preserved
loop-i-preserved c =
    let t = c.args.total in
    let s = c.args.sum in
    let ws = c.args.weights.now in
    let i = c.loop-i.i-iterator.count in
    let w = c.in-Some.weight.now in
    let e = sym c.loop-i.invariant.weights ∙ c.in-Some.ensures.steps.0.0 in
    let f = sym c.loop-i.invariant.shares ∙ c.in-Some.ensures.steps.0.1 in
    let n = next_at ws _ i w e in
    rw c.in-Some.ensures.steps.2 (record {
      within = omega (arith, n.0);
      weights = n.2;
      shares = (next_at c.args.shares.now _ i c.in-Some.share.now f).2;
      text = text_more t s ws c.requires.0 i w _ e c.args.shares.now _ c.in-Some.share.now f (string_bytes c.args.text.now) (string_bytes c.loop-i.text) _ c.loop-i.invariant.text (rw c.in-Some.ensures.steps.1 at c.in_ok-write_row.ensures);
      wholes = ap (λ n. n + whole t s w) c.loop-i.invariant.wholes ∙ (wholes_more t s ws c.requires.0 i w _ e).0;
      rests = ap (λ n. n + rest t s w) c.loop-i.invariant.rests ∙ (rests_more t s ws c.requires.0 i w _ e).0;
    })
