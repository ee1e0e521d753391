use Rattle.std.proofs.Common.{◌+◌, ◌*◌, map, length, ap, ◌∙◌, arith}
use Rattle.divider.specs.Questions.{Passes}
use Rattle.divider.proofs.Asking.{passed}
use Rattle.largest.specs.Largest.{by_remainders}
use Rattle.largest.specs.Packing.{reached, raised, share_of}
use Rattle.largest.proofs.Packed.{ready, none_reaches, all_reach, shares_by}
use Rattle.largest.proofs.LargestRemainderDivider.divide.Goals as goal

pub cut_at-cut-requires : goal.cut_at-cut-requires
cut_at-cut-requires c =
    let p = c.new-packing.result in
    let ws = c.args.weights.now in
    let q : Passes p.total ws = rw c.new-packing.ensures.0 (passed c.args.total ws (length c.args.sheet.now) c.in_ok-sum.ensures.0) in
    let r = ready p ws (c.new-packing.ensures.1 ∙ c.in_ok-sum.ensures.1) q in
    let w = c.split-left.ensures.written in
    let n = ap (λ xs. reached p.unit 0 xs) w in (
      ap (λ xs. reached p.unit p.sum xs) w ∙ none_reaches p.total p.sum p.unit ws r,
      omega (arith, c.split-left.ensures.left, all_reach p.total p.sum p.unit ws r),
    )

pub returns : goal.returns
returns c =
    let p = c.new-packing.result in
    let ws = c.args.weights.now in
    let q : Passes p.total ws = rw c.new-packing.ensures.0 (passed c.args.total ws (length c.args.sheet.now) c.in_ok-sum.ensures.0) in
    let r = ready p ws (c.new-packing.ensures.1 ∙ c.in_ok-sum.ensures.1) q in
    let a = c.cut_at-cut.result.mark in
    let n = c.cut_at-cut.result.spare in
    let w = c.split-left.ensures.written in
    let d = rw w at c.cut_at-cut.ensures.divides in
    let d' = rw c.split-left.ensures.left at d in
    let f = map (share_of p.unit (a * p.unit + p.unit)) in
    (c.in_ok-sum.ensures.0, c.unpack.ensures ∙ ap f c.raise.ensures ∙ ap (λ xs. f (raised p.unit (a * p.unit) n xs)) w ∙ shares_by p.total p.sum p.unit ws r a n d' ∙ ap (λ t. by_remainders t ws) c.new-packing.ensures.0)
