use Rattle.std.proofs.Common.{◌≡◌, ℕ, ◌<◌, List, length, get_or, take, sym, ap, ◌∙◌, arith}
use Rattle.std.specs.Fn.{FnReturnsAt}
use Rattle.std.specs.List.{AllZip}
use Rattle.std.proofs.lemmas.List.Sums.{get_or-le-sum_by}
use Rattle.divider.specs.Shares.{Fair}
use Rattle.register.specs.Register.{records}
use Rattle.book.specs.Rates.{on_top}
use Rattle.book.proofs.SheetParts.{front_on_top}
use Rattle.book.proofs.Weighings.{zip_length}
use Rattle.book.proofs.sharing.share_out.Goals as goal

-- the shares stand in the first places of the sheet
front : (t n : ℕ) (by shares ss ss' : List ℕ) → Fair t by shares → ss' ≡ on_top shares ss → n ≡ length by → take n ss' ≡ shares
front t n by shares ss ss' fair e is = ap (take n) e ∙ front_on_top shares ss n (fair.len ∙ sym is)

-- each of them is below what the total is below
each_small : (t most : ℕ) (by shares : List ℕ) → Fair t by shares → t < most → (k : ℕ) → k < length shares → get_or shares k 0 < most
each_small t most by shares fair h k l = omega (arith, get_or-le-sum_by (λ (x : ℕ). x) shares k 0 l, fair.adds_up)

pub write_shares-requires-clause-small : goal.write_shares-requires-clause-small
write_shares-requires-clause-small g c =
    let now = c.divide_by.ensures in
    let t = c.args.total in
    let zip : AllZip (FnReturnsAt g.F.Fn c.args.weight) (records c.args.customers.now) now.0 = rw c.records.ensures at now.1 in
    let fair = g.met.D.Divider.fair c.args.divider.now t now.0 (c.requires.passes now.0 zip) in
    let first = front t c.len-n.result now.0 _ c.args.shares.now c.divide_by.new.shares fair now.2.shared (c.len-n.ensures ∙ sym (zip_length _ (records c.args.customers.now) now.0 zip)) in
    λ k. rw first (each_small t _ now.0 _ fair c.requires.small k)

pub returns-clause-done : goal.returns-clause-done
returns-clause-done g c =
    let now = c.divide_by.ensures in
    let t = c.args.total in
    let zip : AllZip (FnReturnsAt g.F.Fn c.args.weight) (records c.args.customers.now) now.0 = rw c.records.ensures at now.1 in
    let fair = g.met.D.Divider.fair c.args.divider.now t now.0 (c.requires.passes now.0 zip) in
    let first = front t c.len-n.result now.0 _ c.args.shares.now c.divide_by.new.shares fair now.2.shared (c.len-n.ensures ∙ sym (zip_length _ (records c.args.customers.now) now.0 zip)) in
    (now.0, zip, ((rw first at c.write_shares.ensures.done), now.2))
