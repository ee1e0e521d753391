use Rattle.std.proofs.Common.{rules, ◌≡◌, ℕ, ◌-◌, true, List, ◌∷◌, map, length, take, drop, is_some, sym, ap, ◌∙◌, subst, arith}
use Rattle.std.specs.List.{All}
use Rattle.std.proofs.lemmas.List.{length-append, length-drop, length-take}
use Rattle.register.specs.Records.{lookup}
use Rattle.register.specs.Register.{records}
use Rattle.book.specs.Customers.{key}
use Rattle.rows.specs.Rows.{parted, parts_after}
use Rattle.rows.proofs.Placing.{Written, written_more}
use Rattle.lines.specs.Lines.{line_of}
use Rattle.listing.specs.Listing.{sum_row}
use Rattle.page.specs.Pages.{Reading, page_lines}
use Rattle.page.specs.Billed.{closed_of}
use Rattle.printing.specs.Listings.{rows_of}
use Rattle.printing.specs.Steps.{Listable}
use Rattle.printing.proofs.Rows.{past_header, standing}
use Rattle.printing.proofs.listing_of.write_listing.Goals as goal

pub write_rows-at-requires-clause-first : goal.write_rows-at-requires-clause-first
write_rows-at-requires-clause-first g c =
    let billed = c.args.billed.now in
    let rs = map line_of (parts_after 10 c.split.result.1) in
    let is : map line_of (page_lines c.args.page.now) ≡ line_of c.split.result.0.now ∷ rs = ap (λ (n : ℕ). map line_of (parted 10 (take n c.args.page.now))) (sym c.saturating_sub.ensures) ∙ ap (map line_of) (sym c.split.ensures) in
    let listable = subst (λ (t : List Reading). Listable t (closed_of billed)) is c.requires.listable in
    let head = past_header (line_of c.split.result.0.now) rs listable.headed in
    let long : length billed.customers ≡ 512 = search rules in
    let stand : records c.of-customers.result ≡ take billed.standing billed.customers = c.of-customers.ensures.records ∙ standing billed.customers billed.standing long listable.ordered in
    head.0

pub write_rows-at-requires-clause-stand : goal.write_rows-at-requires-clause-stand
write_rows-at-requires-clause-stand g c =
    let billed = c.args.billed.now in
    let rs = map line_of (parts_after 10 c.split.result.1) in
    let is : map line_of (page_lines c.args.page.now) ≡ line_of c.split.result.0.now ∷ rs = ap (λ (n : ℕ). map line_of (parted 10 (take n c.args.page.now))) (sym c.saturating_sub.ensures) ∙ ap (map line_of) (sym c.split.ensures) in
    let listable = subst (λ (t : List Reading). Listable t (closed_of billed)) is c.requires.listable in
    let head = past_header (line_of c.split.result.0.now) rs listable.headed in
    let long : length billed.customers ≡ 512 = search rules in
    let stand : records c.of-customers.result ≡ take billed.standing billed.customers = c.of-customers.ensures.records ∙ standing billed.customers billed.standing long listable.ordered in
    rw (stand) (subst (All (λ n. is_some (lookup key n (take billed.standing billed.customers)) ≡ true)) head.1 listable.stand)

pub write_rows-at-requires-clause-room : goal.write_rows-at-requires-clause-room
write_rows-at-requires-clause-room g c =
    let billed = c.args.billed.now in
    let rs = map line_of (parts_after 10 c.split.result.1) in
    let is : map line_of (page_lines c.args.page.now) ≡ line_of c.split.result.0.now ∷ rs = ap (λ (n : ℕ). map line_of (parted 10 (take n c.args.page.now))) (sym c.saturating_sub.ensures) ∙ ap (map line_of) (sym c.split.ensures) in
    let listable = subst (λ (t : List Reading). Listable t (closed_of billed)) is c.requires.listable in
    let head = past_header (line_of c.split.result.0.now) rs listable.headed in
    let long : length billed.customers ≡ 512 = search rules in
    let stand : records c.of-customers.result ≡ take billed.standing billed.customers = c.of-customers.ensures.records ∙ standing billed.customers billed.standing long listable.ordered in
    omega (arith, ap length head.1, listable.few, c.requires.room)

pub write_sums-requires : goal.write_sums-requires
write_sums-requires g c =
    let billed = c.args.billed.now in
    let rs = map line_of (parts_after 10 c.split.result.1) in
    let is : map line_of (page_lines c.args.page.now) ≡ line_of c.split.result.0.now ∷ rs = ap (λ (n : ℕ). map line_of (parted 10 (take n c.args.page.now))) (sym c.saturating_sub.ensures) ∙ ap (map line_of) (sym c.split.ensures) in
    let listable = subst (λ (t : List Reading). Listable t (closed_of billed)) is c.requires.listable in
    let head = past_header (line_of c.split.result.0.now) rs listable.headed in
    let long : length billed.customers ≡ 512 = search rules in
    let stand : records c.of-customers.result ≡ take billed.standing billed.customers = c.of-customers.ensures.records ∙ standing billed.customers billed.standing long listable.ordered in
    let b = c.write_rows-at.new.buffer in
    let rows = rows_of (records c.of-customers.result) billed.charges rs in
    let size : length b ≡ length c.args.buffer.now = omega (arith, ap length c.write_rows-at.ensures.after, length-append rows (drop (length rows) c.args.buffer.now), length-drop (length rows) c.args.buffer.now, c.write_rows-at.ensures.count, c.write_rows-at.ensures.few, ap length head.1, listable.few, c.requires.room) in
    omega (arith, length-take (length b - c.write_rows-at.result) (drop c.write_rows-at.result b), length-drop c.write_rows-at.result b, c.write_rows-at.ensures.few, ap length head.1, listable.few, c.requires.room)

pub returns : goal.returns
returns g c =
    let billed = c.args.billed.now in
    let rs = map line_of (parts_after 10 c.split.result.1) in
    let is : map line_of (page_lines c.args.page.now) ≡ line_of c.split.result.0.now ∷ rs = ap (λ (n : ℕ). map line_of (parted 10 (take n c.args.page.now))) (sym c.saturating_sub.ensures) ∙ ap (map line_of) (sym c.split.ensures) in
    let listable = subst (λ (t : List Reading). Listable t (closed_of billed)) is c.requires.listable in
    let head = past_header (line_of c.split.result.0.now) rs listable.headed in
    let long : length billed.customers ≡ 512 = search rules in
    let stand : records c.of-customers.result ≡ take billed.standing billed.customers = c.of-customers.ensures.records ∙ standing billed.customers billed.standing long listable.ordered in
    let b = c.write_rows-at.new.buffer in
    let closed = closed_of billed in
    let rows = rows_of closed.customers billed.charges rs in
    let sums = sum_row billed.book.costs billed.book.credits closed.customers in
    let rows_are : rows_of closed.customers billed.charges (map line_of (page_lines c.args.page.now)) ≡ rows = ap (rows_of closed.customers billed.charges) is ∙ head.2 closed.customers billed.charges in
    let first : Written rows c.args.buffer.now b c.write_rows-at.result = rw (← stand) (c.write_rows-at.ensures.count, c.write_rows-at.ensures.after) in
    let both = written_more rows sums c.args.buffer.now b c.write_sums.new.buffer c.write_rows-at.result c.write_sums.result first (rw (← stand) c.write_sums.ensures.count) (rw (← stand) c.write_sums.ensures.after) in
    record {
      count = rw (rows_are) both.0;
      after = rw (rows_are) both.1;
    }
