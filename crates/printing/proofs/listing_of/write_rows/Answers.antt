use Rattle.std.proofs.Common.{◌≡◌, map, true, is_some, None, Ok, sym, ap, ◌∙◌, subst}
use Rattle.std.proofs.lemmas.List.Elements.{All-head}
use Rattle.register.specs.Records.{lookup}
use Rattle.register.specs.Register.{records}
use Rattle.rows.specs.Rows.{parts_after}
use Rattle.book.specs.Customers.{key}
use Rattle.lines.specs.Lines.{answer_of, contents, fault_in, line_of}
use Rattle.lines.proofs.Trips.{customer_named}
use Rattle.printing.specs.Listings.{numbers}
use Rattle.printing.proofs.Rows.{first_left, next_row, all_written, rows_none, no_customer}
use Rattle.printing.proofs.listing_of.write_rows.Goals as goal

pub write_row-at-requires-clause-stands : goal.write_row-at-requires-clause-stands
write_row-at-requires-clause-stands g c =
    let reads = sym c.read.ensures.reads ∙ ap answer_of (c.in-Ok.is ∙ ap Ok c.in-Customer.is) in
    let going = first_left _ _ _ _ _ c.split.result c.loop-rest.invariant c.in-Some.is c.split.ensures reads in
    All-head (λ n. is_some (lookup key n (records c.args.customers.now)) ≡ true) c.in-Customer.figures.number (numbers (map line_of (parts_after 10 c.split.result.1))) going.stand

pub write_row-at-requires-clause-name : goal.write_row-at-requires-clause-name
write_row-at-requires-clause-name g c =
    customer_named c.in-Customer.name.now c.in-Customer.figures (subst (λ l. fault_in (contents l) ≡ None) c.in-Customer.is c.in-Ok.ensures.writes.0)

pub loop-rest-preserved : goal.loop-rest-preserved
loop-rest-preserved g c =
    let reads = sym c.read.ensures.reads ∙ ap answer_of (c.in-Ok.is ∙ ap Ok c.in-Customer.is) in
    let going = first_left _ _ _ _ _ c.split.result c.loop-rest.invariant c.in-Some.is c.split.ensures reads in
    next_row _ _ _ _ _ going c.write_row-at.ensures.count c.write_row-at.ensures.short c.write_row-at.ensures.after

pub returns-in_default-read : goal.returns-in_default-read
returns-in_default-read g c =
    let reads = sym c.read.ensures.reads ∙ ap answer_of c.in_default-read.is in
    let going = first_left _ _ _ _ _ c.split.result c.loop-rest.invariant c.in-Some.is c.split.ensures reads in
    let done = all_written _ _ _ _ _ going (rows_none _ _ (map line_of (parts_after 10 c.split.result.1)) going.first) in
    record { count = done.0; few = done.1; after = done.2 }

pub returns-in_default-read-2 : goal.returns-in_default-read-2
returns-in_default-read-2 g c =
    let reads = sym c.read.ensures.reads ∙ ap answer_of c.in-Ok.is in
    let going = first_left _ _ _ _ _ c.split.result c.loop-rest.invariant c.in-Some.is c.split.ensures reads in
    let done = all_written _ _ _ _ _ going (no_customer _ _ c.in-Ok.read (map line_of (parts_after 10 c.split.result.1)) c.in_default-read-2.not-Customer going.first) in
    record { count = done.0; few = done.1; after = done.2 }
