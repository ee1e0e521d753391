use Rattle.std.proofs.Common.{◌*◌, map, length}
use Rattle.register.specs.Register.{records}
use Rattle.rows.specs.Rows.{parts_after}
use Rattle.lines.specs.Lines.{line_of}
use Rattle.listing.specs.Listing.{longest}
use Rattle.printing.specs.Listings.{numbers, rows_of}
use Rattle.printing.proofs.Rows.{Going}
use Rattle.printing.proofs.listing_of.write_rows.Given as goal

abbrev pub invariant-loop-rest : goal.invariant-loop-rest
invariant-loop-rest g l =
    let lines = map line_of (parts_after 10 l.lines) in
    Going (records l.customers) l.charges (rows_of (records l.customers) l.charges lines) l.initial.buffer (longest * length (numbers lines)) (map line_of (parts_after 10 l.rest)) l.at l.buffer

abbrev pub decreases-loop-rest : goal.decreases-loop-rest
decreases-loop-rest g l = length (parts_after 10 l.rest)
