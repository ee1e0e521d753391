use Rattle.std.proofs.Common.{Ok, Err, refl}
use Rattle.page.specs.Billed.{closed_of}
use Rattle.printing.proofs.Columns.{comes_listable, comes_adds_up}
use Rattle.printing.proofs.printed.print_page.Goals as goal

pub write_listing-requires-clause-listable : goal.write_listing-requires-clause-listable
write_listing-requires-clause-listable g c =
    comes_listable g.D.Divider.meaning c.args.divider c.args.page.now (closed_of c.in-Ok.billed) c.in-Ok.ensures.comes

pub returns-in-Ok-clause-prints : goal.returns-in-Ok-clause-prints
returns-in-Ok-clause-prints g c =
    record {
      outcome = Ok (closed_of c.in-Ok.billed);
      comes = c.in-Ok.ensures.comes;
      only = c.in-Ok.ensures.only;
      adds_up = comes_adds_up g.D.Divider.meaning g.met.D.Divider.fair c.args.divider c.args.page.now (Ok (closed_of c.in-Ok.billed)) c.in-Ok.ensures.comes;
      fault = refl;
      count = c.write_listing.ensures.count;
      after = c.write_listing.ensures.after;
    }

pub returns-in-Err-clause-prints : goal.returns-in-Err-clause-prints
returns-in-Err-clause-prints g c =
    record {
      outcome = Err c.in-Err.fault;
      comes = c.in-Err.ensures.comes;
      only = c.in-Err.ensures.only;
      adds_up = tt;
      fault = refl;
      count = c.write_fault.ensures.count;
      after = c.write_fault.ensures.after;
    }
