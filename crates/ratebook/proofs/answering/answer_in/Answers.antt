use Rattle.std.proofs.Common.{◌≡◌, rules, ap, ◌∙◌, sym, subst}
use Rattle.std.specs.Io.KnownBytes.{Appends}
use Rattle.printing.specs.Listings.{text}
use Rattle.ratebook.specs.Answers.{status_of, fault_status}
use Rattle.streams.specs.Written.{AppendsFront}
use Rattle.ratebook.proofs.Whole.{page_comes, takes_page}
use Rattle.ratebook.proofs.answering.answer_in.Goals as goal
use Rattle.ratebook.proofs.answering.answer_in.Goals.{in-Some+in_default-write_line, in_default-fault}

pub returns-in-Err-write_all : goal.returns-in-Err-write_all
returns-in-Err-write_all g c =
    let written = page_comes g.D.Divider.meaning c.args.divider _ _ _ (λ page o. AppendsFront _ _ (text page o) × (_ ≡ status_of o)) (search rules) c.in-Ok.ensures.fits c.in-Ok.ensures.bytes c.in-Ok.ensures.whole c.print_page-printed.ensures.prints (λ page o h. (subst (AppendsFront _ _) h.0 c.in-Err-write_all.ensures.front, c.status_of-status.ensures ∙ h.1)) in
    record { answers = (written, search rules); taken = takes_page _ _ _ _ (search rules) c.in-Ok.ensures.fits c.in-Ok.ensures.bytes c.in-Ok.ensures.whole }

pub returns-in-Err-write_line : goal.returns-in-Err-write_line
returns-in-Err-write_line g c =
    record { answers = page_comes g.D.Divider.meaning c.args.divider _ _ _ _ (search rules) c.in-Ok.ensures.fits c.in-Ok.ensures.bytes c.in-Ok.ensures.whole c.print_page-printed.ensures.prints (λ page o h. (subst (Appends _ _) h.0 c.in_default.ensures.whole, sym h.1 ∙ ap fault_status c.in-Some.is)); taken = takes_page _ _ _ _ (search rules) c.in-Ok.ensures.fits c.in-Ok.ensures.bytes c.in-Ok.ensures.whole }

pub returns : goal.returns
returns g c =
    record { answers = page_comes g.D.Divider.meaning c.args.divider _ _ _ _ (search rules) c.in-Ok.ensures.fits c.in-Ok.ensures.bytes c.in-Ok.ensures.whole c.print_page-printed.ensures.prints (λ page o h. (subst (Appends _ _) h.0 c.in_default.ensures.whole, c.status_of-status.ensures ∙ h.1, search rules)); taken = takes_page _ _ _ _ (search rules) c.in-Ok.ensures.fits c.in-Ok.ensures.bytes c.in-Ok.ensures.whole }
