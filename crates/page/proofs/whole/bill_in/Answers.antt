use Rattle.std.proofs.Common.{◌≡◌, ℕ, ◌-◌, ◌≤◌, ◌==◌, List, [], ◌∷◌, ◌++◌, length, take, drop, replicate, ℤ, pos, Ok, Err, Option, Result, sym, ap, ◌∙◌, subst, arith, rules, Bor}
use Rattle.std.proofs.lemmas.List.{length-take, take_at, drop_at, drop-replicate}
use Rattle.std.proofs.lemmas.List.Sums.{count_by-le-length}
use Rattle.std.proofs.lemmas.Result.{err_from_is_err_and}
use Rattle.units.specs.declared.header.Header.{Header}
use Rattle.register.specs.Register.{memory, room, count, records}
use Rattle.records.specs.declared.customer.Customer.{Customer}
use Rattle.book.specs.Customers.{nobody}
use Rattle.book.specs.Rates.{Meaning}
use Rattle.book.specs.declared.stages.Intake.{Intake}
use Rattle.book.specs.declared.stages.ClosedBook.{ClosedBook}
use Rattle.rows.specs.Rows.{parted, parts_after, all_parts}
use Rattle.rows.proofs.Parts.{length_parted}
use Rattle.lines.specs.Lines.{line_of}
use Rattle.page.specs.declared.fault.Cause.TheVariants.{Page}
use Rattle.page.specs.declared.fault.Fault.{Fault}
use Rattle.page.specs.declared.fault.Refusal.{Refusal}
use Rattle.page.specs.declared.fault.Refusal.TheVariants.{TooLong, Unended, HeaderPlace, LateCustomer}
use Rattle.page.specs.Pages.{Reading, at_line, intake_of, Leads, Heads, page_lines, ComesTo, too_long, not_ended, headless, faulted, billed_page}
use Rattle.page.specs.Steps.{Bodies}
use Rattle.page.proofs.Telling.{still_ok, told_as}
use Rattle.page.proofs.whole.bill_in.Goals as goal

refused_page : {D : Type 0} {m : D → Meaning} {d : D} {page : List ℕ} (e : Refusal) → Bodies page (Err e) → ComesTo m d page (Err (at_line 0 (Page e)))
refused_page TooLong s = too_long s
refused_page Unended s = not_ended s.0 s.1
refused_page HeaderPlace s = absurd s
refused_page LateCustomer s = absurd s

-- the lines of the page, as they are split, and how many stand after the first
module _ (page : List ℕ) (body : Bor (List ℕ)) (r : Bor (List ℕ) × Option (Bor (List ℕ))) (s : Bodies page (Ok body)) (split : all_parts 10 r ≡ parted 10 body.now) where
  lines_are : page_lines page ≡ r.0.now ∷ parts_after 10 r.1
  lines_are = ap (parted 10) (sym s.2) ∙ sym split

  few_lines : length (parts_after 10 r.1) ≤ 65536
  few_lines =
      omega (arith, s.0, ap length s.2, length-take (length page - 1) page, ap length split, length_parted 10 body.now, count_by-le-length (λ b. b == 10) body.now)

at_fault : {D : Type 0} {m : D → Meaning} {d : D} {page : List ℕ} {f f' : Fault} → f ≡ f' → ComesTo m d page (Err f') → ComesTo m d page (Err f)
at_fault {D} {m} {d} {page} is x = subst (λ f. ComesTo m d page (Err f)) (sym is) x

-- over a register and a sheet of their own
from_start : {D : Type 0} {m : D → Meaning} {d : D} {h : Header} {rs : List Reading} {r : Result (ClosedBook D) Fault} {cs' : List Customer} {ch' : List ℤ} (places : ℕ) (intake : Intake D) (cs : List Customer) (ch : List ℤ) → places ≡ 512 → intake.divider ≡ d → intake.header ≡ h → cs ≡ [] → ch ≡ replicate 2048 (pos 0) → Leads m places 512 intake cs ch rs r cs' ch' → Leads m 512 512 (intake_of d h) [] (replicate 2048 (pos 0)) rs r cs' ch'
from_start {D} {m} {d} {h} {rs} {r} {cs'} {ch'} places intake cs ch ep ed eh ec es l =
    let ei : intake ≡ intake_of d h = λ i. record { divider = ed i; header = eh i } in
    subst (λ ch. Leads m 512 512 (intake_of d h) [] ch rs r cs' ch') es (subst (λ cs. Leads m 512 512 (intake_of d h) cs ch rs r cs' ch') ec (subst (λ intake. Leads m 512 512 intake cs ch rs r cs' ch') ei (subst (λ places. Leads m places 512 intake cs ch rs r cs' ch') ep l)))

pub lead-requires : goal.lead-requires
lead-requires g c =
    let b = still_ok _ _ _ c.body.result c.in_ok-body.body c.in_ok-body.ensures.cases in
    few_lines c.args.page.now c.in_ok-body.body c.split.result (subst (Bodies c.args.page.now) b c.body.ensures) c.split.ensures

pub returns-in_err-body-clause-comes : goal.returns-in_err-body-clause-comes
returns-in_err-body-clause-comes g c =
    let p = err_from_is_err_and c.from_residual.result c.from_residual.ensures.1 in
    let t = told_as _ _ _ c.body.result c.in_err-body.field-0.0 _ c.in_err-body.ensures.cases in
    let at : c.in_err-body.field-0.0 ≡ at_line 0 (Page t.0) = search rules in
    rw (p.1, p.2) (at_fault at (refused_page t.0 (subst (Bodies c.args.page.now) t.1 c.body.ensures)))

pub returns-in_err-header-clause-comes : goal.returns-in_err-header-clause-comes
returns-in_err-header-clause-comes g c =
    let p = err_from_is_err_and c.from_residual-in_err-header.result c.from_residual-in_err-header.ensures.1 in
    let b = still_ok _ _ _ c.body.result c.in_ok-body.body c.in_ok-body.ensures.cases in
    let s : Bodies c.args.page.now (Ok c.in_ok-body.body) = subst (Bodies c.args.page.now) b c.body.ensures in
    let t = told_as _ _ _ c.header_of.result c.in_err-header.field-0.0 _ c.in_err-header.ensures.cases in
    let at : c.in_err-header.field-0.0 ≡ at_line 1 t.0 = search rules in
    rw (p.1, p.2) (at_fault at (headless s.0 s.1 (lines_are c.args.page.now c.in_ok-body.body c.split.result s c.split.ensures) (subst (Heads (line_of c.split.result.0.now)) t.1 c.header_of.ensures)))

pub returns-in_err-book-clause-comes : goal.returns-in_err-book-clause-comes
returns-in_err-book-clause-comes g c =
    let p = err_from_is_err_and c.from_residual-in_err-book.result c.from_residual-in_err-book.ensures.1 in
    let b = still_ok _ _ _ c.body.result c.in_ok-body.body c.in_ok-body.ensures.cases in
    let s : Bodies c.args.page.now (Ok c.in_ok-body.body) = subst (Bodies c.args.page.now) b c.body.ensures in
    let h = still_ok _ _ _ c.header_of.result c.in_ok-header.header c.in_ok-header.ensures.cases in
    let heads = subst (Heads (line_of c.split.result.0.now)) h c.header_of.ensures in
    rw (p.1, p.2) (faulted s.0 s.1 (lines_are c.args.page.now c.in_ok-body.body c.split.result s c.split.ensures) heads (from_start (room c.args.customers.now) c.new-intake.result (records c.args.customers.now) _ c.requires.room c.new-intake.ensures.divider c.new-intake.ensures.header c.requires.empty c.requires.zeros c.in_err-book.ensures))

-- the records that were copied stand in the first places
copied : (xs rs cs rest : List Customer) → xs ≡ rs → rs ≡ cs → cs ≡ take (length rs) (xs ++ rest)
copied xs rs cs rest e is = sym (take_at xs rest (length rs) (ap length e) ∙ e ∙ is)

with_customers : {D : Type 0} {m : D → Meaning} {d : D} {page : List ℕ} {b : ClosedBook D} {ch : List ℤ} {cs cs' : List Customer} → cs ≡ cs' → ComesTo m d page (Ok (record { book = b; customers = cs; charges = ch })) → ComesTo m d page (Ok (record { book = b; customers = cs'; charges = ch }))
with_customers {D} {m} {d} {page} {b} {ch} is x =
    subst (λ cs. ComesTo m d page (Ok (record { book = b; customers = cs; charges = ch }))) is x

pub returns-clause-comes : goal.returns-clause-comes
returns-clause-comes g c =
    let b = still_ok _ _ _ c.body.result c.in_ok-body.body c.in_ok-body.ensures.cases in
    let s : Bodies c.args.page.now (Ok c.in_ok-body.body) = subst (Bodies c.args.page.now) b c.body.ensures in
    let h = still_ok _ _ _ c.header_of.result c.in_ok-header.header c.in_ok-header.ensures.cases in
    let heads = subst (Heads (line_of c.split.result.0.now)) h c.header_of.ensures in
    with_customers (copied c.copy_from_slice.new.self c.records-records.result.now (records c.lead.new.customers) _ c.copy_from_slice.ensures.after c.records-records.ensures) (billed_page s.0 s.1 (lines_are c.args.page.now c.in_ok-body.body c.split.result s c.split.ensures) heads (from_start (room c.args.customers.now) c.new-intake.result (records c.args.customers.now) _ c.requires.room c.new-intake.ensures.divider c.new-intake.ensures.header c.requires.empty c.requires.zeros c.in_ok-book.ensures))

pub returns-clause-rest : goal.returns-clause-rest
returns-clause-rest g c =
    let n = length c.records-records.result.now in
    let register = c.lead.new.customers in (
      omega (arith, ap length c.records-records.ensures, length-take (count register) (memory register)),
      drop_at c.copy_from_slice.new.self (drop n (replicate 512 nobody)) n (ap length c.copy_from_slice.ensures.after) ∙ drop-replicate n 512 nobody,
    )
