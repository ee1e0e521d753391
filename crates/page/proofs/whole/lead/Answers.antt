use Rattle.std.proofs.Common.{◌≡◌, ℕ, ◌+◌, ◌-◌, min, cond, List, [], map, length, is_some, Some, None, Option, ℤ, Err, Result, ◌==◌, refl, sym, ap, ◌∙◌, subst, if◌then◌else◌, arith, rules, Bor}
use Rattle.std.proofs.lemmas.Result.{err_from_is_err_and}
use Rattle.std.proofs.lemmas.List.{length-map}
use Rattle.std.proofs.lemmas.Bool.{ne_eqb}
use Rattle.records.specs.declared.customer.Customer.{Customer}
use Rattle.records.specs.declared.cost_line.CostLine.{CostLine}
use Rattle.book.specs.Rates.{Meaning}
use Rattle.book.specs.declared.stages.Intake.{Intake}
use Rattle.book.specs.declared.stages.OpenBook.{OpenBook}
use Rattle.register.specs.Register.{room, records}
use Rattle.rows.specs.Rows.{parts_after}
use Rattle.rows.proofs.Parts.{length_parted}
use Rattle.lines.specs.Lines.{line_of}
use Rattle.page.specs.declared.fault.Cause.TheVariants.{Book}
use Rattle.page.specs.declared.fault.Fault.{Fault}
use Rattle.page.specs.Pages.{Reading, Open, at_line, FoundsOn, Plays, Settles, Leads, untaken, unfounded, unplayed, ends_refused, ends}
use Rattle.page.proofs.Telling.{still_ok, told_as, either_way}
use Rattle.page.proofs.Playing.{takes_counts}
use Rattle.page.proofs.whole.lead.Goals as goal

-- over a register of its own
fresh : {D : Type 0} (places : ℕ) (b : OpenBook D) (cs : List Customer) (ls : List CostLine) (n : ℕ) (rs : List Reading) (o : Result (Open D) Fault) → places ≡ 512 → ls ≡ [] → Plays places b cs ls n rs o → Plays 512 b cs [] n rs o
fresh places b cs ls n rs o room none p =
    subst (λ ls. Plays 512 b cs ls n rs o) none (subst (λ places. Plays places b cs ls n rs o) room p)

at_fault : {D : Type 0} {m : D → Meaning} {p q : ℕ} {intake : Intake D} {cs cs' : List Customer} {ch ch' : List ℤ} {rs : List Reading} {f f' : Fault} → f ≡ f' → Leads m p q intake cs ch rs (Err f') cs' ch' → Leads m p q intake cs ch rs (Err f) cs' ch'
at_fault {D} {m} {p} {q} {intake} {cs} {cs'} {ch} {ch'} {rs} is x =
    subst (λ f. Leads m p q intake cs ch rs (Err f) cs' ch') (sym is) x

-- a book is founded at the first line left, or at the one before
founded_at : (n : ℕ) (rest : Option (Bor (List ℕ))) → (if is_some rest then n else n - 1) ≡ cond (length (map line_of (parts_after 10 rest)) == 0) (n - 1) n
founded_at n None = refl
founded_at n (Some bytes) =
    sym (ap (λ b. cond b (n - 1) n) (ne_eqb _ 0 (λ none. absurd (omega (arith, none, length_parted 10 bytes.now, length-map (parts_after 10 (Some bytes)) line_of)))))

pub returns-in_err-lines : goal.returns-in_err-lines
returns-in_err-lines g c =
    let p = err_from_is_err_and c.from_residual.result c.from_residual.ensures.1 in
    rw (p.1, p.2) (untaken c.in_err-lines.ensures)

pub returns-in_err-book : goal.returns-in_err-book
returns-in_err-book g c =
    let p = err_from_is_err_and c.from_residual-in_err-book.result c.from_residual-in_err-book.ensures.1 in
    let t = told_as _ _ _ c.found.result c.in_err-book.field-0.0 _ c.in_err-book.ensures.cases in
    let lines = c.in_ok-lines.lines in
    let e : c.in_err-book.field-0.0 ≡ at_line c.here-line.result (Book t.0.1) = search rules in
    rw (p.1, p.2) (at_fault (e ∙ ap (λ n. at_line n (Book t.0.1)) (c.here-line.ensures ∙ founded_at lines.number lines.rest)) (unfounded c.in_ok-lines.ensures (subst (λ r. FoundsOn g.D.Divider.meaning c.args.intake (records c.enter_all.new.customers) r (records c.found.new.customers)) t.1 c.found.ensures)))

pub returns-in_err-last : goal.returns-in_err-last
returns-in_err-last g c =
    let p = err_from_is_err_and c.from_residual-in_err-last.result c.from_residual-in_err-last.ensures.1 in
    let is = still_ok _ _ _ c.found.result c.in_ok-book.book c.in_ok-book.ensures.cases in
    let founds = subst (λ r. FoundsOn g.D.Divider.meaning c.args.intake (records c.enter_all.new.customers) r (records c.found.new.customers)) is c.found.ensures in
    let full : room c.new.result ≡ 512 = ap (λ m. min (length m) 512) c.new.ensures.memory in
    rw (p.1, p.2) (unplayed c.in_ok-lines.ensures founds (fresh (room c.new.result) c.in_ok-book.book _ (records c.new.result) c.in_ok-lines.lines.number _ _ full c.new.ensures.records c.in_err-last.ensures.done))

pub returns : goal.returns
returns g c =
    let is = still_ok _ _ _ c.found.result c.in_ok-book.book c.in_ok-book.ensures.cases in
    let founds = subst (λ r. FoundsOn g.D.Divider.meaning c.args.intake (records c.enter_all.new.customers) r (records c.found.new.customers)) is c.found.ensures in
    let full : room c.new.result ≡ 512 = ap (λ m. min (length m) 512) c.new.ensures.memory in
    let plays = fresh (room c.new.result) c.in_ok-book.book _ (records c.new.result) c.in_ok-lines.lines.number _ _ full c.new.ensures.records c.in_ok-last.ensures.done in
    either_way _ _ _ (λ r. Leads g.D.Divider.meaning (room c.args.customers.now) 512 c.args.intake (records c.args.customers.now) c.args.charges.now (map line_of (parts_after 10 c.args.rest)) r (records c.settle.new.customers) c.settle.new.charges) c.settle.result c.map_err-2.result _ c.map_err-2.ensures.cases
    (λ x is. ends c.in_ok-lines.ensures founds plays (subst (λ r. Settles g.D.Divider.meaning c.act_all.new.book (records c.act_all.new.customers) c.args.charges.now r (records c.settle.new.customers) c.settle.new.charges) is c.settle.ensures))
    (λ e f is q.
    let at : f ≡ at_line c.in_ok-last.last (Book e) = search rules in
    let last : c.in_ok-last.last ≡ length (map line_of (parts_after 10 c.args.rest)) + 1 = omega (arith, (takes_counts c.in_ok-lines.ensures).1, c.in_ok-last.ensures.last) in
    at_fault (at ∙ ap (λ n. at_line n (Book e)) last) (ends_refused c.in_ok-lines.ensures founds plays (subst (λ r. Settles g.D.Divider.meaning c.act_all.new.book (records c.act_all.new.customers) c.args.charges.now r (records c.settle.new.customers) c.settle.new.charges) is c.settle.ensures)))
