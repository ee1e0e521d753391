use Rattle.std.proofs.Common.{map, Ok, sym, refl, ap, ◌∙◌, subst, rules}
use Rattle.std.proofs.lemmas.Result.{err_from_is_err_and}
use Rattle.register.specs.Register.{room, records}
use Rattle.lines.specs.Lines.{line_of}
use Rattle.page.specs.Pages.{Takes, no_more}
use Rattle.page.proofs.Telling.{still_ok, told_as}
use Rattle.page.proofs.Playing.{first_enters, first_stops, first_unentered}
use Rattle.page.proofs.taking.enter_all.Goals as goal
use Rattle.page.proofs.taking.enter_all.Goals.{in-Some+in_ok-map_err+then-not-branch, in_default}

pub loop-number-preserved : goal.loop-number-preserved
loop-number-preserved g c =
    let is = still_ok _ _ _ c.enter_line.result c.in_ok-map_err.field-0 c.in_ok-map_err.ensures.cases in
    record {
      same = refl;
      takes = λ o t. c.loop-number.invariant.takes o (first_enters _ _ _ _ _ _ _ _ _ _ c.in-Some.ensures.steps c.enter_line.ensures.done (is ∙ ap Ok c.if-not-branch.false) c.enter_line.ensures.places o t);
    }

pub returns-in_err-map_err : goal.returns-in_err-map_err
returns-in_err-map_err g c =
    let p = err_from_is_err_and c.from_residual.result c.from_residual.ensures.1 in
    let t = told_as _ _ _ c.enter_line.result c.in_err-map_err.field-0.0 _ c.in_err-map_err.ensures.cases in
    rw (p.1, p.2) (c.loop-number.invariant.takes _ (first_unentered _ 0 _ _ _ _ _ _ _ _ c.in-Some.ensures.steps c.enter_line.ensures.done t.0 c.in_err-map_err.field-0.0 t.1 (search rules)))

pub returns : goal.returns
returns g c =
    let l = c.loop-number in
    elim c.match-next.branch [
      | in-Some+in_ok-map_err+then-not-branch w ↦
          let is = still_ok _ _ _ w.enter_line.result w.in_ok-map_err.field-0 w.in_ok-map_err.ensures.cases in
          rw (w.customers-is, l.invariant.same) (l.invariant.takes _ (first_stops _ 0 _ _ _ _ _ _ _ _ w.in-Some.ensures.steps w.enter_line.ensures.done (is ∙ ap Ok w.if-not-branch.true)))
      | in_default w ↦
          rw (w.customers-is, l.invariant.same) (l.invariant.takes _ (subst (λ ps. Takes (room l.customers) (records l.customers) l.after.number (map line_of ps) (Ok (record { customers = records l.customers; number = l.after.number; rest = map line_of ps }))) (sym w.in_default.ensures.steps) no_more))
    ]
