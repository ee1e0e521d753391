use Rattle.std.proofs.Common.{map, length, Ok, sym, ap, subst, arith, rules}
use Rattle.register.specs.Register.{room, records}
use Rattle.lines.specs.Lines.{line_of}
use Rattle.std.proofs.lemmas.List.{length-map}
use Rattle.std.proofs.lemmas.Result.{err_from_is_err_and}
use Rattle.page.specs.Pages.{Plays, finished}
use Rattle.page.proofs.Telling.{still_ok, told_as}
use Rattle.page.proofs.Playing.{first_acts, first_refused}
use Rattle.page.proofs.acting.act_all.Goals as goal

pub loop-number-preserved : goal.loop-number-preserved
loop-number-preserved g c =
    let is = still_ok _ _ _ c.act.result c.in_ok-map_err.field-0 c.in_ok-map_err.ensures.cases in
    record {
      plays = λ o p. c.loop-number.invariant.plays o (first_acts _ _ _ _ _ _ _ _ _ _ _ _ _ _ c.in-Some.ensures.steps c.act.ensures.done c.in_ok-map_err.field-0 is c.act.ensures.places o p);
      next = omega (arith, c.in-Some.ensures.steps);
      counts = simp length-map (omega (arith, simp length-map at c.loop-number.invariant.counts, c.in-Some.ensures.steps.next, ap length c.in-Some.ensures.steps.parts));
    }

pub returns-in_err-map_err-clause-done : goal.returns-in_err-map_err-clause-done
returns-in_err-map_err-clause-done g c =
    let p = err_from_is_err_and c.from_residual.result c.from_residual.ensures.1 in
    let t = told_as _ _ _ c.act.result c.in_err-map_err.field-0.0 _ c.in_err-map_err.ensures.cases in
    rw (p.1, p.2) (c.loop-number.invariant.plays _ (first_refused _ 0 _ _ _ _ _ _ _ _ _ _ _ _ c.in-Some.ensures.steps c.act.ensures.done t.0 c.in_err-map_err.field-0.0 t.1 (search rules)))

pub returns-clause-done : goal.returns-clause-done
returns-clause-done g c =
    let l = c.loop-number in
    c.loop-number.invariant.plays _ (subst (λ ps. Plays (room l.costs) l.book (records l.customers) (records l.costs) l.number-iterator.number (map line_of ps) (Ok (record { book = l.book; customers = records l.customers; lines = records l.costs }))) (sym c.in-None.ensures.steps) finished)
