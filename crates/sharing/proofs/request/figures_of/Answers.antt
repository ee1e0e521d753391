use Rattle.std.proofs.Common.{rules, vec_items, string_bytes}
use Rattle.sharing.proofs.Words.{first_bad, first_good, words_more}
use Rattle.sharing.proofs.request.figures_of.Goals as goal

pub returns-in-Err : goal.returns-in-Err
returns-in-Err c =
    first_bad string_bytes c.args.words.now c.loop-i.i c.loop-i-test.true c.index-words-i.result c.index-words-i.is c.as_bytes.result.now c.in-Err.refusal c.as_bytes.ensures.value c.in-Err.ensures.reads c.loop-i.invariant.1

pub loop-i-preserved : goal.loop-i-preserved
loop-i-preserved c = words_more string_bytes c.args.words.now c.loop-i.i c.loop-i-test.true c.index-words-i.result c.index-words-i.is c.as_bytes.result.now c.in-Ok.figure (vec_items c.loop-i.found) (vec_items c.push.new.self) c.as_bytes.ensures.value c.in-Ok.ensures.reads c.in-Ok.ensures.written c.in_ok-push-in-Ok.ensures.items c.loop-i.invariant

pub returns-in_err-push-in-Ok : goal.returns-in_err-push-in-Ok
returns-in_err-push-in-Ok c =
    let f = first_good string_bytes c.args.words.now c.loop-i.i c.loop-i-test.true c.index-words-i.result c.index-words-i.is c.as_bytes.result.now c.in-Ok.figure c.as_bytes.ensures.value c.in-Ok.ensures.reads c.loop-i.invariant.1 in
    search (rules, f)
