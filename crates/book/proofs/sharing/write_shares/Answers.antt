use Rattle.std.proofs.Common.{◌≡◌, ◌<◌, length, get_or, take, set, sym, ap, ◌∙◌, arith}
use Rattle.std.proofs.lemmas.List.{get_or_default, length-set}
use Rattle.std.proofs.lemmas.List.Elements.{All-get_or}
use Rattle.register.specs.Register.{records}
use Rattle.register.proofs.Change.{kept_same, kept_then}
use Rattle.register.proofs.Lookups.{replaced_at-set}
use Rattle.book.specs.Customers.{key, nobody}
use Rattle.book.specs.Written.{KeepsNumber}
use Rattle.book.proofs.Portions.{written_none, written_ahead, written_more, length_written}
use Rattle.book.proofs.sharing.write_shares.Given.{F-post}
use Rattle.book.proofs.sharing.write_shares.Goals as goal

pub loop-i-init : goal.loop-i-init
loop-i-init g c = (written_none _ (records c.args.customers.now), kept_same c.args.customers.now)

pub bounds-records-i : goal.bounds-records-i
bounds-records-i g c =
    omega (arith, ap length c.records.ensures, length_written _ (take c.loop-i.i c.args.shares.now) (records c.args.customers.now) (records c.loop-i.customers) c.loop-i.invariant.0, c.requires.each)

pub loop-i-preserved : goal.loop-i-preserved
loop-i-preserved g c =
    let cs = records c.args.customers.now in
    let now = records c.loop-i.customers in
    let ss = c.args.shares.now in
    let i = c.loop-i.i in
    let row = c.write-row.result in
    let x = get_or now i nobody in
    let same : length now ≡ length cs = length_written _ (take i ss) cs now c.loop-i.invariant.0 in
    let here : i < length ss = c.loop-i-test.true in
    let stands : i < length now = omega (arith, c.requires.each) in
    let among : i < length cs = omega (arith, c.requires.each) in
    let ahead : x ≡ get_or cs i nobody = written_ahead _ ss cs now i c.loop-i.invariant.0 in
    let gave = c.write-row.ensures in
    let gave' = rw (c.records.ensures, ahead) at gave in
    let keeps : key row ≡ key (get_or cs i nobody) = All-get_or (KeepsNumber (F-post g c.args.write)) cs i nobody among c.requires.keeps (get_or ss i 0) row (c.requires.small i here) gave' in
    let put : records c.replace_at.new.self ≡ set now i row = c.replace_at.ensures.records ∙ replaced_at-set key i row x now stands (get_or_default now i nobody x stands) (ap key ahead ∙ sym keeps) in (
      rw put (written_more _ ss cs now i row here among c.loop-i.invariant.0 gave'),
      kept_then c.args.customers.now c.loop-i.customers c.replace_at.new.self (ap length put ∙ length-set now i row) c.loop-i.invariant.1 c.replace_at.ensures.kept,
    )
