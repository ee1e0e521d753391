use Rattle.std.proofs.Common.{rules, ◌≡◌, ℕ, ◌*◌, ◌^◌, ◌<◌, ◌≤◌, List, [], ◌∷◌, decimal, subst, true, false, length, sym, refl, ap, ◌∙◌, arith}
use Rattle.std.proofs.lemmas.Bool.{le-leb, lt-leb}
use Rattle.register.specs.Register.{records}
use Rattle.rows.specs.Rows.{spelled}
use Rattle.lines.specs.Questions.{a_name}
use Rattle.listing.specs.Listing.{customer_row, longest}
use Rattle.listing.proofs.Listed.{row_written, placed, row_is, figure_few, row_few, name_few, short_is}
use Rattle.listing.proofs.rows_of.customer_row.Goals as goal

pub returns-then-charges-n-clause-lists : goal.returns-then-charges-n-clause-lists
returns-then-charges-n-clause-lists g c =
    let cs = records c.args.customers.now in
    let place = placed c.args.number c.in_ok-at.at cs c.find.result c.in_ok-at.ensures.cases c.find.ensures in
    let short = lt-leb (4 * length cs) (length c.args.charges.now) (omega (arith, ap length c.records-records.ensures)) in
    record { answer = rw (place.1, short) refl; after = refl }

pub returns-then-not-is_name-clause-lists : goal.returns-then-not-is_name-clause-lists
returns-then-not-is_name-clause-lists g c =
    let cs = records c.args.customers.now in
    let place = placed c.args.number c.in_ok-at.at cs c.find.result c.in_ok-at.ensures.cases c.find.ensures in
    let wide = le-leb (4 * length cs) (length c.args.charges.now) (omega (arith, ap length c.records-records.ensures)) in
    let name : a_name c.args.name.now ≡ false = sym c.if-not-is_name.ensures in
    record { answer = rw (place.1, wide, name) refl; after = refl }

pub returns : goal.returns
returns g c =
    let cs = records c.args.customers.now in
    let charges = c.args.charges.now in
    let name = c.args.name.now in
    let n = c.args.number in
    let same = c.records-records.ensures in
    let place = placed n c.in_ok-at.at cs c.find.result c.in_ok-at.ensures.cases c.find.ensures in
    let wide = le-leb (4 * length cs) (length charges) (omega (arith, ap length same)) in
    let named : a_name name ≡ true = sym c.if-not-is_name.ensures in
    let row = row_is c.records-records.result.now cs charges c.in_ok-at.at _ name _ _ _ _ _ _ _ _ same place.0 c.from.ensures c.from-2.ensures c.from-3.ensures (c.from-4.ensures ∙ c.above_rhwm_load.ensures) c.charge.ensures.bytes c.charge-2.ensures.bytes c.charge-3.ensures.bytes c.charge-4.ensures.bytes in
    let done = row_written (customer_row cs charges n name) _ c.args.buffer.now c.write.result c.ok_or.result c.write.new.buffer row c.write.ensures c.ok_or.ensures.value in
    let small : (n : ℕ) → n < 2 ^ 64 → length (decimal n) ≤ 24 = λ n h. omega (arith, figure_few n h) in
    let few = row_few (decimal c.from.result) (name ∷ decimal c.from-2.result ∷ decimal c.from-3.result ∷ decimal c.from-4.result ∷ spelled c.charge.result ∷ spelled c.charge-2.result ∷ spelled c.charge-3.result ∷ spelled c.charge-4.result ∷ []) (omega arith)
    (small _ (search rules), (name_few name named, (small _ (search rules), (small _ (search rules), (small _ (search rules), (c.charge.ensures.few, (c.charge-2.ensures.few, (c.charge-3.ensures.few, (c.charge-4.ensures.few, tt))))))))) in
    record {
      lists = record { answer = rw (place.1, wide, named) done.0; after = done.1 };
      short = short_is (customer_row cs charges n name) c.ok_or.result (subst (λ (r : List ℕ). length r ≤ longest) row few);
    }
