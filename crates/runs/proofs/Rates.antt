-- Closing: what a refused close leaves, and what an accepted one writes.
use Rattle.std.proofs.Common.{◌≡◌, ℕ, ◌*◌, ◌<◌, ◌≤◌, true, cond, List, ◌∷◌, map, length, get_or, Some, None, Ok, Err, sum_by, refl, ap, ◌∙◌, mul_comm, mul-le-mul, arith}
use lib.ListN.{length-map}
use Rattle.std.specs.List.{AllByRecursion}
use Rattle.std.proofs.lemmas.List.{get_or-map}
use Rattle.std.proofs.lemmas.List.Sums.{sum-map}
use Rattle.std.proofs.lemmas.Bool.{and_from, le-leb}
use Rattle.std.proofs.lemmas.Bool.Decides.{nat_tests}
use Rattle.divider.specs.Questions.{limit}
use Rattle.divider.specs.Shares.{Near}
use Rattle.records.specs.declared.customer.Customer.{Customer}
use Rattle.book.specs.declared.refusal.Refusal.{Refusal}
use Rattle.book.specs.declared.refusal.Refusal.TheVariants.{Spoiled}
use Rattle.book.specs.declared.stages.OpenBook.{OpenBook}
use Rattle.book.specs.declared.stages.ClosedBook.{ClosedBook}
use Rattle.book.specs.Books.{closed}
use Rattle.book.specs.Customers.{nobody, rated, rated_by, with_shares}
use Rattle.book.specs.Rates.{Meaning, divisible, passes, close_asks, Closes}
use Rattle.runs.specs.History.{Event, staying, closing, refusal}
use Rattle.runs.specs.Runs.{held, on_the_way, Rated, LawfulMeaning}
use Rattle.runs.proofs.Asked.{staged_ok, staged_err}
use Rattle.runs.proofs.Near.{within_one}
use Rattle.book.proofs.Portions.{length_with}
use Rattle.runs.proofs.Written.{all_written, sum_by_left, sum_by_made, get_or-written, divisible_passes}
use Rattle.runs.proofs.Marks.{MarksKept, Small, same_marks}

-- What an accepted close leaves.
pub record Shuts {D : Type 0} (b : OpenBook D) (cs : List Customer) (c : ClosedBook D) (cs' : List Customer) : Type 0 where
  pub book : c ≡ closed b
  pub rated : Rated b.header.capability cs'
  pub holds : held cs' ≡ held cs
  pub carries : on_the_way cs' ≡ on_the_way cs
  pub count : length cs' ≡ length cs
  pub small : AllByRecursion Small cs → AllByRecursion Small cs'

module _ {D : Type 0} (m : D → Meaning) where
  module _ {b b' : OpenBook D} {cs cs' : List Customer} {ws ss ws' ss' : List ℕ} {e : Refusal} (s : Closes m b cs ws ss (Err (b', e)) cs' ws' ss') where
    pub stay_same : (b' ≡ b) × (cs' ≡ cs)
    stay_same =
        let asks = staged_err b b' (closed b) e (close_asks m b cs ws ss) s.answer in
        (asks.1, s.after ∙ ap (λ o. cond (passes o) (rated_by (m b.divider b.header.capability (map (λ c. c.mark) cs)) cs) cs) asks.0)

    -- With nothing on the way the marks are above 0, and the capability times their sum is far below the limit.
    pub stay_unspoiled : {total : ℕ} {es : List Event} → 0 < total → total ≤ 20000000 → b.header.capability ≤ 20000000 → MarksKept total es b.granted cs → refusal (staying e) ≡ Some Spoiled → ⊥
    stay_unspoiled {total} {es} some most able k bad =
        let asks : close_asks m b cs ws ss ≡ Some Spoiled = (staged_err b b' (closed b) e (close_asks m b cs ws ss) s.answer).0 ∙ bad in
        let still : on_the_way cs ≡ 0 = grind (arith, nat_tests) in
        let above : 0 < held cs = omega arith in
        let below : held cs ≤ 20050000 = omega arith in
        let product : b.header.capability * held cs ≤ 20000000 * 20050000 = mul-le-mul able below in
        let fits : divisible b.header.capability (held cs) ≡ true = and_from _ _ (le-leb (held cs) limit (omega arith)) (le-leb (b.header.capability * held cs) limit (omega arith)) in
        grind (arith, nat_tests)

  module _ (fair : (d : D) → LawfulMeaning (m d)) {b : OpenBook D} {c : ClosedBook D} {cs cs' : List Customer} {ws ss ws' ss' : List ℕ} (s : Closes m b cs ws ss (Ok c) cs' ws' ss') where
    pub close_shuts : Shuts b cs c cs'
    close_shuts =
        let marks = map (λ (x : Customer). x.mark) cs in
        let shares = m b.divider b.header.capability marks in
        let ok = staged_ok b (closed b) c (close_asks m b cs ws ss) s.answer in
        let asks : close_asks m b cs ws ss ≡ None = ok.0 in
        let above : 0 < held cs = grind (arith, nat_tests) in
        let fits : divisible b.header.capability (held cs) ≡ true = grind (arith, nat_tests) in
        let law = fair b.divider b.header.capability marks (divisible_passes (λ x. x.mark) cs b.header.capability above fits) in
        let long : length shares ≡ length cs = law.len ∙ length-map cs (λ x. x.mark) in
        let is : cs' ≡ with_shares rated shares cs = s.after ∙ ap (λ o. cond (passes o) (rated_by shares cs) cs) asks in
        let count : length cs' ≡ length cs = ap length is ∙ length_with rated shares cs in
        let holds : held cs' ≡ held cs = ap held is ∙ sum_by_left rated (λ x. x.mark) (λ x n. refl) shares cs in
        record {
          book = ok.1;
          rated = record {
            adds_up = ap (sum_by (λ (x : Customer). x.rhwm)) is ∙ sum_by_made rated (λ x. x.rhwm) (λ n. n) (λ x n. refl) shares cs long ∙ law.adds_up;
            near = λ k lt.
                let inside : k < length cs = omega arith in
                let weighs : k < length marks = rw length-map inside in
                let mark = get_or-map (λ x. x.mark) cs k nobody 0 inside in
                let here : get_or cs' k nobody ≡ rated (get_or cs k nobody) (get_or shares k 0) = ap (λ (t : List Customer). get_or t k nobody) is ∙ get_or-written rated shares cs k nobody long inside in
                let near : Near b.header.capability (held cs) (get_or cs k nobody).mark (get_or shares k 0) = rw (sum-map (λ x. x.mark) cs, mark) at (law.near k weighs) in
                rw (here, holds, mul_comm (get_or cs k nobody).mark b.header.capability) (within_one b.header.capability (held cs) (get_or cs k nobody).mark (get_or shares k 0) above near);
          };
          holds = holds;
          carries = ap on_the_way is ∙ sum_by_left rated (λ x. x.transit) (λ x n. refl) shares cs;
          count = count;
          small = λ h. rw is (all_written rated Small (λ x n p. p) shares cs h);
        }

    -- a book with a load on the way is not closed
    pub close_arrived : on_the_way cs ≡ 0
    close_arrived =
        let asks : close_asks m b cs ws ss ≡ None = (staged_ok b (closed b) c (close_asks m b cs ws ss) s.answer).0 in
        grind (arith, nat_tests)

    pub close_keeps : {total : ℕ} {es : List Event} → MarksKept total es b.granted cs → MarksKept total (closing ∷ es) c.granted cs'
    close_keeps k =
        let shut = close_shuts in
        same_marks closing refl (record {
          balanced = omega arith;
          counted = ap (λ (x : ClosedBook D). x.granted) shut.book ∙ k.counted;
          limited = k.limited;
          few = omega arith;
          small = shut.small k.small;
        })
