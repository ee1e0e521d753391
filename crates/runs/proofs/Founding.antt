-- What a founded book's customers keep before the first call of a run.
use Rattle.std.proofs.Common.{◌≡◌, ℕ, ◌*◌, ◌<◌, ◌≤◌, true, cond, List, [], ◌∷◌, map, length, get_or, Some, None, Ok, Err, sum_by, sym, refl, ap, ◌∙◌, mul_comm, mul-le-mul, arith}
use lib.ListN.{length-map}
use Rattle.std.specs.List.{AllByRecursion}
use Rattle.std.proofs.ByRecursion.{sum_by_le}
use Rattle.std.proofs.lemmas.List.{get_or-map}
use Rattle.std.proofs.lemmas.List.Sums.{sum-map}
use Rattle.std.proofs.lemmas.Bool.{and_from, le-leb}
use Rattle.std.proofs.lemmas.Bool.Decides.{nat_tests}
use Rattle.register.specs.Records.{added}
use Rattle.register.proofs.Every.{all_added}
use Rattle.register.proofs.Lookups.{length-added}
use Rattle.divider.specs.Questions.{limit, Passes}
use Rattle.divider.specs.Shares.{Near}
use Rattle.records.specs.declared.customer.Customer.{Customer}
use Rattle.records.specs.Figures.{founding_weight}
use Rattle.book.specs.declared.figures.Figures.{Figures}
use Rattle.book.specs.declared.refusal.Refusal.{Refusal}
use Rattle.book.specs.declared.refusal.Refusal.TheVariants.{Spoiled}
use Rattle.book.specs.declared.stages.Intake.{Intake}
use Rattle.book.specs.declared.stages.OpenBook.{OpenBook}
use Rattle.book.specs.Books.{opened}
use Rattle.book.specs.Customers.{key, nobody, entered, in_ranges, enter_asks, marked, founded_by, with_shares}
use Rattle.book.specs.Rates.{Meaning, divisible, passes, found_asks, Founds}
use Rattle.book.specs.Sides.{no_sides}
use Rattle.runs.specs.Runs.{Entered, bare, none, used, one_more, held, Founded, LawfulMeaning}
use Rattle.runs.proofs.Asked.{first_yes, told_ok, staged_ok, staged_err}
use Rattle.runs.proofs.Near.{within_one}
use Rattle.book.proofs.Portions.{length_with}
use Rattle.runs.proofs.Written.{all_written, sum_by_left, sum_by_made, sum_by_zero, get_or-written, divisible_passes}
use Rattle.runs.proofs.Marks.{MarksKept, Small, all_shelf, all_finite}

entered_few : {cs : List Customer} → Entered cs → length cs ≤ 512
entered_few none = omega arith
entered_few (used {cs} {cs'} e same) =
    let long : length (map bare cs') ≡ length (map bare cs) = ap length same in
    omega (arith, length-map cs' bare, length-map cs bare, entered_few e)
entered_few (one_more {cs} {cs'} places f le e s) =
    let asks : enter_asks places cs f ≡ None = (told_ok tt tt (enter_asks places cs f) s.answer).0 in
    let free : length cs < places = grind (arith, nat_tests) in
    rw s.after (omega (arith, length-added key (entered f) cs))

-- A figure that no book writes, and that no enter accepts above a bound, stays within it.
module _ (f : Customer → ℕ) (most : ℕ) (unwritten : (c : Customer) → f (bare c) ≡ f c) (within : (x : Figures) → in_ranges x ≡ true → f (entered x) ≤ most) where
  abbrev Below : Customer → Type 0
  Below c = f c ≤ most

  same_below : (cs cs' : List Customer) → map bare cs' ≡ map bare cs → AllByRecursion Below cs → AllByRecursion Below cs'
  same_below cs [] same h = tt
  same_below [] (d ∷ ds) same h = absurd (let long : length (map bare (d ∷ ds)) ≡ 0 = ap length same in omega arith)
  same_below (c ∷ cs) (d ∷ ds) same h =
      let here : bare d ≡ bare c = cc in
      let there : map bare ds ≡ map bare cs = cc in
      let e : f d ≡ f c = sym (unwritten d) ∙ ap f here ∙ unwritten c in
      (omega (arith, h.0), same_below cs ds there h.1)

  entered_below : {cs : List Customer} → Entered cs → AllByRecursion Below cs
  entered_below none = tt
  entered_below (used {cs} {cs'} e same) = same_below cs cs' same (entered_below e)
  entered_below (one_more {cs} {cs'} places x le e s) =
      let asks : enter_asks places cs x ≡ None = (told_ok tt tt (enter_asks places cs x) s.answer).0 in
      let here : Below (entered x) = within x (first_yes _ _ _ asks).0 in
      rw s.after (all_shelf Below (added key (entered x) cs) (all_added key Below (entered x) cs here (all_finite Below cs (entered_below e))))

entered_small : {cs : List Customer} → Entered cs → AllByRecursion Small cs
entered_small e = entered_below (λ c. c.elected) 30000 (λ c. refl) (λ x all. grind (arith, nat_tests)) e

weights_small : {cs : List Customer} → Entered cs → sum_by founding_weight cs ≤ 1280000000
weights_small {cs} e =
    let each = entered_below founding_weight 2500000 (λ c. refl) (λ x all. grind (arith, nat_tests)) e in
    omega (arith, sum_by_le founding_weight 2500000 cs each, entered_few e)

-- What founding leaves, of the book and of its customers.
pub record Starts {D : Type 0} (intake : Intake D) (b : OpenBook D) (cs : List Customer) : Type 0 where
  pub some : 0 < intake.header.founding_total
  pub total : intake.header.founding_total ≤ 20000000
  pub able : intake.header.capability ≤ 20000000
  pub capability : b.header.capability ≡ intake.header.capability
  pub costs : b.costs ≡ no_sides
  pub credits : b.credits ≡ no_sides
  pub marks : MarksKept intake.header.founding_total [] b.granted cs

module _ {D : Type 0} (m : D → Meaning) (fair : (d : D) → LawfulMeaning (m d)) where
  -- A founding that is accepted divides what a divider may divide.
  found_passes : (intake : Intake D) (cs : List Customer) (ws ss : List ℕ) → found_asks m intake cs ws ss ≡ None → Passes intake.header.founding_total (map founding_weight cs)
  found_passes intake cs ws ss asks =
      let some : 0 < sum_by founding_weight cs = grind (arith, nat_tests) in
      let fits : divisible intake.header.founding_total (sum_by founding_weight cs) ≡ true = grind arith in
      divisible_passes founding_weight cs intake.header.founding_total some fits

  pub found_starts : {intake : Intake D} {b : OpenBook D} {cs cs' : List Customer} {ws ss ws' ss' : List ℕ} → Entered cs → Founds m intake cs ws ss (Ok b) cs' ws' ss' → Starts intake b cs'
  found_starts {intake} {b} {cs} {cs'} {ws} {ss} e s =
      let total = intake.header.founding_total in
      let shares = m intake.divider total (map founding_weight cs) in
      let ok = staged_ok intake (opened intake) b (found_asks m intake cs ws ss) s.answer in
      let after : cs' ≡ founded_by shares cs = s.after ∙ ap (λ o. cond (passes o) (founded_by shares cs) cs) ok.0 in
      let is : cs' ≡ with_shares (λ c s. marked c s 0) shares cs = after in
      let law = fair intake.divider total (map founding_weight cs) (found_passes intake cs ws ss ok.0) in
      let long : length shares ≡ length cs = law.len ∙ length-map cs founding_weight in
      let book = ok.1 in
      record {
        some = omega (arith, intake.header.total_within);
        total = omega (arith, intake.header.total_within);
        able = omega (arith, intake.header.capability_within);
        capability = ap (λ (x : OpenBook D). x.header.capability) book;
        costs = ap (λ (x : OpenBook D). x.costs) book;
        credits = ap (λ (x : OpenBook D). x.credits) book;
        marks = record {
          balanced = rw is (omega (arith, law.adds_up, sum_by_made (λ c s. marked c s 0) (λ c. c.mark) (λ n. n) (λ c s. refl) shares cs long, sum_by_made (λ c s. marked c s 0) (λ c. c.transit) (λ n. 0) (λ c s. refl) shares cs long, sum_by_zero shares));
          counted = ap (λ (x : OpenBook D). x.granted) book;
          limited = omega arith;
          few = rw is (omega (arith, length_with (λ c s. marked c s 0) shares cs, entered_few e));
          small = rw is (all_written (λ c s. marked c s 0) Small (λ c s h. h) shares cs (entered_small e));
        };
      }

  -- What it writes are shares within one unit.
  pub found_marks : {intake : Intake D} {b : OpenBook D} {cs cs' : List Customer} {ws ss ws' ss' : List ℕ} → Founds m intake cs ws ss (Ok b) cs' ws' ss' → Founded intake.header.founding_total cs'
  found_marks {intake} {b} {cs} {cs'} {ws} {ss} s =
      let total = intake.header.founding_total in
      let all = sum_by founding_weight cs in
      let write : Customer → ℕ → Customer = λ c s. marked c s 0 in
      let shares = m intake.divider total (map founding_weight cs) in
      let asks = (staged_ok intake (opened intake) b (found_asks m intake cs ws ss) s.answer).0 in
      let is : cs' ≡ with_shares write shares cs = s.after ∙ ap (λ o. cond (passes o) (founded_by shares cs) cs) asks in
      let above : 0 < all = grind (arith, nat_tests) in
      let law = fair intake.divider total (map founding_weight cs) (found_passes intake cs ws ss asks) in
      let long : length shares ≡ length cs = law.len ∙ length-map cs founding_weight in
      let count : length cs' ≡ length cs = ap length is ∙ length_with write shares cs in
      let weights : sum_by founding_weight cs' ≡ all = ap (sum_by founding_weight) is ∙ sum_by_left write founding_weight (λ c s. refl) shares cs in
      record {
        adds_up = ap held is ∙ sum_by_made write (λ c. c.mark) (λ n. n) (λ c s. refl) shares cs long ∙ law.adds_up;
        near = λ k lt.
            let c = get_or cs k nobody in
            let inside : k < length cs = omega arith in
            let weighs : k < length (map founding_weight cs) = rw length-map inside in
            let weight = get_or-map founding_weight cs k nobody 0 inside in
            let here : get_or cs' k nobody ≡ write c (get_or shares k 0) = ap (λ (t : List Customer). get_or t k nobody) is ∙ get_or-written write shares cs k nobody long inside in
            let near : Near total all (founding_weight c) (get_or shares k 0) = rw (sum-map founding_weight cs, weight) at (law.near k weighs) in
            rw (here, weights, mul_comm (founding_weight c) total) (within_one total all (founding_weight c) (get_or shares k 0) above near);
      }

-- The founding total times the sum of such weights is far below the limit.
pub found_unspoiled : {D : Type 0} (m : D → Meaning) (intake : Intake D) (back : Intake D × Refusal) (cs cs' : List Customer) (ws ss ws' ss' : List ℕ) → Entered cs → Founds m intake cs ws ss (Err back) cs' ws' ss' → back.1 ≡ Spoiled → ⊥
found_unspoiled m intake back cs cs' ws ss ws' ss' e s bad =
    let total = intake.header.founding_total in
    let all = sum_by founding_weight cs in
    let asks : found_asks m intake cs ws ss ≡ Some Spoiled = (staged_err intake back.0 (opened intake) back.1 (found_asks m intake cs ws ss) s.answer).0 ∙ ap Some bad in
    let most : total ≤ 20000000 = omega (arith, intake.header.total_within) in
    let below : all ≤ 1280000000 = weights_small e in
    let product : total * all ≤ 20000000 * 1280000000 = mul-le-mul most below in
    let fits : divisible total all ≡ true = and_from _ _ (le-leb all limit (omega arith)) (le-leb (total * all) limit (omega arith)) in
    grind (arith, nat_tests)
