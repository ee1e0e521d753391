-- The answers of founding and closing, case by case.
use Rattle.std.proofs.Common.{◌≡◌, ℕ, ◌*◌, Bool, true, false, leb, List, map, length, Ok, Err, sum_by, sym, refl, ap, ◌∙◌, subst, arith}
use Rattle.std.proofs.lemmas.List.Sums.{sum-map}
use Rattle.std.proofs.lemmas.Bool.{and_parts, eq-eqb, leb-true, le-ltb, lt-ltb, ne_eqb}
use Rattle.divider.specs.Questions.{limit, Passes}
use Rattle.records.specs.declared.customer.Customer.{Customer}
use Rattle.records.specs.Figures.{founding_weight}
use Rattle.book.specs.declared.refusal.Refusal.TheVariants.{NoFoundingWeight, Spoiled, OnTheWay}
use Rattle.book.specs.declared.stages.Intake.{Intake}
use Rattle.book.specs.declared.stages.OpenBook.{OpenBook}
use Rattle.book.specs.declared.stages.ClosedBook.{ClosedBook}
use Rattle.book.specs.Books.{opened, closed}
use Rattle.book.specs.Customers.{founded_by, rated_by}
use Rattle.book.specs.Rates.{Meaning, wide, divisible, Sheets, Founds, Closes}

-- the answers of the questions, of the numbers that they were asked of
pub wide_at : (n : ℕ) (cs : List Customer) (ws ss : List ℕ) (r v : Bool) → n ≡ length cs → r ≡ wide n ws ss → r ≡ v → wide (length cs) ws ss ≡ v
wide_at n cs ws ss r v e d h = ap (λ (k : ℕ). wide k ws ss) (sym e) ∙ sym d ∙ h

pub divisible_at : (t t' all all' : ℕ) (r v : Bool) → t ≡ t' → all ≡ all' → r ≡ divisible t all → r ≡ v → divisible t' all' ≡ v
divisible_at t t' all all' r v e f d h = ap (λ (k : ℕ). divisible k all') (sym e) ∙ ap (divisible t) (sym f) ∙ sym d ∙ h

-- what the questions tell
pub passing : (t all : ℕ) (f : Customer → ℕ) (cs : List Customer) → all ≡ sum_by f cs → (all ≡ 0 → ⊥) → (r : Bool) → r ≡ divisible t all → r ≡ true → Passes t (map f cs)
passing t all f cs e some r d h =
    let s = e ∙ sym (sum-map f cs) in
    let p = and_parts (leb all limit) (leb (t * all) limit) (sym d ∙ h) in
    let small = leb-true all limit p.0 in
    let fits = leb-true (t * all) limit p.1 in
    record { some = omega arith; small = omega arith; fits = rw s at fits }

module _ {D : Type 0} (m : D → Meaning) (b : Intake D) (cs : List Customer) (ws ss : List ℕ) where
  module _ (e : wide (length cs) ws ss ≡ true) where
    pub found_weightless : sum_by founding_weight cs ≡ 0 → Founds m b cs ws ss (Err (b, NoFoundingWeight)) cs ws ss
    found_weightless z =
        let n = le-ltb 0 (sum_by founding_weight cs) (omega arith) in
        record { answer = rw (e, n) refl; after = rw (e, n) refl; sheets = record { weighed = rw (e, n) refl; shared = rw (e, n) refl } }

    module _ (some : sum_by founding_weight cs ≡ 0 → ⊥) where
      pub found_spoiled : divisible b.header.founding_total (sum_by founding_weight cs) ≡ false → Founds m b cs ws ss (Err (b, Spoiled)) cs ws ss
      found_spoiled d =
          let n = lt-ltb 0 (sum_by founding_weight cs) (omega arith) in
          record { answer = rw (e, n, d) refl; after = rw (e, n, d) refl; sheets = record { weighed = rw (e, n, d) refl; shared = rw (e, n, d) refl } }

      pub found_done : divisible b.header.founding_total (sum_by founding_weight cs) ≡ true → (t : ℕ) → t ≡ b.header.founding_total → (cs' : List Customer) (ws' ss' : List ℕ) → cs' ≡ founded_by (m b.divider t (map founding_weight cs)) cs → Sheets (m b.divider) t (map founding_weight cs) true ws ss ws' ss' → (b' : OpenBook D) → b' ≡ opened b → Founds m b cs ws ss (Ok b') cs' ws' ss'
      found_done d t is cs' ws' ss' after sheets b' same =
          let n = lt-ltb 0 (sum_by founding_weight cs) (omega arith) in
          record {
            answer = rw (e, n, d) (ap (λ (x : OpenBook D). Ok x) same);
            after = rw (e, n, d) (subst (λ (k : ℕ). cs' ≡ founded_by (m b.divider k (map founding_weight cs)) cs) is after);
            sheets = rw (e, n, d) (subst (λ (k : ℕ). Sheets (m b.divider) k (map founding_weight cs) true ws ss ws' ss') is sheets);
          }

abbrev on_the_way : List Customer → ℕ
on_the_way cs = sum_by (λ c. c.transit) cs

abbrev marks : List Customer → ℕ
marks cs = sum_by (λ c. c.mark) cs

module _ {D : Type 0} (m : D → Meaning) (b : OpenBook D) (cs : List Customer) (ws ss : List ℕ) where
  module _ (e : wide (length cs) ws ss ≡ true) where
    pub close_moving : (on_the_way cs ≡ 0 → ⊥) → Closes m b cs ws ss (Err (b, OnTheWay)) cs ws ss
    close_moving t =
        let n = ne_eqb (on_the_way cs) 0 t in
        record { answer = rw (e, n) refl; after = rw (e, n) refl; sheets = record { weighed = rw (e, n) refl; shared = rw (e, n) refl } }

    module _ (still : on_the_way cs ≡ 0) where
      pub close_unmarked : marks cs ≡ 0 → Closes m b cs ws ss (Err (b, Spoiled)) cs ws ss
      close_unmarked z =
          let t = eq-eqb (on_the_way cs) 0 still in
          let n = le-ltb 0 (marks cs) (omega arith) in
          record { answer = rw (e, t, n) refl; after = rw (e, t, n) refl; sheets = record { weighed = rw (e, t, n) refl; shared = rw (e, t, n) refl } }

      module _ (some : marks cs ≡ 0 → ⊥) where
        pub close_spoiled : divisible b.header.capability (marks cs) ≡ false → Closes m b cs ws ss (Err (b, Spoiled)) cs ws ss
        close_spoiled d =
            let t = eq-eqb (on_the_way cs) 0 still in
            let n = lt-ltb 0 (marks cs) (omega arith) in
            record { answer = rw (e, t, n, d) refl; after = rw (e, t, n, d) refl; sheets = record { weighed = rw (e, t, n, d) refl; shared = rw (e, t, n, d) refl } }

        pub close_done : divisible b.header.capability (marks cs) ≡ true → (t : ℕ) → t ≡ b.header.capability → (cs' : List Customer) (ws' ss' : List ℕ) → cs' ≡ rated_by (m b.divider t (map (λ c. c.mark) cs)) cs → Sheets (m b.divider) t (map (λ c. c.mark) cs) true ws ss ws' ss' → (b' : ClosedBook D) → b' ≡ closed b → Closes m b cs ws ss (Ok b') cs' ws' ss'
        close_done d t is cs' ws' ss' after sheets b' same =
            let q = eq-eqb (on_the_way cs) 0 still in
            let n = lt-ltb 0 (marks cs) (omega arith) in
            record {
              answer = rw (e, q, n, d) (ap (λ (x : ClosedBook D). Ok x) same);
              after = rw (e, q, n, d) (subst (λ (k : ℕ). cs' ≡ rated_by (m b.divider k (map (λ (c : Customer). c.mark) cs)) cs) is after);
              sheets = rw (e, q, n, d) (subst (λ (k : ℕ). Sheets (m b.divider) k (map (λ (c : Customer). c.mark) cs) true ws ss ws' ss') is sheets);
            }
