-- The answers of billing, case by case.
use Rattle.std.proofs.Common.{◌≡◌, ℕ, ◌+◌, ◌-◌, ◌*◌, ◌^◌, ◌<◌, ◌≤◌, Bool, true, false, List, map, length, get_or, take, ℤ, Some, Ok, Err, sum_by, sum, sym, refl, ap, ◌∙◌, arith}
use borrow.Rule.Slice.PartMut.{put_mid}
use Rattle.std.proofs.lemmas.List.{length-map}
use Rattle.std.proofs.lemmas.List.Sums.{get_or-le-sum_by, sum-map}
use Rattle.std.proofs.lemmas.Bool.{le-leb, le-ltb, lt-ltb, ne_eqb}
use Rattle.divider.specs.Questions.{Passes}
use Rattle.divider.specs.Shares.{Fair}
use Rattle.divider.proofs.Parts.{total_le}
use Rattle.records.specs.declared.customer.Customer.{Customer}
use Rattle.records.specs.declared.pool.Pool.{Pool}
use Rattle.records.specs.Figures.{pool_weight}
use Rattle.records.specs.Pools.{pool_of, order}
use Rattle.book.specs.declared.refusal.Refusal.TheVariants.{Spoiled, NoWeight}
use Rattle.book.specs.declared.stages.ClosedBook.{ClosedBook}
use Rattle.book.specs.Rates.{Meaning, wide, divisible, Sheets, size, like, on_top, Bills}
use Rattle.book.specs.Sides.{cost}
use Rattle.book.proofs.SheetParts.{front_on_top, part_written}
use Rattle.book.proofs.Stagings.{divisible_at}

-- each share of a cost is small enough for a charge
pub each_small : (t : ℕ) (by shares : List ℕ) → Passes t by → Fair t by shares → (k : ℕ) → k < length shares → get_or shares k 0 < 2 ^ 63
each_small t by shares passes fair k h = omega (arith, get_or-le-sum_by (λ (x : ℕ). x) shares k 0 h, fair.adds_up, total_le t by passes)

abbrev pool_cost : {D : Type 0} → ClosedBook D → Pool → ℤ
pool_cost b p = cost b.costs b.credits p

abbrev weights_of : Pool → List Customer → List ℕ
weights_of p cs = map (pool_weight p) cs

-- the questions 36 and 22 passed, and the pool's cost is not 0
module _ {D : Type 0} (m : D → Meaning) (b : ClosedBook D) (cs : List Customer) (letter : ℕ) (p : Pool) (ws ss : List ℕ) (old : List ℤ) (is : pool_of letter ≡ Some p) (w : wide (length cs) ws ss ≡ true) (long : 4 * length cs ≤ length old) (n : ℕ) (sized : n ≡ size (pool_cost b p)) (due : n ≡ 0 → ⊥) (all : ℕ) (adds : all ≡ sum_by (pool_weight p) cs) where
  pub bill_weightless : all ≡ 0 → Bills m b cs letter ws ss old (Err NoWeight) ws ss old
  bill_weightless none =
      let l = le-leb (4 * length cs) (length old) long in
      let q = ne_eqb (size (pool_cost b p)) 0 (λ e. due (sized ∙ e)) in
      let t = le-ltb 0 (sum (weights_of p cs)) (omega (arith, sum-map (pool_weight p) cs)) in
      record { answer = rw (is, w, l, q, t) refl; sheets = record { weighed = rw (is, w, l, q, t) refl; shared = rw (is, w, l, q, t) refl }; after = rw (is, w, l, q, t) refl }

  module _ (some : all ≡ 0 → ⊥) where
    pub bill_spoiled : (r : Bool) → r ≡ divisible n all → r ≡ false → Bills m b cs letter ws ss old (Err Spoiled) ws ss old
    bill_spoiled r asked no_way =
        let l = le-leb (4 * length cs) (length old) long in
        let q = ne_eqb (size (pool_cost b p)) 0 (λ e. due (sized ∙ e)) in
        let t = lt-ltb 0 (sum (weights_of p cs)) (omega (arith, sum-map (pool_weight p) cs)) in
        let d = divisible_at n (size (pool_cost b p)) all (sum (weights_of p cs)) r false sized (adds ∙ sym (sum-map (pool_weight p) cs)) asked no_way in
        record { answer = rw (is, w, l, q, t, d) refl; sheets = record { weighed = rw (is, w, l, q, t, d) refl; shared = rw (is, w, l, q, t, d) refl }; after = rw (is, w, l, q, t, d) refl }

    pub bill_done : (r : Bool) → r ≡ divisible n all → r ≡ true → (ws' ss' : List ℕ) → Fair n (weights_of p cs) (m b.divider n (weights_of p cs)) → Sheets (m b.divider) n (weights_of p cs) true ws ss ws' ss' → (z : ℤ) → z ≡ pool_cost b p → (o : ℕ) → o ≡ order p → (part : List ℤ) → part ≡ map (like z) (take (length cs) ss') → Bills m b cs letter ws ss old (Ok tt) ws' ss' (put_mid (o * length cs) (o * length cs + length cs - o * length cs) old part)
    bill_done r asked way ws' ss' fair sheets z costs o at part filled =
        let by = weights_of p cs in
        let shares = m b.divider n by in
        let l = le-leb (4 * length cs) (length old) long in
        let q = ne_eqb (size (pool_cost b p)) 0 (λ x. due (sized ∙ x)) in
        let t = lt-ltb 0 (sum by) (omega (arith, sum-map (pool_weight p) cs)) in
        let d = divisible_at n (size (pool_cost b p)) all (sum by) r true sized (adds ∙ sym (sum-map (pool_weight p) cs)) asked way in
        let each : length shares ≡ length cs = fair.len ∙ length-map cs (pool_weight p) in
        let front : take (length cs) ss' ≡ shares = ap (take (length cs)) sheets.shared ∙ front_on_top shares ss (length cs) each in
        let are : part ≡ map (like (pool_cost b p)) (m b.divider (size (pool_cost b p)) by) = filled ∙ ap (map (like z)) front ∙ ap (λ (v : ℤ). map (like v) shares) costs ∙ ap (λ (k : ℕ). map (like (pool_cost b p)) (m b.divider k by)) sized in
        let many : length (map (like (pool_cost b p)) (m b.divider (size (pool_cost b p)) by)) ≡ length cs = length-map (m b.divider (size (pool_cost b p)) by) (like (pool_cost b p)) ∙ ap (λ (k : ℕ). length (m b.divider k by)) (sym sized) ∙ each in
        let put = part_written (order p * length cs) (order p * length cs + length cs - order p * length cs) old part _ are (omega (arith, many)) in
        record {
          answer = rw (is, w, l, q, t, d) refl;
          sheets = record { weighed = rw (is, w, l, q, t, d) sheets.weighed; shared = rw (is, w, l, q, t, d) (sheets.shared ∙ ap (λ (k : ℕ). on_top (m b.divider k by) ss) sized) };
          after = rw (is, w, l, q, t, d, at) put;
        }
