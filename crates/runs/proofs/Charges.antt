-- Bills: what they charge, what they leave, and that none answers 24.
use Rattle.std.proofs.Common.{◌≡◌, ℕ, zero, suc, ◌+◌, ◌*◌, ◌<◌, ◌≤◌, true, false, cond, leb, List, [], ◌∷◌, map, length, get_or, replicate, ℤ, pos, negsuc, ◌-ℤ◌, ◌*ℤ◌, Some, None, Ok, Err, sum_by, sum, Option, Result, unwrap_or, sym, refl, ap, ◌∙◌, subst, inl, inr, ⊎_elim, mul-le-mul_right, suc-mul, mul-le-mul, arith}
use Rattle.std.specs.List.{AllByRecursion}
use Rattle.std.proofs.lemmas.List.{length-map, length-replicate, get_or-map, get_or-replicate}
use Rattle.std.proofs.ByRecursion.{All-weaker, sum_by_le}
use Rattle.std.proofs.lemmas.List.Sums.{sum_by-cons, sum-map}
use Rattle.std.proofs.lemmas.Bool.{cases_eq, cases_order, cond_both, and_from, le-leb, eqb-true, eqb-false}
use Rattle.std.proofs.lemmas.Bool.Decides.{nat_tests}
use Rattle.divider.specs.Questions.{limit, Passes}
use Rattle.records.specs.declared.customer.Customer.{Customer}
use Rattle.records.specs.declared.cost_line.CostLine.{CostLine}
use Rattle.records.specs.declared.pool.Pool.{Pool}
use Rattle.records.specs.declared.pool.Pool.TheVariants.{Composite, NonSlice, Slice, Tier2}
use Rattle.records.specs.Figures.{tier1, pool_weight}
use Rattle.records.specs.Pools.{pool_of, order}
use Rattle.book.specs.declared.refusal.Refusal.{Refusal}
use Rattle.book.specs.declared.refusal.Refusal.TheVariants.{Spoiled}
use Rattle.book.specs.declared.sides.Sides.{Sides}
use Rattle.book.specs.declared.stages.ClosedBook.{ClosedBook}
use Rattle.book.specs.Customers.{nobody}
use Rattle.book.specs.Sides.{side, cost, most_cents}
use Rattle.book.specs.Rates.{Meaning, passes, size, like, part, written, divisible, pool_in, no_cost, charges_of, cost_in, weights_in, bill_asks, Bills}
use Rattle.runs.specs.History.{Event, billing, refusal, lines_of, cost_by, expenses, credits, Billed}
use Rattle.runs.specs.Runs.{WithinOne, sumℤ, charges_in, all_charges, Paid, LawfulMeaning}
use Rattle.runs.proofs.Asked.{accepted, denied}
use Rattle.runs.proofs.Lines.{LinesKept, cost_is, costs_together}
use Rattle.runs.proofs.Near.{size_minus, within_one_like, like_sum, like_size}
use Rattle.runs.proofs.Places.{part_same, part_before, part_behind}
use Rattle.runs.proofs.Pools.{same_pool}

-- What every closed book's customers keep: these bounds, within which no bill is too large.
pub record Bounded (cs : List Customer) : Type 0 where
  pub count : length cs ≤ 512
  pub elected : AllByRecursion (λ x. x.elected ≤ 30000) cs
  pub rhwms : sum_by (λ x. x.rhwm) cs ≤ 20000000

sum_by_below : {X : Type 0} (f g : X → ℕ) → ((x : X) → f x ≤ g x) → (xs : List X) → sum_by f xs ≤ sum_by g xs
sum_by_below f g each [] = omega arith
sum_by_below f g each (x ∷ xs) = omega (arith, each x, sum_by_below f g each xs, sum_by-cons f x xs, sum_by-cons g x xs)

pub weights_bounded : {cs : List Customer} → Bounded cs → (p : Pool) → sum_by (pool_weight p) cs ≤ 20000000
weights_bounded {cs} b Composite = omega (arith, sum_by_below tier1 (λ c. c.rhwm) (λ c. omega arith) cs, b.rhwms)
weights_bounded {cs} b NonSlice = omega (arith, sum_by_below (pool_weight NonSlice) (λ c. c.rhwm) (λ c. omega arith) cs, b.rhwms)
weights_bounded {cs} b Slice = omega (arith, sum_by_below (pool_weight Slice) (λ c. c.rhwm) (λ c. omega arith) cs, b.rhwms)
weights_bounded {cs} b Tier2 =
    let each = All-weaker (λ x. x.elected ≤ 30000) (λ x. pool_weight Tier2 x ≤ 30000) (λ x h. omega arith) cs b.elected in
    omega (arith, sum_by_le (pool_weight Tier2) 30000 cs each, b.count)

pub cost_bounded : (costs credits : Sides) (p : Pool) → side costs p ≤ most_cents → side credits p ≤ most_cents → size (cost costs credits p) ≤ most_cents
cost_bounded costs credits p c d = omega (arith, size_minus (side costs p) (side credits p))

small_divides : (total all : ℕ) → total ≤ most_cents → all ≤ 20000000 → divisible total all ≡ true
small_divides total all t a =
    let product = mul-le-mul t a in
    and_from (leb all limit) (leb (total * all) limit) (le-leb all limit (omega arith)) (le-leb (total * all) limit (omega arith))

-- A cost is 0 where the test says so, and only there.
no_cost_so : (z : ℤ) → no_cost z ≡ true → z ≡ pos 0
no_cost_so (pos n) t = ap pos (eqb-true n 0 t)
no_cost_so (negsuc n) t = absurd (omega (arith, eqb-true (n + 1) 0 t))

some_cost_so : (z : ℤ) → no_cost z ≡ false → z ≡ pos 0 → ⊥
some_cost_so z t e = eqb-false (size z) 0 t (ap size e)

sum_zeros : (n : ℕ) → sumℤ (replicate n (pos 0)) ≡ pos 0
sum_zeros zero = refl
sum_zeros (suc n) = sum_zeros n

-- The charges of a cost by weights.
pub record Charged (z : ℤ) (by : List ℕ) (out : List ℤ) : Type 0 where
  pub len : length out ≡ length by
  pub adds_up : sumℤ out ≡ z
  pub none : z ≡ pos 0 → (k : ℕ) → k < length by → get_or out k (pos 0) ≡ pos 0
  pub near : (z ≡ pos 0 → ⊥) → (k : ℕ) → k < length by → WithinOne (get_or out k (pos 0)) (z *ℤ pos (get_or by k 0)) (sum by)

module _ {m : Meaning} (fair : LawfulMeaning m) (z : ℤ) (by : List ℕ) where
  zeros_charged : z ≡ pos 0 → Charged z by (replicate (length by) (pos 0))
  zeros_charged free =
      record {
        len = length-replicate (length by) (pos 0);
        adds_up = sum_zeros (length by) ∙ sym free;
        none = λ e k h. get_or-replicate (length by) k (pos 0) (pos 0) h;
        near = λ due. absurd (due free);
      }

  shares_charged : (z ≡ pos 0 → ⊥) → Passes (size z) by → Charged z by (map (like z) (m (size z) by))
  shares_charged due passes =
      let law = fair (size z) by passes in
      let shares = m (size z) by in
      record {
        len = length-map shares (like z) ∙ law.len;
        adds_up = like_sum z shares ∙ ap (like z) law.adds_up ∙ like_size z;
        none = λ free. absurd (due free);
        near = λ _ k h.
            let inside : k < length shares = omega (arith, law.len) in
            rw (get_or-map (like z) shares k 0 (pos 0) inside) (within_one_like z (sum by) (get_or by k 0) (get_or shares k 0) passes.some (law.near k h));
      }

  pub charges_charged : (no_cost z ≡ false → Passes (size z) by) → Charged z by (charges_of m z by)
  charges_charged passes =
      cond_both (no_cost z) (replicate (length by) (pos 0)) (map (like z) (m (size z) by)) (Charged z by)
      (λ t. zeros_charged (no_cost_so z t)) (λ t. shares_charged (some_cost_so z t) (passes t))

-- A pool's part of the charges, and the pool's cost.
pub part_paid : (p : Pool) (z : ℤ) (cs : List Customer) (ch : List ℤ) → Charged z (map (pool_weight p) cs) (charges_in p (length cs) ch) → Paid p z cs ch
part_paid p z cs ch charged =
    let weight = pool_weight p in
    record {
      adds_up = charged.adds_up;
      none = λ e k h. charged.none e k (omega (arith, length-map cs weight));
      near = λ due k h.
          let near = charged.near due k (omega (arith, length-map cs weight)) in
          rw (← get_or-map weight cs k nobody 0 h, ← sum-map weight cs) near;
    }

-- It stays paid while its part of the charges stays.
pub paid_stays : (p : Pool) (z : ℤ) (cs : List Customer) (ch ch' : List ℤ) → charges_in p (length cs) ch' ≡ charges_in p (length cs) ch → Paid p z cs ch → Paid p z cs ch'
paid_stays p z cs ch ch' same paid =
    record {
      adds_up = ap sumℤ same ∙ paid.adds_up;
      none = λ e k h. rw same (paid.none e k h);
      near = λ due k h. rw same (paid.near due k h);
    }

-- The places of a lower pool end where those of a higher begin.
apart : (i j n : ℕ) → i < j → i * n + n ≤ j * n
apart i j n h = omega (arith, mul-le-mul_right n h, suc-mul i n)

below_four : (p : Pool) → order p < 4
below_four p = grind arith

module _ {D : Type 0} (m : D → Meaning) (c : ClosedBook D) (cs : List Customer) (bounded : Bounded cs) (within : (p : Pool) → (side c.costs p ≤ most_cents) × (side c.credits p ≤ most_cents)) where
  divides : (letter : ℕ) → divisible (size (cost_in m c letter)) (sum (weights_in m cs letter)) ≡ true
  divides letter =
      let p = pool_in letter in
      small_divides (size (cost_in m c letter)) (sum (weights_in m cs letter))
      (cost_bounded c.costs c.credits p (within p).0 (within p).1)
      (omega (arith, sum-map (pool_weight p) cs, weights_bounded bounded p))

  module _ {ws ss ws' ss' : List ℕ} {ch ch' : List ℤ} (letter : ℕ) where
    pub bill_unspoiled : (r : Result (Unit {0}) Refusal) → Bills m c cs letter ws ss ch r ws' ss' ch' → refusal (billing letter r) ≡ Some Spoiled → ⊥
    bill_unspoiled (Ok u) s given = let z : ◌≡◌ {A = ℕ} 0 1 = cc in omega arith
    bill_unspoiled (Err e) s given =
        let why = denied tt e (bill_asks m c cs letter ws ss ch) s.answer in
        let fits = divides letter in
        let z : ◌≡◌ {A = ℕ} 0 1 = grind arith in omega arith

  module _ (fair : (d : D) → LawfulMeaning (m d)) {letter : ℕ} {ws ss ws' ss' : List ℕ} {ch ch' : List ℤ} {u : Unit {0}} (s : Bills m c cs letter ws ss ch (Ok u) ws' ss' ch') where
    ok : bill_asks m c cs letter ws ss ch ≡ None
    ok = accepted tt u (bill_asks m c cs letter ws ss ch) s.answer

    room : 4 * length cs ≤ length ch
    room = let o = ok in grind (arith, nat_tests)

    pub bill_names : pool_of letter ≡ Some (pool_in letter)
    bill_names = let o = ok in grind (arith, nat_tests)

    abbrev out : List ℤ
    out = charges_of (m c.divider) (cost_in m c letter) (weights_in m cs letter)

    after : ch' ≡ written ch (order (pool_in letter) * length cs) out
    after = s.after ∙ ap (λ (o : Option Refusal). cond (passes o) (written ch (order (pool_in letter) * length cs) out) ch) ok

    charged : Charged (cost_in m c letter) (weights_in m cs letter) out
    charged =
        charges_charged (fair c.divider) (cost_in m c letter) (weights_in m cs letter) λ due.
        let o = ok in
        let fits = divides letter in
        record { some = grind (arith, nat_tests); small = grind (arith, nat_tests); fits = grind (arith, nat_tests) }

    length_out : length out ≡ length cs
    length_out = charged.len ∙ length-map cs (pool_weight (pool_in letter))

    end : order (pool_in letter) * length cs + length out ≤ length ch
    end = omega (arith, room, length_out, apart (order (pool_in letter)) 4 (length cs) (below_four (pool_in letter)))

    own : charges_in (pool_in letter) (length cs) ch' ≡ out
    own =
        let from = order (pool_in letter) * length cs in
        ap (λ (l : List ℤ). part l from (length cs)) after ∙ ap (part (written ch from out) from) (sym length_out) ∙ part_same ch from out end

    other : (q : Pool) → (q ≡ pool_in letter → ⊥) → charges_in q (length cs) ch' ≡ charges_in q (length cs) ch
    other q ne =
        let n = length cs in
        let i = order (pool_in letter) in
        let long = length_out in
        ap (λ (l : List ℤ). part l (order q * n) n) after ∙ ⊎_elim
        (λ e. absurd (ne (same_pool q (pool_in letter) e)))
        (⊎_elim
        (λ l. part_before ch (i * n) out end (order q * n) n (apart (order q) i n l))
        (λ l. part_behind ch (i * n) out end (order q * n) n (omega (arith, apart i (order q) n l))))
        (cases_order (order q) i)

    -- The pool that a letter names is paid, and the charges of all others stay.
    pub bill_pays : (p : Pool) → pool_of letter ≡ Some p → Paid p (cost c.costs c.credits p) cs ch'
    bill_pays p names =
        subst (λ (q : Pool). Paid q (cost c.costs c.credits q) cs ch') (ap (λ (o : Option Pool). unwrap_or o Composite) names)
        (part_paid (pool_in letter) (cost_in m c letter) cs ch' (rw own charged))

    pub bill_leaves : (p : Pool) → pool_of letter ≡ Some p → (q : Pool) → (q ≡ p → ⊥) → charges_in q (length cs) ch' ≡ charges_in q (length cs) ch
    bill_leaves p names q ne = other q (λ e. ne (e ∙ ap (λ (o : Option Pool). unwrap_or o Composite) names))

  -- A refused bill leaves the charges.
  pub refused_leaves : {letter : ℕ} {ws ss ws' ss' : List ℕ} {ch ch' : List ℤ} {e : Refusal} → Bills m c cs letter ws ss ch (Err e) ws' ss' ch' → ch' ≡ ch
  refused_leaves {letter} {ws} {ss} {ch = ch} {e = e} s =
      let why = denied tt e (bill_asks m c cs letter ws ss ch) s.answer in
      s.after ∙ ap (λ (o : Option Refusal). cond (passes o) (written ch (order (pool_in letter) * length cs) (charges_of (m c.divider) (cost_in m c letter) (weights_in m cs letter))) ch) why

  -- Each pool that was billed stays paid.
  pub bill_keeps : ((d : D) → LawfulMeaning (m d)) → {letter : ℕ} {ws ss ws' ss' : List ℕ} {ch ch' : List ℤ} (r : Result (Unit {0}) Refusal) → Bills m c cs letter ws ss ch r ws' ss' ch' → (es : List Event) → ((p : Pool) → Billed p es → Paid p (cost c.costs c.credits p) cs ch) → (p : Pool) → Billed p (billing letter r ∷ es) → Paid p (cost c.costs c.credits p) cs ch'
  bill_keeps fair (Ok u) s es before p (inl names) = bill_pays fair s p names
  bill_keeps fair {letter} {ch = ch} {ch'} (Ok u) s es before p (inr billed) =
      let q = pool_in letter in
      let names = bill_names fair s in
      ⊎_elim
      (λ e. bill_pays fair s p (names ∙ ap Some (sym (same_pool p q e))))
      (λ ne. paid_stays p (cost c.costs c.credits p) cs ch ch' (bill_leaves fair s q names p (λ e. ne (ap order e))) (before p billed))
      (cases_eq (order p) (order q))
  bill_keeps fair (Err e) s es before p (inl names) = absurd (let z : ◌≡◌ {A = ℕ} 0 1 = cc in omega arith)
  bill_keeps fair (Err e) s es before p (inr billed) = rw (refused_leaves s) (before p billed)

-- A pool is paid by the sides as by the history's lines.
pub paid_by_lines : {es : List Event} {costs credits : Sides} {ls : List CostLine} {cs : List Customer} {ch : List ℤ} → LinesKept es costs credits ls → (p : Pool) → Paid p (cost costs credits p) cs ch → Paid p (cost_by (lines_of es) p) cs ch
paid_by_lines {cs = cs} {ch = ch} kept p paid = subst (λ (z : ℤ). Paid p z cs ch) (cost_is kept p) paid

-- Where all four pools are paid, the charges together are the expenses less the credits.
pub all_paid : (ls : List CostLine) {cs : List Customer} {ch : List ℤ} → ((p : Pool) → Paid p (cost_by ls p) cs ch) → all_charges (length cs) ch ≡ pos (expenses ls) -ℤ pos (credits ls)
all_paid ls paid =
    rw ((paid Composite).adds_up, (paid NonSlice).adds_up, (paid Slice).adds_up, (paid Tier2).adds_up) (costs_together ls)
