use Rattle.std.proofs.Common.{rules, ◌≡◌, ℕ, ◌^◌, ◌<◌, ◌≤◌, List, [], ◌∷◌, length, decimal, sum_by, ap, subst, arith}
use Rattle.std.specs.Fmt.{signed_decimal}
use Rattle.records.specs.declared.pool.Pool.TheVariants.{Composite, NonSlice, Slice, Tier2}
use Rattle.records.specs.Figures.{above_rhwm}
use Rattle.register.specs.Register.{records}
use Rattle.book.specs.Sides.{cost}
use Rattle.listing.proofs.Listed.{figure_few, row_few, short_is}
use Rattle.listing.proofs.rows_of.sum_row.Goals as goal

pub returns-clause-short : goal.returns-clause-short
returns-clause-short g c =
    let cs = records c.args.customers.now in
    let book = c.args.book.now in
    let small : (n : ℕ) → n < 2 ^ 64 → length (decimal n) ≤ 24 = λ n h. omega (arith, figure_few n h) in
    let fits : (n m : ℕ) → n < 2 ^ 64 → n ≡ m → length (decimal m) ≤ 24 = λ n m h e. subst (λ (k : ℕ). length (decimal k) ≤ 24) e (small n h) in
    let few : (f r : List ℕ) → length f ≤ 24 → f ≡ r → length r ≤ 24 = λ f r h e. subst (λ (t : List ℕ). length t ≤ 24) e h in
    let sums = c.sums-marks.result in
    short_is _ c.ok_or.result (row_few (decimal 0) ((83 ∷ 85 ∷ 77 ∷ []) ∷ decimal (sum_by (λ c. c.mark) cs) ∷ decimal (sum_by (λ c. c.rhwm) cs) ∷ decimal (sum_by above_rhwm cs) ∷ signed_decimal (cost book.costs book.credits Composite) ∷ signed_decimal (cost book.costs book.credits NonSlice) ∷ signed_decimal (cost book.costs book.credits Slice) ∷ signed_decimal (cost book.costs book.credits Tier2) ∷ []) (omega arith)
    (small 0 (omega arith), (omega arith, (fits sums.0 _ (search rules) (rw (← c.records.ensures) (ap (λ (t : ℕ × ℕ × ℕ). t.0) c.sums-marks.ensures)), (fits sums.1 _ (search rules) (rw (← c.records.ensures) (ap (λ (t : ℕ × ℕ × ℕ). t.1) c.sums-marks.ensures)), (fits sums.2 _ (search rules) (rw (← c.records.ensures) (ap (λ (t : ℕ × ℕ × ℕ). t.2) c.sums-marks.ensures)), (few _ _ c.cost.ensures.few c.cost.ensures.bytes, (few _ _ c.cost-2.ensures.few c.cost-2.ensures.bytes, (few _ _ c.cost-3.ensures.few c.cost-3.ensures.bytes, (few _ _ c.cost-4.ensures.few c.cost-4.ensures.bytes, tt))))))))))
