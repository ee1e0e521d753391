-- Where a search by halves ends among records in rising order.
use Rattle.std.proofs.Common.{◌≡◌, ℕ, zero, suc, ◌<◌, ◌≤◌, List, [], ◌∷◌, length, get_or, None, Result, Ok, Err, sym, refl, arith}
use Rattle.std.specs.List.Sorted.{IsSearchInRange, IsBinarySearchResult, IsNonDecreasingBy}
use Rattle.std.specs.Ordering.{nat_cmp, ordering_index}
use Rattle.std.proofs.lemmas.Cmp.{ranked}
use Rattle.std.proofs.lemmas.Bool.Decides.{nat_tests}
use Rattle.std.proofs.lemmas.List.{get_or_default}
use Rattle.std.proofs.lemmas.Option.{slice_get_read}
use Rattle.register.specs.Records.{lookup, place_of, place_for, InOrder, Located}
use Rattle.register.proofs.Order.{above_first}

module _ {R : Type 0} (key : R → ℕ) where
  -- numbers rise with their places
  rise : (xs : List R) → InOrder key xs → (i j : ℕ) (d : R) → i ≤ j → j < length xs → key (get_or xs i d) ≤ key (get_or xs j d)
  rise [] o i j d le lt = absurd (omega arith)
  rise (x ∷ xs) o zero zero d le lt = omega arith
  rise (x ∷ xs) o zero (suc j) d le lt =
      let y : R = get_or xs j d in
      let below : j < length xs = omega arith in
      let there = slice_get_read xs (length xs) j y refl below (get_or_default xs j d y below) in
      omega (arith, above_first key j x y xs o there)
  rise (x ∷ xs) o (suc i) zero d le lt = absurd (omega arith)
  rise (x ∷ xs) o (suc i) (suc j) d le lt = rise xs o.1 i j d (omega arith) (omega arith)

  module _ (n : ℕ) where
    comparisons_rise : (xs : List R) → InOrder key xs → IsNonDecreasingBy (λ x. ordering_index (nat_cmp (key x) n)) xs
    comparisons_rise xs o i j d le lt = let up = rise xs o i j d le lt in grind (arith, nat_tests)

    stands_at : (i : ℕ) (xs : List R) → InOrder key xs → i < length xs → ((d : R) → key (get_or xs i d) ≡ n) → i ≡ place_of key n xs
    stands_at i [] o lt is = absurd (omega arith)
    stands_at zero (x ∷ xs) o lt is = let here = is x in grind (arith, nat_tests)
    stands_at (suc i) (x ∷ xs) o lt is =
        let there = is x in
        let up = rise (x ∷ xs) o in
        let ih = stands_at i xs o.1 (omega arith) is in
        let below : i < length xs = omega arith in
        let y : R = get_or xs i x in
        let lower = above_first key i x y xs o (slice_get_read xs (length xs) i y refl below (get_or_default xs i x y below)) in
        grind (arith, nat_tests)

    -- all before a place have lower numbers, and all from it on have higher ones
    gap_at : (i : ℕ) (xs : List R) → i ≤ length xs → ((k : ℕ) (d : R) → k < i → key (get_or xs k d) < n) → ((k : ℕ) (d : R) → i ≤ k → k < length xs → n < key (get_or xs k d))
        → (i ≡ place_for key n xs) × (lookup key n xs ≡ None)
    gap_at zero [] le below above = (refl, refl)
    gap_at (suc i) [] le below above = absurd (omega arith)
    gap_at zero (x ∷ xs) le below above =
        let here : n < key x = above 0 x (omega arith) (omega arith) in
        let ih = gap_at zero xs (omega arith) (λ k d lt. absurd (omega arith)) (λ k d le' lt. above (suc k) d (omega arith) (omega arith)) in
        (grind (arith, nat_tests), grind (arith, nat_tests))
    gap_at (suc i) (x ∷ xs) le below above =
        let here : key x < n = below 0 x (omega arith) in
        let ih = gap_at i xs (omega arith) (λ k d lt. below (suc k) d (omega arith)) (λ k d le' lt. above (suc k) d (omega arith) (omega arith)) in
        (grind (arith, nat_tests), grind (arith, nat_tests))

    pub located : (xs : List R) → InOrder key xs → (r : Result ℕ ℕ) → IsSearchInRange r (length xs) → IsBinarySearchResult (λ x. nat_cmp (key x) n) xs r → Located key n xs r
    located xs o (Ok i) within is = (stands_at i xs o within (λ d. ranked (key (get_or xs i d)) n _ (sym (is d))), within)
    located xs o (Err i) within parts =
        let halves = parts (comparisons_rise xs o) in
        let gap = gap_at i xs within (λ k d lt. ranked (key (get_or xs k d)) n _ (sym (halves.0 k d (omega arith) lt))) (λ k d le lt. ranked (key (get_or xs k d)) n _ (sym (halves.1 k d le lt))) in
        (gap.0, within, gap.1)
