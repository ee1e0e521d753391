-- The sum of a figure over the records, after a change.
use Rattle.std.proofs.Common.{◌≡◌, ℕ, ◌+◌, ltb, List, [], ◌∷◌, set, Some, sum_by, ap, ◌∙◌, arith}
use Rattle.std.proofs.lemmas.List.Sums.{sum_by-cons, sum_by-set}
use Rattle.std.proofs.lemmas.Bool.Decides.{nat_tests}
use Rattle.std.proofs.lemmas.Bool.{cond_both}
use Rattle.register.specs.Records.{lookup, added, without, replaced, lookup_at, replaced_at}
use Rattle.register.proofs.Lookups.{lookup_at_stands, replaced_at-set}

module _ {R : Type 0} (key f : R → ℕ) where
  pub sum_by-added : (row : R) (xs : List R) → sum_by f (added key row xs) ≡ sum_by f xs + f row
  sum_by-added row [] = omega arith
  sum_by-added row (x ∷ xs) =
      cond_both (ltb (key row) (key x)) (row ∷ x ∷ xs) (x ∷ added key row xs) (λ (t : List R). sum_by f t ≡ sum_by f (x ∷ xs) + f row)
      (λ _. omega (arith, sum_by-cons f row (x ∷ xs)))
      (λ _. omega (arith, sum_by-cons f x (added key row xs), sum_by-cons f x xs, sum_by-added row xs))

  pub sum_by-without : (n : ℕ) (x : R) (xs : List R) → lookup key n xs ≡ Some x → sum_by f (without key n xs) + f x ≡ sum_by f xs
  sum_by-without n x [] h = grind arith
  sum_by-without n x (y ∷ ys) h = let ih = sum_by-without n x ys in grind (arith, nat_tests, sum_by-cons)

  pub sum_by-replaced : (row x : R) (xs : List R) → lookup key (key row) xs ≡ Some x → sum_by f (replaced key row xs) + f x ≡ sum_by f xs + f row
  sum_by-replaced row x [] h = grind arith
  sum_by-replaced row x (y ∷ ys) h = let ih = sum_by-replaced row x ys in grind (arith, nat_tests, sum_by-cons)

  pub sum_by-replaced_at : (i : ℕ) (row x : R) (xs : List R) → lookup_at key i (key row) xs ≡ Some x → sum_by f (replaced_at key i row xs) + f x ≡ sum_by f xs + f row
  sum_by-replaced_at i row x xs h =
      let there = lookup_at_stands key i (key row) x xs h in
      ap (λ (t : List R). sum_by f t + f x) (replaced_at-set key i row x xs there.0 there.1 there.2) ∙ ap (λ (y : R). sum_by f (set xs i row) + f y) there.1 ∙ sum_by-set f xs i row x there.0
