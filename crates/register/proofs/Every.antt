-- What holds of every record, after a change.
use Rattle.std.proofs.Common.{◌≡◌, ℕ, zero, suc, List, [], ◌∷◌, Some, ◌∙◌, subst, arith}
use Rattle.std.specs.List.{AllByRecursion, slice_get}
use Rattle.std.proofs.lemmas.Bool.Decides.{nat_tests}
use Rattle.register.specs.Records.{lookup, added, without, replaced, place_of}
use Rattle.register.proofs.Found.{nth_place_of}

module _ {R : Type 0} (key : R → ℕ) (P : R → Type 0) where
  pub all_added : (row : R) (xs : List R) → P row → AllByRecursion P xs → AllByRecursion P (added key row xs)
  all_added row [] here all = (here, tt)
  all_added row (x ∷ xs) here all = let ih = all_added row xs here all.1 in grind (arith, nat_tests)

  pub all_without : (n : ℕ) (xs : List R) → AllByRecursion P xs → AllByRecursion P (without key n xs)
  all_without n [] all = tt
  all_without n (x ∷ xs) all = let ih = all_without n xs all.1 in grind (arith, nat_tests)

  pub all_replaced : (row : R) (xs : List R) → P row → AllByRecursion P xs → AllByRecursion P (replaced key row xs)
  all_replaced row [] here all = tt
  all_replaced row (x ∷ xs) here all = let ih = all_replaced row xs here all.1 in grind (arith, nat_tests)

  pub all_nth : (i : ℕ) (x : R) (xs : List R) → AllByRecursion P xs → slice_get xs i ≡ Some x → P x
  all_nth i x [] all at = absurd (let z : ◌≡◌ {A = ℕ} 0 1 = cc in omega arith)
  all_nth zero x (y ∷ ys) all at = let e : y ≡ x = cc in subst P e all.0
  all_nth (suc i) x (y ∷ ys) all at = all_nth i x ys all.1 at

  -- of a record that is found too
  pub all_lookup : (n : ℕ) (x : R) (xs : List R) → AllByRecursion P xs → lookup key n xs ≡ Some x → P x
  all_lookup n x xs all found = all_nth (place_of key n xs) x xs all (nth_place_of key n xs ∙ found)
