-- Rising order after a change, and what it adds to the laws of changes.
use Rattle.std.proofs.Common.{◌≡◌, ℕ, zero, suc, ◌<◌, ◌≤◌, eqb, ltb, List, [], ◌∷◌, map, length, take, Some, None, sym, refl, subst, arith}
use Rattle.std.specs.List.{AllByRecursion, slice_get}
use Rattle.std.proofs.ByRecursion.{All-map, All-weaker, All-take}
use Rattle.std.proofs.lemmas.Option.{slice_get_read}
use Rattle.std.proofs.lemmas.Bool.{cond_both, ltb-true, ltb-false}
use Rattle.std.proofs.lemmas.Bool.Decides.{nat_tests}
use Rattle.register.specs.Records.{lookup, added, without, replaced, lookup_at, replaced_at, Rising, InOrder}
use Rattle.register.proofs.Every.{all_added, all_without, all_nth}
use Rattle.register.proofs.Lookups.{lookup_at_stands, numbers_replaced, numbers_replaced_at}

module _ {R : Type 0} (key : R → ℕ) where
  -- what holds of every number, of the records themselves
  pub all_unmap : (P : ℕ → Type 0) (xs : List R) → AllByRecursion P (map key xs) → AllByRecursion (λ x. P (key x)) xs
  all_unmap P [] all = tt
  all_unmap P (x ∷ xs) all = (all.0, all_unmap P xs all.1)

  -- a number below all others is not among them
  lookup_below : (n : ℕ) (xs : List R) → AllByRecursion (λ m. n < m) (map key xs) → lookup key n xs ≡ None
  lookup_below n [] all = refl
  lookup_below n (x ∷ xs) all = let ih = lookup_below n xs all.1 in let here = all.0 in grind (arith, nat_tests)

  pub ordered_added : (row : R) (xs : List R) → lookup key (key row) xs ≡ None → InOrder key xs → InOrder key (added key row xs)
  ordered_added row [] new o = (tt, tt)
  ordered_added row (x ∷ xs) new o =
      cond_both (ltb (key row) (key x)) (row ∷ x ∷ xs) (x ∷ added key row xs) (λ (t : List R). InOrder key t)
      (λ b. let lt : key row < key x = ltb-true (key row) (key x) b in
      ((lt, All-weaker (λ m. key x < m) (λ m. key row < m) (λ m h. omega arith) (map key xs) o.0), o))
      (λ b. let le : key x ≤ key row = ltb-false (key row) (key x) b in
      let later : lookup key (key row) xs ≡ None = grind (arith, nat_tests) in
      let lt : key x < key row = grind (arith, nat_tests) in
      let above : AllByRecursion (λ y. key x < key y) (added key row xs) = all_added key (λ y. key x < key y) row xs lt (all_unmap (λ m. key x < m) xs o.0) in
      (All-map (λ m. key x < m) key (added key row xs) above, ordered_added row xs later o.1))

  pub ordered_without : (n : ℕ) (xs : List R) → InOrder key xs → InOrder key (without key n xs)
  ordered_without n [] o = tt
  ordered_without n (x ∷ xs) o =
      let above : AllByRecursion (λ y. key x < key y) (without key n xs) = all_without key (λ y. key x < key y) n xs (all_unmap (λ m. key x < m) xs o.0) in
      cond_both (eqb (key x) n) xs (x ∷ without key n xs) (λ (t : List R). InOrder key t)
      (λ _. o.1) (λ _. (All-map (λ m. key x < m) key (without key n xs) above, ordered_without n xs o.1))

  pub ordered_replaced : (row : R) (xs : List R) → InOrder key xs → InOrder key (replaced key row xs)
  ordered_replaced row xs o = subst Rising (sym (numbers_replaced key row xs)) o

  pub ordered_replaced_at : (i : ℕ) (row : R) (xs : List R) → InOrder key xs → InOrder key (replaced_at key i row xs)
  ordered_replaced_at i row xs o = subst Rising (sym (numbers_replaced_at key i row xs)) o

  -- a record taken out of records in order is not found again
  pub lookup-without_same : (n : ℕ) (xs : List R) → InOrder key xs → lookup key n (without key n xs) ≡ None
  lookup-without_same n [] o = refl
  lookup-without_same n (x ∷ xs) o =
      let ih = lookup-without_same n xs o.1 in
      let gone = lookup_below (key x) xs o.0 in
      grind (arith, nat_tests)

  -- the number at a place is above the first one
  pub above_first : (i : ℕ) (y x : R) (ys : List R) → InOrder key (y ∷ ys) → slice_get ys i ≡ Some x → key y < key x
  above_first i y x ys o at = all_nth key (λ z. key y < key z) i x ys (all_unmap (λ m. key y < m) ys o.0) at

  -- a record that stands among records in order is the one found by its number
  pub lookup_standing : (i : ℕ) (x : R) (xs : List R) → InOrder key xs → slice_get xs i ≡ Some x → lookup key (key x) xs ≡ Some x
  lookup_standing i x [] o at = grind arith
  lookup_standing zero x (y ∷ ys) o at = grind (arith, nat_tests)
  lookup_standing (suc i) x (y ∷ ys) o at =
      let ih = lookup_standing i x ys o.1 at in
      let lower = above_first i y x ys o at in
      grind (arith, nat_tests)

  -- among records in order, replacing at a place is replacing by number
  pub replaced_at-replaced : (i : ℕ) (row x : R) (xs : List R) → InOrder key xs → lookup_at key i (key row) xs ≡ Some x → replaced_at key i row xs ≡ replaced key row xs
  replaced_at-replaced i row x [] o at = refl
  replaced_at-replaced zero row x (y ∷ ys) o at = grind (arith, nat_tests)
  replaced_at-replaced (suc i) row x (y ∷ ys) o at =
      let ih = replaced_at-replaced i row x ys o.1 at in
      let there = lookup_at_stands key i (key row) x ys at in
      let lower = above_first i y x ys o (slice_get_read ys (length ys) i x refl there.0 there.1) in
      grind (arith, nat_tests)

  pub ordered_take : (n : ℕ) (xs : List R) → InOrder key xs → InOrder key (take n xs)
  ordered_take zero xs o = tt
  ordered_take (suc n) [] o = tt
  ordered_take (suc n) (x ∷ xs) o =
      let above : AllByRecursion (λ y. key x < key y) (take n xs) = All-take (λ y. key x < key y) n xs (all_unmap (λ m. key x < m) xs o.0) in
      (All-map (λ m. key x < m) key (take n xs) above, ordered_take n xs o.1)
