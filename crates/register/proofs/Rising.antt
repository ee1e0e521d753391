-- The records from the first one on that stand in rising order.
use Rattle.std.proofs.Common.{◌≡◌, ℕ, ◌<◌, ◌≤◌, true, cond, ltb, List, [], ◌∷◌, length, take, min, None, Some, Option, refl, sym, ap, ◌∙◌, arith}
use Rattle.std.specs.List.{AllByRecursion}
use Rattle.std.proofs.ByRecursion.{All-map, All-weaker}
use Rattle.std.proofs.lemmas.List.Elements.{recursion_from_All}
use Rattle.std.proofs.lemmas.Bool.{cond_both, ltb-true}
use Rattle.std.proofs.lemmas.List.{take-take, length-take}
use Rattle.std.proofs.lemmas.Bool.Decides.{nat_tests}
use Rattle.register.specs.Records.{rises, rising_after, rising_front, InOrder, usable}
use Rattle.register.proofs.Order.{all_unmap}

module _ {R : Type 0} (key : R → ℕ) where
  -- it is what so many records from the first one on are
  pub front_is : (last : Option ℕ) (xs : List R) → take (length (rising_after key last xs)) xs ≡ rising_after key last xs
  front_is last [] = refl
  front_is last (x ∷ xs) =
      cond_both (rises last (key x)) (x ∷ rising_after key (Some (key x)) xs) [] (λ (t : List R). take (length t) (x ∷ xs) ≡ t)
      (λ _. ap (λ (t : List R). x ∷ t) (front_is (Some (key x)) xs)) (λ _. refl)

  pub front_le : (last : Option ℕ) (xs : List R) → length (rising_after key last xs) ≤ length xs
  front_le last [] = omega arith
  front_le last (x ∷ xs) =
      let ih = front_le (Some (key x)) xs in
      cond_both (rises last (key x)) (x ∷ rising_after key (Some (key x)) xs) [] (λ (t : List R). length t ≤ length (x ∷ xs))
      (λ _. omega arith) (λ _. omega arith)

  above_last : (n : ℕ) (xs : List R) → AllByRecursion (λ y. n < key y) (rising_after key (Some n) xs)
  above_last n [] = tt
  above_last n (x ∷ xs) =
      cond_both (ltb n (key x)) (x ∷ rising_after key (Some (key x)) xs) [] (λ (t : List R). AllByRecursion (λ y. n < key y) t)
      (λ b. let lt : n < key x = ltb-true n (key x) b in
      (lt, All-weaker (λ y. key x < key y) (λ y. n < key y) (λ y h. omega arith) (rising_after key (Some (key x)) xs) (above_last (key x) xs)))
      (λ _. tt)

  pub front_rises : (last : Option ℕ) (xs : List R) → InOrder key (rising_after key last xs)
  front_rises last [] = tt
  front_rises last (x ∷ xs) =
      cond_both (rises last (key x)) (x ∷ rising_after key (Some (key x)) xs) [] (InOrder key)
      (λ _. (All-map (λ m. key x < m) key (rising_after key (Some (key x)) xs) (above_last (key x) xs), front_rises (Some (key x)) xs))
      (λ _. tt)

  -- records in order are all of it
  front_all : (last : Option ℕ) (xs : List R) → AllByRecursion (λ y. rises last (key y) ≡ true) xs → InOrder key xs → rising_after key last xs ≡ xs
  front_all last [] above o = refl
  front_all last (x ∷ xs) above o =
      let higher = All-weaker (λ y. key x < key y) (λ y. rises (Some (key x)) (key y) ≡ true) (λ y h. grind (arith, nat_tests)) xs (all_unmap key (λ m. key x < m) xs o.0) in
      ap (λ b. cond b (x ∷ rising_after key (Some (key x)) xs) []) above.0 ∙ ap (λ (t : List R). x ∷ t) (front_all (Some (key x)) xs higher o.1)

  pub front_in_order : (xs : List R) → InOrder key xs → rising_front key xs ≡ xs
  front_in_order xs o = front_all None xs (recursion_from_All (λ y. rises None (key y) ≡ true) xs (λ k d lt. refl)) o

  -- of the first places of a memory
  pub front_taken : (mem : List R) (standing n : ℕ) → n ≡ length (rising_front key (take (min standing (usable mem)) mem)) → take (min n (usable mem)) mem ≡ rising_front key (take (min standing (usable mem)) mem)
  front_taken mem standing n is =
      let most = min standing (usable mem) in
      let used = take most mem in
      let few : n ≤ most = omega (arith, front_le None used, length-take most mem) in
      let all : min n (usable mem) ≡ n = omega arith in
      ap (λ (k : ℕ). take k mem) all ∙ sym (take-take n most mem few) ∙ ap (λ (k : ℕ). take k used) is ∙ front_is None used
