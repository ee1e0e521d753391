-- Records with numbers: their numbers after a change, and figures of them that are looked up by number.
use Rattle.std.proofs.Common.{◌≡◌, ℕ, ◌<◌, true, ltb, List, [], ◌∷◌, ◌++◌, map, length, get_or, take, is_some, ℤ, pos, ◌+ℤ◌, ◌-ℤ◌, fold, sum_by, refl, ◌∙◌, arith}
use borrow.Author.Differences.{up, down, ints}
use Rattle.std.specs.List.{All}
use Rattle.std.specs.List.Sorted.{IsPermutation}
use Rattle.std.proofs.lemmas.Bool.{cond_both}
use Rattle.std.proofs.lemmas.Bool.Decides.{nat_tests}
use Rattle.std.proofs.lemmas.List.Elements.{All-nil, All-cons, All-head, All-tail, All-weaker, All-from_recursion}
use Rattle.std.proofs.lemmas.List.Sorted.{IsPermutation-refl, IsPermutation-cons, IsPermutation-to_front, sum_by-IsPermutation}
use Rattle.std.proofs.lemmas.List.Sums.{sum_by-cons, sum_by-le}
use Rattle.register.specs.Records.{lookup, added, place_of, InOrder}
use Rattle.runs.specs.Runs.{sumℤ}

-- figures that are the same for each add up to the same
sum_by_agree : {X : Type 0} (f g : X → ℕ) (xs : List X) → All (λ x. f x ≡ g x) xs → sum_by f xs ≡ sum_by g xs
sum_by_agree f g [] all = refl
sum_by_agree f g (x ∷ xs) all =
    let here : f x ≡ g x = All-head (λ y. f y ≡ g y) x xs all in
    let there = sum_by_agree f g xs (All-tail (λ y. f y ≡ g y) x xs all) in
    omega (arith, sum_by-cons f x xs, sum_by-cons g x xs)

-- a figure of what is made of each adds up as a figure of each
sum_by_made_of : {X Y : Type 0} (f : Y → ℕ) (g : X → Y) (xs : List X) → sum_by f (map g xs) ≡ sum_by (λ x. f (g x)) xs
sum_by_made_of f g [] = refl
sum_by_made_of f g (x ∷ xs) =
    omega (arith, sum_by-cons f (g x) (map g xs), sum_by-cons (λ y. f (g y)) x xs, sum_by_made_of f g xs)

-- a sum of signed numbers is the sum of the positive ones less that of the negative ones
folded : (a : ℤ) (zs : List ℤ) → fold (λ b z. b +ℤ z) a zs ≡ a +ℤ (pos (sum_by up zs) -ℤ pos (sum_by down zs))
folded a [] = omega (arith, ints)
folded a (z ∷ zs) =
    omega (arith, ints, folded (a +ℤ z) zs, sum_by-cons up z zs, sum_by-cons down z zs)

signed_sum : (zs : List ℤ) → sumℤ zs ≡ pos (sum_by up zs) -ℤ pos (sum_by down zs)
signed_sum zs = omega (arith, ints, folded (pos 0) zs)

-- one signed number more
sumℤ-cons : (z : ℤ) (zs : List ℤ) → sumℤ (z ∷ zs) ≡ z +ℤ sumℤ zs
sumℤ-cons z zs =
    omega (arith, ints, signed_sum (z ∷ zs), signed_sum zs, sum_by-cons up z zs, sum_by-cons down z zs)

-- What four columns hold in each row adds up as the columns do.
pub sumℤ-four : {X : Type 0} (f g h k : X → ℤ) (xs : List X) → sumℤ (map (λ x. f x +ℤ g x +ℤ h x +ℤ k x) xs) ≡ sumℤ (map f xs) +ℤ sumℤ (map g xs) +ℤ sumℤ (map h xs) +ℤ sumℤ (map k xs)
sumℤ-four f g h k [] = refl
sumℤ-four {X = X} f g h k (x ∷ xs) =
    let row = λ (y : X). f y +ℤ g y +ℤ h y +ℤ k y in
    omega (arith, ints, sumℤ-four f g h k xs, sumℤ-cons (row x) (map row xs), sumℤ-cons (f x) (map f xs), sumℤ-cons (g x) (map g xs), sumℤ-cons (h x) (map h xs), sumℤ-cons (k x) (map k xs))

module _ {R : Type 0} (key : R → ℕ) where
  -- A record that is added adds its number.
  pub numbers_added : (row : R) (xs : List R) → IsPermutation (map key xs ++ key row ∷ []) (map key (added key row xs))
  numbers_added row [] = IsPermutation-refl (key row ∷ [])
  numbers_added row (x ∷ xs) =
      cond_both (ltb (key row) (key x)) (row ∷ x ∷ xs) (x ∷ added key row xs)
      (λ (t : List R). IsPermutation (map key (x ∷ xs) ++ key row ∷ []) (map key t))
      (λ _. IsPermutation-to_front (map key (x ∷ xs)) (key row))
      (λ _. IsPermutation-cons (key x) (map key xs ++ key row ∷ []) (map key (added key row xs)) (numbers_added row xs))

  -- Each record's number is found.
  pub all_found : (xs : List R) → All (λ n. is_some (lookup key n xs) ≡ true) (map key xs)
  all_found [] = All-nil (λ n. is_some (lookup key n []) ≡ true)
  all_found (x ∷ xs) =
      All-cons (λ n. is_some (lookup key n (x ∷ xs)) ≡ true) (key x) (map key xs) (grind (arith, nat_tests))
      (All-weaker (λ n. is_some (lookup key n xs) ≡ true) (λ n. is_some (lookup key n (x ∷ xs)) ≡ true) (λ n found. grind (arith, nat_tests)) (map key xs) (all_found xs))

  -- What stands at the places of the numbers of records in order adds up as what stands at the first places.
  module _ {Z : Type 0} (f : Z → ℕ) (d : Z) (none : f d ≡ 0) where
    sum_by-places : (xs : List R) → InOrder key xs → (zs : List Z) → sum_by (λ n. f (get_or zs (place_of key n xs) d)) (map key xs) ≡ sum_by f (take (length xs) zs)
    sum_by-places [] o zs = refl
    sum_by-places (x ∷ xs) o [] = omega (arith, sum_by-le (λ (n : ℕ). f d) 0 (map key (x ∷ xs)) (λ k e lt. omega arith))
    sum_by-places (x ∷ xs) o (z ∷ zs) =
        let at = λ (n : ℕ). f (get_or (z ∷ zs) (place_of key n (x ∷ xs)) d) in
        let behind = λ (n : ℕ). f (get_or zs (place_of key n xs) d) in
        let here : at (key x) ≡ f z = grind (arith, nat_tests) in
        let above : All (λ n. key x < n) (map key xs) = All-from_recursion (λ n. key x < n) (map key xs) o.0 in
        let there : All (λ n. at n ≡ behind n) (map key xs) = All-weaker (λ n. key x < n) (λ n. at n ≡ behind n) (λ n lower. grind (arith, nat_tests)) (map key xs) above in
        omega (arith, here, sum_by-cons at (key x) (map key xs), sum_by_agree at behind (map key xs) there, sum_by-places xs o.1 zs, sum_by-cons f z (take (length xs) zs))

  -- So it does over the records' numbers in any other order, whether a figure of it is added up or signed numbers are.
  module _ (xs : List R) (o : InOrder key xs) (ns : List ℕ) (p : IsPermutation (map key xs) ns) where
    pub sum_by-column : {Z : Type 0} (f : Z → ℕ) (d : Z) → f d ≡ 0 → (zs : List Z) → sum_by (λ n. f (get_or zs (place_of key n xs) d)) ns ≡ sum_by f (take (length xs) zs)
    sum_by-column f d none zs =
        sum_by-IsPermutation (λ n. f (get_or zs (place_of key n xs) d)) (map key xs) ns p ∙ sum_by-places f d none xs o zs

    pub sumℤ-column : (zs : List ℤ) → sumℤ (map (λ n. get_or zs (place_of key n xs) (pos 0)) ns) ≡ sumℤ (take (length xs) zs)
    sumℤ-column zs =
        let at = λ (n : ℕ). get_or zs (place_of key n xs) (pos 0) in
        omega (arith, ints, signed_sum (map at ns), signed_sum (take (length xs) zs), sum_by_made_of up at ns, sum_by_made_of down at ns, sum_by-column up (pos 0) refl zs, sum_by-column down (pos 0) refl zs)
