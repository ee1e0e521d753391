-- Counts of what passes a test.
use Rattle.std.specs.Prelude.{◌≡◌, ℕ, zero, suc, ◌+◌, ◌*◌, ◌≤◌, Bool, true, false, cond, ltb, leb, List, [], ◌∷◌, map, sum_by, count_by, ◌==◌, nat_eq, nat_le, nat_lt, refl}
use Rattle.std.proofs.Common.{ap, arith, add-mul}
use Rattle.std.proofs.lemmas.List.Sums.{sum_by-cons}
use Rattle.std.proofs.lemmas.Bool.{false≢true, le-leb}
use Rattle.std.proofs.lemmas.Bool.Decides.{nat_tests}

cond_le : (a b : Bool) → (a ≡ true → b ≡ true) → cond a 1 0 ≤ cond b 1 0
cond_le true true h = omega arith
cond_le true false h = absurd (false≢true (h refl))
cond_le false true h = omega arith
cond_le false false h = omega arith

pub count_le : (p q : ℕ → Bool) → ((x : ℕ) → p x ≡ true → q x ≡ true) → (xs : List ℕ) → count_by p xs ≤ count_by q xs
count_le p q h [] = omega arith
count_le p q h (x ∷ xs) =
    let a = sum_by-cons (λ x. cond (p x) 1 0) x xs in
    let b = sum_by-cons (λ x. cond (q x) 1 0) x xs in
    let i = count_le p q h xs in
    let k = cond_le (p x) (q x) (h x) in
    omega arith

-- those at least a are those above a and those that are a
pub count_split : (r : ℕ → ℕ) (a : ℕ) (xs : List ℕ) → count_by (λ x. leb a (r x)) xs ≡ count_by (λ x. ltb a (r x)) xs + count_by (λ x. nat_eq (r x) a) xs
count_split r a [] = omega arith
count_split r a (x ∷ xs) =
    let u = sum_by-cons (λ x. cond (nat_le a (r x)) 1 0) x xs in
    let v = sum_by-cons (λ x. cond (nat_lt a (r x)) 1 0) x xs in
    let w = sum_by-cons (λ x. cond (r x == a) 1 0) x xs in
    let i = count_split r a xs in
    let k : cond (nat_le a (r x)) 1 0 ≡ cond (nat_lt a (r x)) 1 0 + cond (r x == a) 1 0 = grind (arith, nat_tests) in
    omega arith

-- a sum of numbers up to s is at most s for each that is not 0
pub sum_le_count : (r : ℕ → ℕ) (s : ℕ) → ((x : ℕ) → r x ≤ s) → (xs : List ℕ) → sum_by r xs ≤ count_by (λ x. leb 1 (r x)) xs * s
sum_le_count r s h [] = omega arith
sum_le_count r s h (x ∷ xs) =
    let u = sum_by-cons r x xs in
    let v = sum_by-cons (λ x. cond (nat_le 1 (r x)) 1 0) x xs in
    let i = sum_le_count r s h xs in
    let m = add-mul (cond (nat_le 1 (r x)) 1 0) (count_by (λ x. leb 1 (r x)) xs) s in
    let k : r x ≤ cond (nat_le 1 (r x)) 1 0 * s = one (r x) s (h x) in
    rw v (omega arith)
  where
    one : (n s : ℕ) → n ≤ s → n ≤ cond (nat_le 1 n) 1 0 * s
    one zero s h = omega arith
    one (suc n) s h = rw (le-leb 1 (suc n) (omega arith)) (omega arith)

pub count_none : (p : ℕ → Bool) → ((x : ℕ) → p x ≡ false) → (xs : List ℕ) → count_by p xs ≡ 0
count_none p h [] = refl
count_none p h (x ∷ xs) =
    let a = sum_by-cons (λ x. cond (p x) 1 0) x xs in
    let b : ◌≡◌ {A = ℕ} (cond (p x) 1 0) 0 = rw (h x) refl in
    let i = count_none p h xs in
    omega arith

-- the count of a test over what a function makes of the list
pub count_map : (p q : ℕ → Bool) (f : ℕ → ℕ) → ((x : ℕ) → p (f x) ≡ q x) → (xs : List ℕ) → count_by p (map f xs) ≡ count_by q xs
count_map p q f h [] = refl
count_map p q f h (x ∷ xs) =
    let a = sum_by-cons (λ y. cond (p y) 1 0) (f x) (map f xs) in
    let b = sum_by-cons (λ y. cond (q y) 1 0) x xs in
    let e : ◌≡◌ {A = ℕ} (cond (p (f x)) 1 0) (cond (q x) 1 0) = ap (λ t. cond t 1 0) (h x) in
    let i = count_map p q f h xs in
    omega arith
