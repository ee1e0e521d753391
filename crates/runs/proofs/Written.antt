-- Shares that are written into the records, each into the one at its place.
use Rattle.std.proofs.Common.{◌≡◌, ℕ, zero, suc, ◌*◌, ◌<◌, true, List, [], ◌∷◌, map, length, get_or, sum_by, refl, arith}
use Rattle.std.specs.List.{AllByRecursion}
use Rattle.std.proofs.lemmas.List.Sums.{sum_by-cons, sum-map}
use Rattle.std.proofs.lemmas.Bool.{and_parts, leb-true}
use Rattle.divider.specs.Questions.{limit, Passes}
use Rattle.records.specs.declared.customer.Customer.{Customer}
use Rattle.book.specs.Customers.{with_shares}
use Rattle.book.specs.Rates.{divisible}

pub sum_by_zero : {X : Type 0} (xs : List X) → sum_by (λ (x : X). 0) xs ≡ 0
sum_by_zero [] = refl
sum_by_zero {X} (x ∷ xs) = omega (arith, sum_by-cons (λ (y : X). 0) x xs, sum_by_zero xs)

module _ (w : Customer → ℕ → Customer) where
  pub all_written : (P : Customer → Type 0) → ((c : Customer) (s : ℕ) → P c → P (w c s)) → (shares : List ℕ) (cs : List Customer) → AllByRecursion P cs → AllByRecursion P (with_shares w shares cs)
  all_written P each shares [] h = tt
  all_written P each [] (c ∷ cs) h = h
  all_written P each (s ∷ shares) (c ∷ cs) h = (each c s h.0, all_written P each shares cs h.1)

  -- A figure that the writing leaves, and one that it makes of the share.
  pub sum_by_left : (f : Customer → ℕ) → ((c : Customer) (s : ℕ) → f (w c s) ≡ f c) → (shares : List ℕ) (cs : List Customer) → sum_by f (with_shares w shares cs) ≡ sum_by f cs
  sum_by_left f same shares [] = refl
  sum_by_left f same [] (c ∷ cs) = refl
  sum_by_left f same (s ∷ shares) (c ∷ cs) =
      omega (arith, sum_by-cons f (w c s) (with_shares w shares cs), sum_by-cons f c cs, same c s, sum_by_left f same shares cs)

  pub sum_by_made : (f : Customer → ℕ) (g : ℕ → ℕ) → ((c : Customer) (s : ℕ) → f (w c s) ≡ g s) → (shares : List ℕ) (cs : List Customer) → length shares ≡ length cs → sum_by f (with_shares w shares cs) ≡ sum_by g shares
  sum_by_made f g made [] [] e = refl
  sum_by_made f g made (s ∷ shares) [] e = absurd (omega arith)
  sum_by_made f g made [] (c ∷ cs) e = absurd (omega arith)
  sum_by_made f g made (s ∷ shares) (c ∷ cs) e =
      omega (arith, sum_by-cons f (w c s) (with_shares w shares cs), sum_by-cons g s shares, made c s, sum_by_made f g made shares cs (omega arith))

  pub get_or-written : (shares : List ℕ) (cs : List Customer) (k : ℕ) (d : Customer) → length shares ≡ length cs → k < length cs → get_or (with_shares w shares cs) k d ≡ w (get_or cs k d) (get_or shares k 0)
  get_or-written shares [] k d e lt = absurd (omega arith)
  get_or-written [] (c ∷ cs) k d e lt = absurd (omega arith)
  get_or-written (s ∷ shares) (c ∷ cs) zero d e lt = refl
  get_or-written (s ∷ shares) (c ∷ cs) (suc k) d e lt = get_or-written shares cs k d (omega arith) (omega arith)

-- What a book asks before it divides is what the divider asks.
pub divisible_passes : (f : Customer → ℕ) (cs : List Customer) (total : ℕ) → 0 < sum_by f cs → divisible total (sum_by f cs) ≡ true → Passes total (map f cs)
divisible_passes f cs total some h =
    let is = sum-map f cs in
    let both = and_parts _ _ h in
    record {
      some = rw is some;
      small = rw is (leb-true (sum_by f cs) limit both.0);
      fits = rw is (leb-true (total * sum_by f cs) limit both.1);
    }
