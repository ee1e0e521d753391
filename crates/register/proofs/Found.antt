-- The places that the searches give, and what the definitions on lists say of them.
use Rattle.std.proofs.Common.{◌≡◌, ℕ, ◌+◌, ◌<◌, true, false, cond, not, eqb, ltb, Result, Ok, Err, is_ok, is_some, List, [], ◌∷◌, length, get_or, set, Some, sym, refl, ap, ◌∙◌, one-add, arith}
use Rattle.std.proofs.lemmas.List.Folds.{find_at}
use Rattle.std.proofs.lemmas.List.Recursion.{same_from_clauses}
use Rattle.std.specs.List.{find, slice_get, insert, remove}
use Rattle.std.proofs.lemmas.Option.{slice_get_cases, slice_get_read}
use Rattle.std.proofs.lemmas.Bool.Decides.{nat_tests}
use Rattle.register.specs.Register.{Placed}
use Rattle.register.specs.declared.refusal.Refusal.{Refusal}
use Rattle.register.specs.Records.{lookup, added, without, replaced, place_of, place_for}

module _ {R : Type 0} (key : R → ℕ) where
  -- a record looked up stands at the place of its number
  pub nth_place_of : (n : ℕ) (xs : List R) → slice_get xs (place_of key n xs) ≡ lookup key n xs
  nth_place_of n xs =
      let is_it = λ (x : R). eqb (key x) n in
      sym (find_at is_it xs) ∙ same_from_clauses (find is_it) (lookup key n) (λ x o. cond (is_it x) (Some x) o) refl (λ _ _. refl) (λ _ _. refl) xs

  pub lookup-place_of : (n i : ℕ) (x : R) (xs : List R) → i ≡ place_of key n xs → i < length xs → x ≡ get_or xs i x → lookup key n xs ≡ Some x
  lookup-place_of n i x xs e lt is = sym (nth_place_of n xs) ∙ ap (slice_get xs) (sym e) ∙ slice_get_read xs (length xs) i x refl lt is

  -- a place is found exactly where a record is
  pub placed_ok : (n : ℕ) (xs : List R) (r : Result ℕ Refusal) → Placed key n xs r → is_some (lookup key n xs) ≡ is_ok r
  placed_ok n xs (Err e) h = ap is_some h.0
  placed_ok n xs (Ok i) h =
      let there = slice_get_cases xs i in
      let found = nth_place_of n xs in
      grind arith

  pub removed-place_of : (n : ℕ) (xs : List R) → remove xs (place_of key n xs) ≡ without key n xs
  removed-place_of n [] = refl
  removed-place_of n (x ∷ xs) =
      elim (eqb (key x) n) as (λ b. remove (x ∷ xs) (cond (not b) (1 + place_of key n xs) 0) ≡ cond b xs (x ∷ without key n xs))
      [ true ↦ refl | false ↦ ap (remove (x ∷ xs)) (one-add (place_of key n xs)) ∙ ap (λ (t : List R). x ∷ t) (removed-place_of n xs) ]

  pub set-place_of : (row : R) (xs : List R) → set xs (place_of key (key row) xs) row ≡ replaced key row xs
  set-place_of row [] = refl
  set-place_of row (x ∷ xs) = let ih = set-place_of row xs in grind (arith, nat_tests)

  pub inserted-place_for : (row : R) (xs : List R) → insert xs (place_for key (key row) xs) row ≡ added key row xs
  inserted-place_for row [] = refl
  inserted-place_for row (x ∷ xs) =
      elim (ltb (key row) (key x)) as (λ b. insert (x ∷ xs) (cond (not b) (1 + place_for key (key row) xs) 0) row ≡ cond b (row ∷ x ∷ xs) (x ∷ added key row xs))
      [ true ↦ refl | false ↦ ap (λ (i : ℕ). insert (x ∷ xs) i row) (one-add (place_for key (key row) xs)) ∙ ap (λ (t : List R). x ∷ t) (inserted-place_for row xs) ]
