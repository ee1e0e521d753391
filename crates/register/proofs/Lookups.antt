-- What is looked up, and how many records there are, after a change.
use Rattle.std.proofs.Common.{◌≡◌, ℕ, zero, suc, ◌+◌, ◌<◌, ◌≤◌, cond, List, [], ◌∷◌, map, length, get_or, set, is_some, Some, None, refl, ap, arith}
use Rattle.std.proofs.lemmas.List.{length-set}
use Rattle.std.proofs.lemmas.Bool.{cond_both}
use Rattle.std.proofs.lemmas.Bool.Decides.{nat_tests}
use Rattle.register.specs.Records.{lookup, added, without, replaced, lookup_at, replaced_at}

module _ {R : Type 0} (key : R → ℕ) where
  -- a record that is found has the number sought
  pub lookup_key : (n : ℕ) (x : R) (xs : List R) → lookup key n xs ≡ Some x → key x ≡ n
  lookup_key n x [] h = grind arith
  lookup_key n x (y ∷ ys) h = let ih = lookup_key n x ys in grind (arith, nat_tests)

  pub without-missing : (n : ℕ) (xs : List R) → lookup key n xs ≡ None → without key n xs ≡ xs
  without-missing n [] h = refl
  without-missing n (x ∷ xs) h = let ih = without-missing n xs in grind (arith, nat_tests)

  pub replaced-missing : (row : R) (xs : List R) → lookup key (key row) xs ≡ None → replaced key row xs ≡ xs
  replaced-missing row [] h = refl
  replaced-missing row (x ∷ xs) h = let ih = replaced-missing row xs in grind (arith, nat_tests)

  pub lookup-added_same : (row : R) (xs : List R) → lookup key (key row) xs ≡ None → lookup key (key row) (added key row xs) ≡ Some row
  lookup-added_same row [] h = grind (arith, nat_tests)
  lookup-added_same row (x ∷ xs) h = let ih = lookup-added_same row xs in grind (arith, nat_tests)

  pub lookup-added_other : (row : R) (n : ℕ) (xs : List R) → (key row ≡ n → ⊥) → lookup key n (added key row xs) ≡ lookup key n xs
  lookup-added_other row n [] ne = grind (arith, nat_tests)
  lookup-added_other row n (x ∷ xs) ne = let ih = lookup-added_other row n xs ne in grind (arith, nat_tests)

  pub lookup-without_other : (n m : ℕ) (xs : List R) → (n ≡ m → ⊥) → lookup key m (without key n xs) ≡ lookup key m xs
  lookup-without_other n m [] ne = refl
  lookup-without_other n m (x ∷ xs) ne = let ih = lookup-without_other n m xs ne in grind (arith, nat_tests)

  pub lookup-replaced_same : (row x : R) (xs : List R) → lookup key (key row) xs ≡ Some x → lookup key (key row) (replaced key row xs) ≡ Some row
  lookup-replaced_same row x [] h = grind arith
  lookup-replaced_same row x (y ∷ ys) h = let ih = lookup-replaced_same row x ys in grind (arith, nat_tests)

  pub lookup-replaced_other : (row : R) (n : ℕ) (xs : List R) → (key row ≡ n → ⊥) → lookup key n (replaced key row xs) ≡ lookup key n xs
  lookup-replaced_other row n [] ne = refl
  lookup-replaced_other row n (x ∷ xs) ne = let ih = lookup-replaced_other row n xs ne in grind (arith, nat_tests)

  pub length-added : (row : R) (xs : List R) → length (added key row xs) ≡ length xs + 1
  length-added row [] = refl
  length-added row (x ∷ xs) = let ih = length-added row xs in grind (arith, nat_tests)

  pub length_without : (n : ℕ) (x : R) (xs : List R) → lookup key n xs ≡ Some x → length (without key n xs) + 1 ≡ length xs
  length_without n x [] h = grind arith
  length_without n x (y ∷ ys) h = let ih = length_without n x ys in grind (arith, nat_tests)

  pub length-replaced : (row : R) (xs : List R) → length (replaced key row xs) ≡ length xs
  length-replaced row [] = refl
  length-replaced row (x ∷ xs) = let ih = length-replaced row xs in grind (arith, nat_tests)

  -- a record replaced leaves the list of numbers as it was
  pub numbers_replaced : (row : R) (xs : List R) → map key (replaced key row xs) ≡ map key xs
  numbers_replaced row [] = refl
  numbers_replaced row (x ∷ xs) = let ih = numbers_replaced row xs in grind (arith, nat_tests)

  -- what is looked up at a place stands there, and has the number sought
  pub lookup_at_stands : (i n : ℕ) (x : R) (xs : List R) → lookup_at key i n xs ≡ Some x → (i < length xs) × (x ≡ get_or xs i x) × (key x ≡ n)
  lookup_at_stands i n x [] h = grind arith
  lookup_at_stands zero n x (y ∷ ys) h = (omega arith, grind (arith, nat_tests), grind (arith, nat_tests))
  lookup_at_stands (suc i) n x (y ∷ ys) h = let ih = lookup_at_stands i n x ys h in (omega arith, ih.1, ih.2)

  pub lookup_at_read : (i n : ℕ) (x : R) (xs : List R) → i < length xs → x ≡ get_or xs i x → key x ≡ n → lookup_at key i n xs ≡ Some x
  lookup_at_read i n x [] lt is e = grind arith
  lookup_at_read zero n x (y ∷ ys) lt is e = grind (arith, nat_tests)
  lookup_at_read (suc i) n x (y ∷ ys) lt is e = lookup_at_read i n x ys (omega arith) is e

  -- none is found at a place past the records, or where another number stands
  pub lookup_at_past : (i n : ℕ) (xs : List R) → length xs ≤ i → lookup_at key i n xs ≡ None
  lookup_at_past i n [] le = refl
  lookup_at_past zero n (x ∷ xs) le = grind arith
  lookup_at_past (suc i) n (x ∷ xs) le = lookup_at_past i n xs (omega arith)

  pub lookup_at_other : (i n : ℕ) (x : R) (xs : List R) → x ≡ get_or xs i x → (key x ≡ n → ⊥) → lookup_at key i n xs ≡ None
  lookup_at_other i n x [] is ne = refl
  lookup_at_other zero n x (y ∷ ys) is ne = grind (arith, nat_tests)
  lookup_at_other (suc i) n x (y ∷ ys) is ne = lookup_at_other i n x ys is ne

  pub replaced_at-set : (i : ℕ) (row x : R) (xs : List R) → i < length xs → x ≡ get_or xs i x → key x ≡ key row → replaced_at key i row xs ≡ set xs i row
  replaced_at-set i row x xs lt is e = ap (λ o. cond (is_some o) (set xs i row) xs) (lookup_at_read i (key row) x xs lt is e)

  pub replaced_at-missing : (i : ℕ) (row : R) (xs : List R) → lookup_at key i (key row) xs ≡ None → replaced_at key i row xs ≡ xs
  replaced_at-missing i row xs at = ap (λ o. cond (is_some o) (set xs i row) xs) at

  pub length-replaced_at : (i : ℕ) (row : R) (xs : List R) → length (replaced_at key i row xs) ≡ length xs
  length-replaced_at i row xs =
      cond_both (is_some (lookup_at key i (key row) xs)) (set xs i row) xs (λ (t : List R). length t ≡ length xs) (λ _. length-set xs i row) (λ _. refl)

  pub numbers_replaced_at : (i : ℕ) (row : R) (xs : List R) → map key (replaced_at key i row xs) ≡ map key xs
  numbers_replaced_at i row [] = refl
  numbers_replaced_at zero row (x ∷ xs) = grind (arith, nat_tests)
  numbers_replaced_at (suc i) row (x ∷ xs) = let ih = numbers_replaced_at i row xs in grind (arith, nat_tests)
