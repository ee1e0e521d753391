-- Shifts of whole slices, as records laid into the first places of the memory.
use Rattle.std.proofs.Common.{◌≡◌, ℕ, suc, ◌+◌, ◌-◌, ◌<◌, ◌≤◌, List, [], ◌∷◌, ◌++◌, length, get_or, take, drop, set, sym, ap, ◌∙◌, add-one, arith}
use lib.Seq.{paste}
use Rattle.std.specs.List.{insert, remove}
use Rattle.std.proofs.lemmas.List.Edits.{length-insert, length-remove}
use Rattle.std.proofs.lemmas.List.{append_assoc, length-take-le, take-append-drop, take_more, take-take, set_at, set-append_left, length-set}
use Rattle.std.proofs.lemmas.Slice.{between_is}
use Rattle.register.specs.Register.{laid}

module _ {R : Type 0} where
  -- one place on from `at`, and the record in the gap
  pub insert_laid : (xs : List R) (n at : ℕ) (row : R) → n < length xs → at ≤ n → set (paste xs (at + 1) (drop at xs) (n - at)) at row ≡ laid (insert (take n xs) at row) xs
  insert_laid xs n at row lt le =
      let y : R = get_or xs at row in
      let k : ℕ = n - at in
      let moved : List R = take k (drop at xs) in
      let past : List R = drop (at + 1 + k) xs in
      let at_lt : at < length xs = omega arith in
      let at_le : at ≤ length xs = omega arith in
      let n_le : n ≤ length xs = omega arith in
      let split : paste xs (at + 1) (drop at xs) k ≡ take at xs ++ y ∷ (moved ++ past) =
      ap (λ (t : List R). t ++ moved ++ past) (take_more xs at row at_lt) ∙ append_assoc (take at xs ++ y ∷ []) moved past ∙ append_assoc (take at xs) (y ∷ []) (moved ++ past) in
      let written : set (paste xs (at + 1) (drop at xs) k) at row ≡ take at xs ++ row ∷ (moved ++ past) =
      ap (λ (t : List R). set t at row) split ∙ set_at (take at xs) y (moved ++ past) row at (length-take-le at xs at_le) in
      let front : insert (take n xs) at row ≡ take at xs ++ row ∷ moved =
      ap (λ (t : List R). t ++ row ∷ drop at (take n xs)) (take-take at n xs le) ∙ ap (λ (t : List R). take at xs ++ row ∷ t) (sym (between_is xs at n)) in
      let n_is : length (take n xs) ≡ n = length-take-le n xs n_le in
      let fits : at ≤ length (take n xs) = omega arith in
      let long : length (insert (take n xs) at row) ≡ at + 1 + k = omega (arith, length-insert (take n xs) at row fits) in
      let cut : laid (insert (take n xs) at row) xs ≡ (take at xs ++ row ∷ moved) ++ past =
      ap (λ (t : List R). t ++ drop (length (insert (take n xs) at row)) xs) front ∙ ap (λ (m : ℕ). (take at xs ++ row ∷ moved) ++ drop m xs) long in
      written ∙ sym (append_assoc (take at xs) (row ∷ moved) past) ∙ sym cut

  -- one place back to `at`
  pub remove_laid : (xs : List R) (n at : ℕ) → n ≤ length xs → at < n → paste xs at (drop (at + 1) xs) (n - (at + 1)) ≡ laid (remove (take n xs) at) xs
  remove_laid xs n at le lt =
      let k : ℕ = n - (at + 1) in
      let at_le : at ≤ n = omega arith in
      let back : drop (at + 1) (take n xs) ≡ take k (drop (at + 1) xs) = sym (between_is xs (at + 1) n) in
      let front : remove (take n xs) at ≡ take at xs ++ take k (drop (at + 1) xs) =
      ap (λ (t : List R). t ++ drop (suc at) (take n xs)) (take-take at n xs at_le) ∙ ap (λ (m : ℕ). take at xs ++ drop m (take n xs)) (sym (add-one at)) ∙ ap (λ (t : List R). take at xs ++ t) back in
      let n_is : length (take n xs) ≡ n = length-take-le n xs le in
      let fits : at < length (take n xs) = omega arith in
      let long : at + k ≡ length (remove (take n xs) at) = omega (arith, length-remove (take n xs) at fits) in
      ap (λ (m : ℕ). take at xs ++ take k (drop (at + 1) xs) ++ drop m xs) long ∙ ap (λ (t : List R). t ++ drop (length (remove (take n xs) at)) xs) (sym front)

  pub put_laid : (xs : List R) (n at : ℕ) (row : R) → n ≤ length xs → at < n → set xs at row ≡ laid (set (take n xs) at row) xs
  put_laid xs n at row le lt =
      let n_is : length (take n xs) ≡ n = length-take-le n xs le in
      let fits : at < length (take n xs) = omega arith in
      let long : length (set (take n xs) at row) ≡ n = length-set (take n xs) at row ∙ n_is in
      ap (λ (t : List R). set t at row) (sym (take-append-drop n xs)) ∙ set-append_left (take n xs) (drop n xs) at row fits ∙ ap (λ (m : ℕ). set (take n xs) at row ++ drop m xs) (sym long)
