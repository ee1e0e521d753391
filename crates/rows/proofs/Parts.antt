-- Bytes parted from left to right.
use Rattle.std.proofs.Common.{◌≡◌, ℕ, ◌+◌, ◌<◌, ◌≤◌, true, false, ◌==◌, List, [], ◌∷◌, ◌++◌, length, take, drop, is_some, Some, None, Option, sym, refl, ap, ◌∙◌, arith, Bor}
use Rattle.std.specs.List.{AllByRecursion, All, count_by, join_with_byte, onto_first, position, position_or_len, slice_split}
use Rattle.std.proofs.lemmas.Bool.{ne_eqb}
use Rattle.std.proofs.lemmas.List.{append-nil}
use Rattle.std.proofs.lemmas.List.Elements.{All-from_recursion, All-weaker}
use Rattle.std.proofs.lemmas.List.Quantifiers.{position-Some}
use Rattle.std.proofs.lemmas.List.Splits.{slice_split_none, slice_split_at, slice_split_first, length-slice_split, join_with_byte-slice_split}
use Rattle.std.proofs.lemmas.List.Sums.{position_or_len_is, fails_before_first}
use Rattle.std.proofs.lemmas.Bool.Decides.{nat_tests}
use Rattle.rows.specs.Rows.{before, parted, parts_after, joined}

before_is : (b : ℕ) (ps : List (List ℕ)) → before (b ∷ []) ps ≡ onto_first b ps
before_is b [] = refl
before_is b (p ∷ ps) = refl

module _ (s : ℕ) where
  parted_is : (bs : List ℕ) → parted s bs ≡ slice_split (λ b. b == s) bs
  parted_is [] = refl
  parted_is (b ∷ bs) = rw (parted_is bs, before_is b (slice_split (λ c. c == s) bs)) refl

  pub length_parted : (bs : List ℕ) → length (parted s bs) ≡ count_by (λ b. b == s) bs + 1
  length_parted bs = ap length (parted_is bs) ∙ length-slice_split (λ b. b == s) bs

  pub split_at : (bs : List ℕ) (i : ℕ) → position (λ b. b == s) bs ≡ Some i → take i bs ∷ parted s (drop (i + 1) bs) ≡ parted s bs
  split_at bs i h =
      let p = λ (b : ℕ). b == s in
      let f = position-Some p bs i 0 h in
      let e = position_or_len_is p bs i 0 (omega arith) f.2 (λ _. f.1) in
      sym (parted_is bs ∙ slice_split_first p bs 0 (omega arith) ∙ rw (e, parted_is) refl)

  pub split_none : (bs : List ℕ) → position (λ b. b == s) bs ≡ None → bs ∷ [] ≡ parted s bs
  split_none bs h =
      let p = λ (b : ℕ). b == s in
      let l : length bs ≤ position_or_len p bs = grind (arith, nat_tests) in
      sym (parted_is bs ∙ slice_split_none p bs (λ k d w. fails_before_first p bs k d (omega arith)))

  plain : (f : List ℕ) → AllByRecursion (λ b. b ≡ s → ⊥) f → All (λ b. (b == s) ≡ false) f
  plain f h = All-weaker _ _ (λ b n. ne_eqb b s n) f (All-from_recursion _ f h)

-- fields joined by commas and parted at them
pub parted_joined : (f : List ℕ) (fs : List (List ℕ)) → AllByRecursion (AllByRecursion (λ b. b ≡ 44 → ⊥)) (f ∷ fs) → parted 44 (joined (f ∷ fs)) ≡ f ∷ fs
parted_joined f [] h = ap (parted 44) (append-nil f) ∙ parted_is 44 f ∙ slice_split_none _ f (plain 44 f h.0)
parted_joined f (g ∷ fs) h =
    parted_is 44 (f ++ (44 ∷ joined (g ∷ fs)))
    ∙ slice_split_at _ f 44 (joined (g ∷ fs)) (plain 44 f h.0) refl
    ∙ ap (λ ps. f ∷ ps) (sym (parted_is 44 (joined (g ∷ fs))) ∙ parted_joined g fs h.1)

joined_is : (f : List ℕ) (fs : List (List ℕ)) → joined (f ∷ fs) ≡ join_with_byte 44 (f ∷ fs)
joined_is f [] = append-nil f
joined_is f (g ∷ fs) = ap (λ bs. f ++ (44 ∷ bs)) (joined_is g fs)

all_joined : (fs : List (List ℕ)) → joined fs ≡ join_with_byte 44 fs
all_joined [] = refl
all_joined (f ∷ fs) = joined_is f fs

pub joined_parted : (bs : List ℕ) → joined (parted 44 bs) ≡ bs
joined_parted bs = ap joined (parted_is 44 bs) ∙ all_joined (slice_split (λ b. b == 44) bs) ∙ join_with_byte-slice_split 44 bs

-- what stands after a separator has parts
pub some_parts : (s : ℕ) (rest : Option (Bor (List ℕ))) → is_some rest ≡ true → 0 < length (parts_after s rest)
some_parts s None e = let z : ◌≡◌ {A = ℕ} 0 1 = cc in absurd (omega arith)
some_parts s (Some bytes) e = omega (arith, length_parted s bytes.now)

pub none_after : (s : ℕ) (rest : Option (Bor (List ℕ))) → is_some rest ≡ false → parts_after s rest ≡ []
none_after s None e = refl
none_after s (Some bytes) e = cc
