-- A line is read field by field.
use Rattle.std.proofs.Common.{◌≡◌, ℕ, zero, suc, ◌+◌, ◌-◌, ◌<◌, ◌≤◌, Bool, true, false, ltb, List, [], ◌∷◌, length, get_or, drop, Some, None, Ok, Err, Option, sym, refl, ap, ◌∙◌, subst, ⊎_elim, arith}
use Rattle.std.proofs.lemmas.List.{length-drop, drop_more}
use Rattle.std.proofs.lemmas.Bool.{cases_eq, cond-false, eq-eqb, ne_eqb, le-ltb}
use Rattle.units.specs.declared.ranges.Letter.{Letter}
use Rattle.units.specs.declared.ranges.Letter.TheVariants.{Header}
use Rattle.units.specs.Ranges.{form, count, kind}
use Rattle.units.specs.declared.ranges.Kind.{Kind}
use Rattle.units.specs.declared.ranges.Kind.TheVariants.{Figure, Name, Pool, OtherPool}
use Rattle.rows.specs.declared.field.Field.{Field}
use Rattle.lines.specs.declared.fault.Fault.{Fault}
use Rattle.lines.specs.declared.fault.Refusal.{Refusal}
use Rattle.lines.specs.declared.fault.Refusal.TheVariants.{FieldCount}
use Rattle.lines.specs.Letters.{field, letter_of}
use Rattle.lines.specs.Answers.{at_field, or_else}
use Rattle.lines.specs.Lines.{made, faults, read_under, read_fields}
use Rattle.lines.specs.Questions.{asked, first_fault, Fits, Compared}

-- neither of two faults
pub or_none : (k : ℕ) (o : Option Refusal) (p : Option Fault) → or_else (at_field k o) p ≡ None → (o ≡ None) × (p ≡ None)
or_none k None p e = (refl, e)
or_none k (Some r) p e = cc

-- the first fault, where all fields before a place pass
module _ (l : Letter) (fs : List (List ℕ)) where
  first_from : (k n m : ℕ) → first_fault l fs k n ≡ None → first_fault l fs k (n + m) ≡ first_fault l fs (k + n) m
  first_from k zero m e =
      let a : 0 + m ≡ m = omega arith in
      let b : k ≡ k + 0 = omega arith in
      ap (first_fault l fs k) a ∙ ap (λ j. first_fault l fs j m) b
  first_from k (suc n) m e =
      let p = or_none k (asked l fs k) (first_fault l fs (k + 1) n) e in
      let a : suc n + m ≡ suc (n + m) = omega arith in
      let b : k + 1 + n ≡ k + suc n = omega arith in
      ap (first_fault l fs k) a
      ∙ ap (λ o. or_else (at_field k o) (first_fault l fs (k + 1) (n + m))) p.0
      ∙ first_from (k + 1) n m p.1
      ∙ ap (λ j. first_fault l fs j m) b

  -- the next field passes too
  pub clean_more : (n : ℕ) → first_fault l fs 2 n ≡ None → at_field (n + 2) (asked l fs (n + 2)) ≡ None → first_fault l fs 2 (n + 1) ≡ None
  clean_more n clean here =
      let j : 2 + n ≡ n + 2 = omega arith in
      first_from 2 n 1 clean ∙ ap (λ j. first_fault l fs j 1) j ∙ ap (λ o. or_else o None) here

  -- or fails
  pub faults_next : (n : ℕ) (f : Fault) → n + 2 ≤ count l → first_fault l fs 2 n ≡ None → at_field (n + 2) (asked l fs (n + 2)) ≡ Some f → faults l fs ≡ Some f
  faults_next n f few clean here =
      let m : count l - 1 ≡ n + suc (count l - (n + 2)) = omega arith in
      let j : 2 + n ≡ n + 2 = omega arith in
      ap (first_fault l fs 2) m
      ∙ first_from 2 n (suc (count l - (n + 2))) clean
      ∙ ap (λ j. first_fault l fs j (suc (count l - (n + 2)))) j
      ∙ ap (λ o. or_else o (first_fault l fs (n + 2 + 1) (count l - (n + 2)))) here

  -- the same, by the field's place
  pub clean_next : (k : ℕ) → 2 ≤ k → first_fault l fs 2 (k - 2) ≡ None → asked l fs k ≡ None → first_fault l fs 2 (k + 1 - 2) ≡ None
  clean_next k a clean here =
      let n : k + 1 - 2 ≡ k - 2 + 1 = omega arith in
      let j : k - 2 + 2 ≡ k = omega arith in
      ap (first_fault l fs 2) n
      ∙ clean_more (k - 2) clean (ap (λ k. at_field k (asked l fs k)) j ∙ ap (at_field k) here)

  pub faults_now : (k : ℕ) (e : Refusal) → 2 ≤ k → k ≤ count l → first_fault l fs 2 (k - 2) ≡ None → asked l fs k ≡ Some e → faults l fs ≡ Some (record { field = k; refusal = e })
  faults_now k e a b clean here =
      let j : k - 2 + 2 ≡ k = omega arith in
      faults_next (k - 2) (record { field = k; refusal = e }) (omega arith) clean (ap (λ k. at_field k (asked l fs k)) j ∙ ap (at_field k) here)

  pub some_fields : 3 ≤ count l
  some_fields = elim l as (λ l. 3 ≤ count l) [
    | Header ↦ omega arith
    | _ ↦ omega arith
  ]

  -- how the fields are read, once the letter is known
  module _ (known : letter_of (field fs 1) ≡ Some l) where
    pub miscounted : (length fs ≡ count l → ⊥) → Err (record { field = 0; refusal = FieldCount }) ≡ read_fields fs
    miscounted n = let t = ne_eqb (length fs) (count l) n in sym (ap (λ o. read_under o fs) known ∙ (rw t refl))

    pub refused_at : (f : Fault) → length fs ≡ count l → faults l fs ≡ Some f → Err f ≡ read_fields fs
    refused_at f n e = let t = eq-eqb (length fs) (count l) n in sym (ap (λ o. read_under o fs) known ∙ (rw (t, e) refl))

    pub read_through : length fs ≡ count l → faults l fs ≡ None → Ok (made l (drop 1 fs)) ≡ read_fields fs
    read_through n e = let t = eq-eqb (length fs) (count l) n in sym (ap (λ o. read_under o fs) known ∙ (rw (t, e) refl))

-- a line with no fault passes at every field
pub first_inv : (l : Letter) (fs : List (List ℕ)) (k n : ℕ) → first_fault l fs k n ≡ None → (j : ℕ) → k ≤ j → j < k + n → asked l fs j ≡ None
first_inv l fs k zero e j a b = absurd (omega arith)
first_inv l fs k (suc n) e j a b =
    let parts = or_none k (asked l fs k) (first_fault l fs (k + 1) n) e in
    ⊎_elim
    (λ (s : k ≡ j). subst (λ m. asked l fs m ≡ None) s parts.0)
    (λ (s : k ≡ j → ⊥). first_inv l fs (k + 1) n parts.1 j (omega arith) (omega arith))
    (cases_eq k j)

pub clean_from : (l : Letter) (fs : List (List ℕ)) → faults l fs ≡ None → (k : ℕ) → 2 ≤ k → k ≤ count l → asked l fs k ≡ None
clean_from l fs e k a b = let some = some_fields l fs in first_inv l fs 2 (count l - 1) e k a (omega arith)

-- a field's kind, by its place among those after the letter
pub kind_is : (l : Letter) (i k : ℕ) → k ≡ i + 2 → kind l k ≡ get_or (form l) i Name
kind_is l i k e =
    let j : k - 2 ≡ i = omega arith in
    cond-false (ltb k 2) Name (get_or (form l) (k - 2) Name) (le-ltb k 2 (omega arith)) ∙ ap (λ j. get_or (form l) j Name) j

-- a second pool stands after a first
abbrev paired : Kind → List Kind → Bool
paired p [] = true
paired p (Figure m low high ∷ κs) = paired (Figure m low high) κs
paired p (Name ∷ κs) = paired Name κs
paired p (Pool ∷ κs) = paired Pool κs
paired Pool (OtherPool ∷ κs) = paired OtherPool κs
paired _ (OtherPool ∷ κs) = false

paired_at : (p : Kind) (κs : List Kind) (i : ℕ) → paired p κs ≡ true → get_or κs i Name ≡ OtherPool → get_or (p ∷ κs) i Name ≡ Pool
paired_at p [] i e o = cc
paired_at p (Figure m low high ∷ κs) zero e o = cc
paired_at p (Name ∷ κs) zero e o = cc
paired_at p (Pool ∷ κs) zero e o = cc
paired_at Pool (OtherPool ∷ κs) zero e o = refl
paired_at _ (OtherPool ∷ κs) zero e o = cc
paired_at p (Figure m low high ∷ κs) (suc i) e o = paired_at (Figure m low high) κs i e o
paired_at p (Name ∷ κs) (suc i) e o = paired_at Name κs i e o
paired_at p (Pool ∷ κs) (suc i) e o = paired_at Pool κs i e o
paired_at Pool (OtherPool ∷ κs) (suc i) e o = paired_at OtherPool κs i e o
paired_at _ (OtherPool ∷ κs) (suc i) e o = cc

form_paired : (l : Letter) → paired Name (form l) ≡ true
form_paired Header = refl
form_paired _ = refl

pub other_is : (l : Letter) (i : ℕ) → kind l (i + 2) ≡ OtherPool → kind l (i + 1) ≡ Pool
other_is l zero e = let p = paired_at Name (form l) 0 (form_paired l) (sym (kind_is l 0 2 refl) ∙ e) in cc
other_is l (suc i) e =
    kind_is l i (suc i + 1) (omega arith) ∙ paired_at Name (form l) (suc i) (form_paired l) (sym (kind_is l (suc i) (suc i + 2) refl) ∙ e)

pub compared_from : (κ : Kind) (before : Field) → (κ ≡ OtherPool → Fits Pool before) → Compared κ before
compared_from (Figure m low high) before f = tt
compared_from Name before f = tt
compared_from Pool before f = tt
compared_from OtherPool before f = f refl

-- the next field of some that are left
module _ (fs : List (List ℕ)) (k : ℕ) (some : 2 ≤ k) (bytes : List ℕ) (rest : List (List ℕ)) (e : bytes ∷ rest ≡ drop (k - 1) fs) where
  pub next_within : k ≤ length fs
  next_within = let n = ap length e in omega (arith, length-drop (k - 1) fs)

  next_more : bytes ∷ rest ≡ get_or fs (k - 1) [] ∷ drop k fs
  next_more =
      let h = next_within in
      let j : k - 1 + 1 ≡ k = omega arith in
      e ∙ drop_more fs (k - 1) [] (omega arith) ∙ ap (λ j. get_or fs (k - 1) [] ∷ drop j fs) j

  pub next_is : bytes ≡ field fs k
  next_is = let m = next_more in cc

  pub next_rest : rest ≡ drop k fs
  next_rest = let m = next_more in cc
