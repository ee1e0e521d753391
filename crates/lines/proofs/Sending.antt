-- A line is asked field by field, and written.
use Rattle.std.proofs.Common.{◌≡◌, ℕ, zero, suc, ◌+◌, ◌-◌, ◌<◌, ◌≤◌, true, false, cond, leb, List, [], ◌∷◌, ◌++◌, map, length, get_or, take, drop, Some, None, Err, Option, sym, refl, ap, ◌∙◌, subst, ⊎_elim, arith}
use Rattle.std.proofs.lemmas.List.{append-nil, get_or-map, get_or-take, length-take}
use Rattle.std.proofs.lemmas.Grind.{get_or_after_one}
use Rattle.std.specs.Option.{ok_or}
use Rattle.std.proofs.lemmas.Bool.{cases_Bool}
use Rattle.units.specs.declared.ranges.Letter.{Letter}
use Rattle.units.specs.Ranges.{count, kind}
use Rattle.units.specs.declared.ranges.Kind.TheVariants.{Pool, OtherPool}
use Rattle.rows.specs.Rows.{joined, spelled}
use Rattle.rows.specs.Rows as rows
use Rattle.rows.specs.declared.field.Field.{Field}
use Rattle.rows.proofs.Joining.{blank}
use Rattle.lines.specs.declared.fault.Fault.{Fault}
use Rattle.lines.specs.declared.fault.Refusal.TheVariants.{NoRoom}
use Rattle.lines.specs.Letters.{field}
use Rattle.lines.specs.Lines.{faults}
use Rattle.lines.specs.Questions.{asks, asked, Fits, Compared}
use Rattle.lines.specs.Writing.{ShapedFrom, Shaped, WritesFields}
use Rattle.lines.proofs.Walking.{other_is, compared_from}

-- the shape of each field
shaped_from_at : (l : Letter) (k : ℕ) (fs : List Field) (i : ℕ) → ShapedFrom l k fs → i < length fs → Fits (kind l (k + i)) (get_or fs i blank)
shaped_from_at l k [] i s h = absurd (omega arith)
shaped_from_at l k (f ∷ fs) zero s h = let e : k ≡ k + 0 = omega arith in subst (λ j. Fits (kind l j) f) e s.0
shaped_from_at l k (f ∷ fs) (suc i) s h =
    let e : k + 1 + i ≡ k + suc i = omega arith in
    subst (λ j. Fits (kind l j) (get_or fs i blank)) e (shaped_from_at l (k + 1) fs i s.1 (omega arith))

pub shaped_at : (l : Letter) (fs : List Field) (i : ℕ) → Shaped l fs → 1 ≤ i → i < length fs → Fits (kind l (i + 1)) (get_or fs i blank)
shaped_at l [] i s a b = absurd (omega arith)
shaped_at l (f ∷ fs) zero s a b = absurd (omega arith)
shaped_at l (f ∷ fs) (suc i) s a b =
    let e : 2 + i ≡ suc i + 1 = omega arith in
    subst (λ j. Fits (kind l j) (get_or fs i blank)) e (shaped_from_at l 2 fs i s (omega arith))

-- how many fields stand after the letter
pub items_counted : (fs : List Field) → length (take (length fs - 1) (drop 1 fs)) ≡ length fs - 1
items_counted [] = refl
items_counted (f ∷ fs) = let j : length (f ∷ fs) - 1 ≡ length fs = omega arith in omega (arith, length-take (length (f ∷ fs) - 1) fs)

-- the field before a second pool holds the first
before_is : (l : Letter) (fs : List Field) → Shaped l fs → (i : ℕ) → i < length fs → kind l (i + 2) ≡ OtherPool → Fits Pool (get_or fs i blank)
before_is l fs shaped zero h o = let p = other_is l 0 o in cc
before_is l fs shaped (suc i) h o =
    subst (λ κ. Fits κ (get_or fs (suc i) blank)) (other_is l (suc i) o) (shaped_at l fs (suc i) shaped (omega arith) h)

module _ (l : Letter) (fs : List Field) (shaped : Shaped l fs) (n : length fs ≡ count l) where
  -- the fields after the letter
  module _ (i : ℕ) (h : i < length (take (length fs - 1) (drop 1 fs))) where
    pub within : i + 1 < length fs
    within = omega (arith, length-take (length fs - 1) (drop 1 fs))

    pub shaped_before : Compared (kind l (i + 2)) (get_or fs i blank)
    shaped_before = compared_from (kind l (i + 2)) (get_or fs i blank) (λ o. before_is l fs shaped i (omega (arith, within)) o)

    item_is : get_or (take (length fs - 1) (drop 1 fs)) i blank ≡ get_or fs (i + 1) blank
    item_is =
        let w = within in
        let j : 1 + i ≡ i + 1 = omega arith in
        get_or-take (length fs - 1) (drop 1 fs) i blank (omega arith)
        ∙ get_or_after_one fs i blank
        ∙ ap (λ j. get_or fs j blank) j

    pub shaped_item : Fits (kind l (i + 2)) (get_or (take (length fs - 1) (drop 1 fs)) i blank)
    shaped_item =
        let j : i + 1 + 1 ≡ i + 2 = omega arith in
        subst (Fits (kind l (i + 2))) (sym item_is) (subst (λ k. Fits (kind l k) (get_or fs (i + 1) blank)) j (shaped_at l fs (i + 1) shaped (omega arith) within))

    -- what is asked of a field is asked of the line
    pub asked_item : asks (kind l (i + 2)) (spelled (get_or (take (length fs - 1) (drop 1 fs)) i blank)) (spelled (get_or fs i blank)) ≡ asked l (map spelled fs) (i + 2)
    asked_item =
        let w = within in
        let j : i + 1 ≡ i + 2 - 1 = omega arith in
        let b : i ≡ i + 2 - 1 - 1 = omega arith in
        ap (λ f. asks (kind l (i + 2)) f (spelled (get_or fs i blank))) (ap spelled item_is ∙ sym (get_or-map spelled fs (i + 1) blank [] within) ∙ ap (λ j. get_or (map spelled fs) j []) j)
        ∙ ap (asks (kind l (i + 2)) (field (map spelled fs) (i + 2))) (sym (get_or-map spelled fs i blank [] (omega arith)) ∙ ap (λ j. get_or (map spelled fs) j []) b)

  -- a field fails
  pub unsent_at : (buffer : List ℕ) (f : Fault) → faults l (map spelled fs) ≡ Some f → WritesFields l (map spelled fs) buffer (Err f) buffer
  unsent_at buffer f e = record { answer = rw e refl; after = refl }

-- all fields pass, and are written if there is room
pub sent : (l : Letter) (fs : List (List ℕ)) (buffer buffer' : List ℕ) (o : Option ℕ) → faults l fs ≡ None → rows.Writes (joined fs ++ []) buffer o buffer' → WritesFields l fs buffer (ok_or o (record { field = 0; refusal = NoRoom })) buffer'
sent l fs buffer buffer' o none w =
    let answer = subst (λ t. o ≡ cond (leb (length t) (length buffer)) (Some (length t)) None) (append-nil (joined fs)) w.answer in
    let after = subst (λ t. buffer' ≡ cond (leb (length t) (length buffer)) (t ++ drop (length t) buffer) buffer) (append-nil (joined fs)) w.after in
    ⊎_elim
    (λ (t : leb (length (joined fs)) (length buffer) ≡ true).
    let a = rw t at answer in
    let b = rw t at after in
    record { answer = rw (a, none, t) refl; after = rw a b })
    (λ (t : leb (length (joined fs)) (length buffer) ≡ false).
    let a = rw t at answer in
    let b = rw t at after in
    record { answer = rw (a, none, t) refl; after = rw a b })
    (cases_Bool (leb (length (joined fs)) (length buffer)))
