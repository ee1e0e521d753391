-- Fields joined one by one.
use Rattle.std.proofs.Common.{◌≡◌, ℕ, ◌+◌, ◌<◌, ◌≤◌, List, [], ◌∷◌, ◌++◌, map, length, get_or, drop, sym, refl, ap, ◌∙◌, arith}
use Rattle.std.proofs.lemmas.List.{append_assoc, length-append, drop_more, drop_all}
use Rattle.std.proofs.lemmas.Bool.{lt-ltb}
use Rattle.rows.specs.declared.field.Field.{Field}
use Rattle.rows.specs.declared.field.Field.TheVariants.{Text}
use Rattle.rows.specs.Rows.{comma, trailing, spelled, row}

-- what stands at a place that no field has
abbrev pub blank : Field
blank = Text (record { ref_ptr = (0, 0); now = [] })

-- the fields from a place on, each behind its comma, and what ends the row
abbrev pub rest : ℕ → List Field → List ℕ → List ℕ
rest i [] end = end
rest i (f ∷ fs) end = comma i ++ (spelled f ++ rest (i + 1) fs end)

trailing_is : (i : ℕ) (fs : List Field) (end : List ℕ) → trailing (map spelled fs) ++ end ≡ rest (i + 1) fs end
trailing_is i [] end = refl
trailing_is i (f ∷ fs) end =
    let t = lt-ltb 0 (i + 1) (omega arith) in
    rw t (ap (λ bs. 44 ∷ bs) (append_assoc (spelled f) (trailing (map spelled fs)) end ∙ ap (λ bs. spelled f ++ bs) (trailing_is (i + 1) fs end)))

pub row_is : (fs : List Field) (end : List ℕ) → row fs end ≡ rest 0 fs end
row_is [] end = refl
row_is (f ∷ fs) end = append_assoc (spelled f) (trailing (map spelled fs)) end ∙ ap (λ bs. spelled f ++ bs) (trailing_is 0 fs end)

module _ (fields : List Field) (end : List ℕ) (i : ℕ) where
  rest_more : i < length fields → rest i (drop i fields) end ≡ comma i ++ (spelled (get_or fields i blank) ++ rest (i + 1) (drop (i + 1) fields) end)
  rest_more h = ap (λ fs. rest i fs end) (drop_more fields i blank h)

  pub rest_all : length fields ≤ i → rest i (drop i fields) end ≡ end
  rest_all h = ap (λ fs. rest i fs end) (drop_all i fields h)

  pub rest_width : i < length fields → length (rest i (drop i fields) end) ≡ length (comma i) + (length (spelled (get_or fields i blank)) + length (rest (i + 1) (drop (i + 1) fields) end))
  rest_width h = ap length (rest_more h) ∙ length-append (comma i) _ ∙ ap (λ n. length (comma i) + n) (length-append (spelled (get_or fields i blank)) _)

  -- the field at the place, behind what is written and its comma
  module _ (done c : List ℕ) (h : i < length fields) (all : done ++ rest i (drop i fields) end ≡ row fields end) (e : c ≡ comma i) where
    pub rest_holds : length done + (length c + length (spelled (get_or fields i blank))) ≤ length (row fields end)
    rest_holds =
        let w = rest_width h in
        let l = sym (length-append done (rest i (drop i fields) end)) ∙ ap length all in
        let m = ap length e in
        omega arith

    pub rest_next : ((done ++ c) ++ spelled (get_or fields i blank)) ++ rest (i + 1) (drop (i + 1) fields) end ≡ row fields end
    rest_next =
        let f = spelled (get_or fields i blank) ++ rest (i + 1) (drop (i + 1) fields) end in
        append_assoc (done ++ c) (spelled (get_or fields i blank)) _
        ∙ append_assoc done c f
        ∙ ap (λ bs. done ++ bs) (ap (λ bs. bs ++ f) e ∙ sym (rest_more h))
        ∙ all
