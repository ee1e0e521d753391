-- The turns of the loop that reads the words as figures.
use Rattle.std.proofs.Common.{◌≡◌, ℕ, ◌+◌, ◌<◌, true, List, [], ◌∷◌, ◌++◌, map, length, get_or, take, is_ok, Ok, Err, decimal, sym, refl, ap, ◌∙◌, below_more, arith}
use Rattle.std.proofs.lemmas.List.{get_or-map, length-map, map_more, map_push}
use Rattle.figures.specs.Figure.{figure}
use Rattle.figures.specs.declared.refusal.Refusal.{Refusal}
use Rattle.sharing.specs.declared.fault.Fault.TheVariants.{Word}
use Rattle.sharing.specs.Request.{FigureFirst, Figures}

module _ {X : Type 0} (bytes : X → List ℕ) (words : List X) (i : ℕ) (h : i < length words) (word : X) (at : word ≡ get_or words i word) where
  word_at : get_or (map bytes words) i [] ≡ bytes word
  word_at = get_or-map bytes words i word [] h ∙ ap bytes (sym at)

  pub first_bad : (bs : List ℕ) (why : Refusal) → bs ≡ bytes word → Err why ≡ figure bs → ((k : ℕ) → k < i → is_ok (figure (get_or (map bytes words) k [])) ≡ true) → Figures (map bytes words) (Err (Word (i + 2) why))
  first_bad bs why e bad good =
      record { place = i; counted = refl; stands = rw (length-map words bytes) h; bad = ap figure (word_at ∙ sym e) ∙ sym bad; good = good }

  good_more : (bs : List ℕ) (n : ℕ) → bs ≡ bytes word → Ok n ≡ figure bs → ((k : ℕ) → k < i → is_ok (figure (get_or (map bytes words) k [])) ≡ true) → (k : ℕ) → k < i + 1 → is_ok (figure (get_or (map bytes words) k [])) ≡ true
  good_more bs n e read good =
      below_more (λ k. is_ok (figure (get_or (map bytes words) k [])) ≡ true) i good (ap (λ b. is_ok (figure b)) (word_at ∙ sym e) ∙ ap is_ok (sym read))

  pub first_good : (bs : List ℕ) (n : ℕ) → bs ≡ bytes word → Ok n ≡ figure bs → ((k : ℕ) → k < i → is_ok (figure (get_or (map bytes words) k [])) ≡ true) → FigureFirst (map bytes words)
  first_good bs n e read good = (omega (arith, h, length-map words bytes), good_more bs n e read good 0 (omega arith))

  pub words_more : (bs : List ℕ) (n : ℕ) (found more : List ℕ) → bs ≡ bytes word → Ok n ≡ figure bs → bs ≡ decimal n → more ≡ found ++ n ∷ [] → (map bytes (take i words) ≡ map decimal found) × ((k : ℕ) → k < i → is_ok (figure (get_or (map bytes words) k [])) ≡ true) → (map bytes (take (i + 1) words) ≡ map decimal more) × ((k : ℕ) → k < i + 1 → is_ok (figure (get_or (map bytes words) k [])) ≡ true)
  words_more bs n found more e read spelled p inv = (
    map_more bytes words i word h ∙ ap (λ xs. xs ++ (bytes (get_or words i word) ∷ [])) inv.0 ∙ ap (λ w. map decimal found ++ (w ∷ [])) (ap bytes (sym at) ∙ sym e ∙ spelled) ∙ sym (map_push decimal found n) ∙ ap (map decimal) (sym p),
    good_more bs n e read inv.1,
  )
