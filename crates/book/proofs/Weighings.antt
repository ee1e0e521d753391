-- What customers weigh, place by place.
use Rattle.std.proofs.Common.{◌≡◌, ℕ, zero, suc, ◌+◌, ◌<◌, List, [], ◌∷◌, ◌++◌, map, length, get_or, take, drop, set, sum, sum_by, Bool, true, sym, refl, ap, ◌∙◌, subst, add-one, arith}
use Rattle.std.proofs.lemmas.List.{append_assoc, drop_more, set_at}
use Rattle.std.proofs.lemmas.List.Sums.{sum-map, sum_by-append}
use Rattle.std.specs.List.{AllZip}
use Rattle.divider.specs.Questions.{Passes}
use Rattle.records.specs.declared.customer.Customer.{Customer}
use Rattle.book.specs.Rates.{divisible}
use Rattle.book.specs.Weights.{Weighed}
use Rattle.book.proofs.Stagings.{passing}

module _ {A : Type 0} (R : A → ℕ → Type 0) where
  pub zip_length : (xs : List A) (ws : List ℕ) → AllZip R xs ws → length ws ≡ length xs
  zip_length [] [] z = refl
  zip_length [] (w ∷ ws) z = absurd z
  zip_length (x ∷ xs) [] z = absurd z
  zip_length (x ∷ xs) (w ∷ ws) z = ap suc (zip_length xs ws z.1)

  zip_next : (xs : List A) (ws : List ℕ) (i : ℕ) (d : A) (w : ℕ) → i < length xs → AllZip R (take i xs) ws → R (get_or xs i d) w → AllZip R (take (suc i) xs) (ws ++ w ∷ [])
  zip_next [] ws i d w h z r = absurd (omega arith)
  zip_next (x ∷ xs) [] zero d w h z r = (r, tt)
  zip_next (x ∷ xs) (v ∷ ws) zero d w h z r = absurd z
  zip_next (x ∷ xs) [] (suc i) d w h z r = absurd z
  zip_next (x ∷ xs) (v ∷ ws) (suc i) d w h z r = (z.0, zip_next xs ws i d w (omega arith) z.1 r)

  pub zip_more : (xs : List A) (ws : List ℕ) (i : ℕ) (d : A) (w : ℕ) → i < length xs → AllZip R (take i xs) ws → R (get_or xs i d) w → AllZip R (take (i + 1) xs) (ws ++ w ∷ [])
  zip_more xs ws i d w h z r = rw (add-one i) (zip_next xs ws i d w h z r)

  -- where each can only be f of its element, they are
  pub zip_is : (f : A → ℕ) → ((x : A) (w : ℕ) → R x w → w ≡ f x) → (xs : List A) (ws : List ℕ) → AllZip R xs ws → ws ≡ map f xs
  zip_is f are [] [] z = refl
  zip_is f are [] (w ∷ ws) z = absurd z
  zip_is f are (x ∷ xs) [] z = absurd z
  zip_is f are (x ∷ xs) (w ∷ ws) z = rw (are x w z.0, zip_is f are xs ws z.1) refl

-- with one more of them
pub sum_more : (ws : List ℕ) (w : ℕ) → sum (ws ++ w ∷ []) ≡ sum ws + w
sum_more ws w = omega (arith, sum_by-append (λ (x : ℕ). x) ws (w ∷ []))

-- a sheet with one number more in its first places
pub sheet_more : {A : Type 0} (ws old : List A) (i : ℕ) (d w : A) → length ws ≡ i → i < length old → set (ws ++ drop i old) i w ≡ (ws ++ w ∷ []) ++ drop (i + 1) old
sheet_more ws old i d w e h =
    ap (λ t. set (ws ++ t) i w) (drop_more old i d h) ∙ set_at ws (get_or old i d) (drop (i + 1) old) w i e ∙ sym (append_assoc ws (w ∷ []) (drop (i + 1) old))

-- where a customer can only weigh f of it
module _ (R : Customer → ℕ → Type 0) (f : Customer → ℕ) (are : (c : Customer) (w : ℕ) → R c w → w ≡ f c) where
  pub weighed_as : (cs : List Customer) (P : List ℕ → Type 0) → Weighed R cs P → P (map f cs)
  weighed_as cs P w = subst P (zip_is R f are cs w.0 w.1) w.2

  pub weighed_sum : (rs cs : List Customer) (all : ℕ) → rs ≡ cs → Weighed R rs (λ by. all ≡ sum by) → all ≡ sum_by f cs
  weighed_sum rs cs all e w = weighed_as rs (λ by. all ≡ sum by) w ∙ sum-map f rs ∙ ap (sum_by f) e

  pub weighed_passes : (t all : ℕ) (cs : List Customer) → all ≡ sum_by f cs → (all ≡ 0 → ⊥) → (r : Bool) → r ≡ divisible t all → r ≡ true → (by : List ℕ) → AllZip R cs by → Passes t by
  weighed_passes t all cs s some r d h by z = rw (zip_is R f are cs by z) (passing t all f cs s some r d h)
