-- The turns of the loop that writes the table.
use Rattle.std.proofs.Common.{◌≡◌, ℕ, ◌+◌, ◌<◌, ◌≤◌, List, [], ◌∷◌, ◌++◌, length, get_or, take, drop, refl, sum_by, sym, ap, ◌∙◌, arith}
use Rattle.std.specs.List.{range_with_len, flat_map}
use Rattle.std.proofs.lemmas.List.FromFn.{map-range_with_len_more}
use Rattle.std.proofs.lemmas.List.{map-id, flat_map_more, drop_more, length-drop}
use Rattle.std.proofs.lemmas.List.Sums.{sum_by_more, sum_by-take-le}
use Rattle.divider.specs.Questions.{limit}
use Rattle.divider.specs.Shares.{whole, rest}
use Rattle.divider.proofs.Parts.{parts_make, wholes_le, total_le}
use Rattle.sharing.specs.Table.{row, line, lines, Ready}

counting_more : (n : ℕ) → range_with_len 0 (n + 1) ≡ range_with_len 0 n ++ n ∷ []
counting_more n =
    sym (map-id (range_with_len 0 (n + 1))) ∙ map-range_with_len_more (λ (k : ℕ). k) 0 n n (omega arith) ∙ ap (λ x. x ++ (n ∷ [])) (map-id (range_with_len 0 n))

pub lines_more : (t : ℕ) (ws xs bs : List ℕ) (i : ℕ) → (bs ++ lines t ws xs i) ++ line t ws xs i ≡ bs ++ lines t ws xs (i + 1)
lines_more t ws xs bs i =
    flat_map_more (line t ws xs) bs (range_with_len 0 i) i ∙ ap (λ ks. bs ++ flat_map (line t ws xs) ks) (sym (counting_more i))

-- the next number of a list, and what is left after it
pub next_at : (xs left : List ℕ) (i x : ℕ) → drop i xs ≡ x ∷ left → (i < length xs) × (x ≡ get_or xs i 0) × (left ≡ drop (i + 1) xs)
next_at xs left i x e =
    let h : i < length xs = omega (arith, ap length e, length-drop i xs) in
    let d = drop_more xs i 0 h in
    (h, cc, cc)

module _ (t s : ℕ) (ws : List ℕ) (r : Ready t s ws) where
  pub divisor : 0 < s
  divisor = omega (arith, r.is_sum, r.passes.some)

  wholes_small : sum_by (whole t s) ws ≤ limit
  wholes_small =
      let w : sum_by (whole t s) ws ≤ t = rw r.is_sum (wholes_le t ws r.passes) in
      omega (arith, total_le t ws r.passes)

  rests_small : sum_by (rest t s) ws ≤ limit
  rests_small =
      let p = parts_make t s ws in
      omega (arith, r.passes.fits)

  -- a turn of the loop, whose weight is w
  module _ (i w : ℕ) (left : List ℕ) (e : drop i ws ≡ w ∷ left) where
    sum_more : (f : ℕ → ℕ) → sum_by f ws ≤ limit → (sum_by f (take i ws) + f w ≡ sum_by f (take (i + 1) ws)) × (sum_by f (take (i + 1) ws) ≤ limit)
    sum_more f small =
        let n = next_at ws left i w e in
        let l = sum_by-take-le f ws (i + 1) in
        (rw n.1 (sym (sum_by_more f ws i 0 n.0)), omega arith)

    pub wholes_more : (sum_by (whole t s) (take i ws) + whole t s w ≡ sum_by (whole t s) (take (i + 1) ws)) × (sum_by (whole t s) (take (i + 1) ws) ≤ limit)
    wholes_more = sum_more (whole t s) wholes_small

    pub rests_more : (sum_by (rest t s) (take i ws) + rest t s w ≡ sum_by (rest t s) (take (i + 1) ws)) × (sum_by (rest t s) (take (i + 1) ws) ≤ limit)
    rests_more = sum_more (rest t s) rests_small

    pub text_more : (xs later : List ℕ) (x : ℕ) → drop i xs ≡ x ∷ later → (bs old new : List ℕ) → old ≡ bs ++ lines t ws xs i → new ≡ old ++ row (i + 1) w (whole t s w) (rest t s w) x → new ≡ bs ++ lines t ws xs (i + 1)
    text_more xs later x f bs old new inv m =
        let n = next_at ws left i w e in
        let k = next_at xs later i x f in
        let l = lines_more t ws xs bs i in
        let d : row (i + 1) w (whole t s w) (rest t s w) x ≡ line t ws xs i = rw (n.1, k.1, r.is_sum) refl in
        cc
