-- The shares by largest remainder: by a mark, and fair.
use Rattle.std.specs.Prelude.{◌≡◌, ℕ, zero, suc, ◌+◌, ◌-◌, ◌*◌, ◌<◌, ◌≤◌, min, cond, ◌&&◌, ltb, ◌⊎◌, List, [], ◌∷◌, length, take, sum_by, sum, count_by, ◌==◌, nat_eq, nat_le, nat_lt, slice_index, slice_index_or, refl}
use Rattle.std.proofs.Common.{sym, ap, ◌∙◌, inl, inr, ⊎_elim, add-mul, mod-lt, le_of_mul-le-mul_right, arith}
use Rattle.std.proofs.lemmas.List.Sums.{sum_by-cons, sum_by-take-le, count_by_more_yes}
use Rattle.std.proofs.lemmas.List.FromFn.{fill_by_all, length-map-range_with_len, get_or-map-range_with_len}
use Rattle.std.proofs.lemmas.Bool.{cases_order, cases_lt, lt-leb, eq-eqb}
use Rattle.std.proofs.lemmas.Bool.Decides.{nat_tests}
use Rattle.divider.specs.Questions.{Passes}
use Rattle.divider.specs.Shares.{whole, rest, Near, Fair}
use Rattle.divider.proofs.Parts.{parts_make, wholes_le}
use Rattle.largest.specs.Largest.{left_over, above, level, ahead, share, by_remainders}
use Rattle.largest.specs.Counts.{count_le, count_none, count_split, sum_le_count}

-- how many remainders are at least a
abbrev pub from : ℕ → ℕ → ℕ → List ℕ → ℕ
from t s a ws = count_by (λ w. nat_le a (rest t s w)) ws

-- one more for a remainder above a, or that is a while n units are spare
abbrev pub one_more : ℕ → ℕ → ℕ → ℕ
one_more a n r = cond (nat_lt a r) 1 (cond (r == a && nat_lt 0 n) 1 0)

-- one unit more for each remainder above a, and for the first n that are a
abbrev pub given : ℕ → ℕ → ℕ → ℕ → List ℕ → List ℕ
given t s a n [] = []
given t s a n (w ∷ ws) = (whole t s w + one_more a n (rest t s w)) ∷ given t s a (n - cond (rest t s w == a) 1 0) ws

-- the units that are left reach down to the mark a, and no further
pub record Mark (t s : ℕ) (ws : List ℕ) (left a : ℕ) : Type 0 where
  pub low : left ≤ from t s a ws
  pub high : above t s a ws ≤ left

module _ (t : ℕ) (ws : List ℕ) (p : Passes t ws) where
  -- there are enough remainders for what is left over
  pub enough : left_over t (sum ws) ws ≤ from t (sum ws) 1 ws
  enough =
      let e = parts_make t (sum ws) ws in
      let c = sum_le_count (rest t (sum ws)) (sum ws) (λ w. let b = mod-lt (t * w) p.some in omega arith) ws in
      let m = add-mul (sum_by (whole t (sum ws)) ws) (left_over t (sum ws) ws) (sum ws) in
      let b = wholes_le t ws p in
      let a : sum_by (whole t (sum ws)) ws + left_over t (sum ws) ws ≡ t = omega arith in
      let d = ap (λ n. n * sum ws) a in
      let l : left_over t (sum ws) ws * sum ws ≤ from t (sum ws) 1 ws * sum ws = omega arith in
      le_of_mul-le-mul_right l p.some

pub given_length : (t s a n : ℕ) (ws : List ℕ) → length (given t s a n ws) ≡ length ws
given_length t s a n [] = refl
given_length t s a n (w ∷ ws) = ap suc (given_length t s a (n - cond (rest t s w == a) 1 0) ws)

pub given_sum : (t s a n : ℕ) (ws : List ℕ) → sum (given t s a n ws) ≡ sum_by (whole t s) ws + above t s a ws + min n (level t s a ws)
given_sum t s a n [] = omega arith
given_sum t s a n (w ∷ ws) =
    let x = whole t s w + one_more a n (rest t s w) in
    let n' = n - cond (rest t s w == a) 1 0 in
    let g = sum_by-cons (λ y. y) x (given t s a n' ws) in
    let q = sum_by-cons (whole t s) w ws in
    let u = sum_by-cons (λ w. cond (nat_lt a (rest t s w)) 1 0) w ws in
    let v = sum_by-cons (λ w. cond (rest t s w == a) 1 0) w ws in
    let i = given_sum t s a n' ws in
    rw (g, q, u, v, i) (one (whole t s w) (rest t s w) (sum_by (whole t s) ws) (above t s a ws) (level t s a ws))
  where
    one : (q r Q G E : ℕ) → q + cond (nat_lt a r) 1 (cond (r == a && nat_lt 0 n) 1 0) + (Q + G + min (n - cond (r == a) 1 0) E) ≡ q + Q + (cond (nat_lt a r) 1 0 + G) + min n (cond (r == a) 1 0 + E)
    one q r Q G E = grind (arith, nat_tests)

-- what stands at a place
pub given_at : (t s a n : ℕ) (ws : List ℕ) (k : ℕ) → k < length ws → slice_index (given t s a n ws) k ≡ whole t s (slice_index ws k) + cond (nat_lt a (rest t s (slice_index ws k))) 1 (cond (rest t s (slice_index ws k) == a && nat_lt (level t s a (take k ws)) n) 1 0)
given_at t s a n [] k h = absurd (omega arith)
given_at t s a n (w ∷ ws) zero h = refl
given_at t s a n (w ∷ ws) (suc k) h =
    let v = sum_by-cons (λ w. cond (rest t s w == a) 1 0) w (take k ws) in
    let i = given_at t s a (n - cond (rest t s w == a) 1 0) ws k (omega arith) in
    let e : ltb (level t s a (take k ws)) (n - cond (rest t s w == a) 1 0) ≡ ltb (level t s a (w ∷ take k ws)) n = rw v (shift (level t s a (take k ws)) n (cond (rest t s w == a) 1 0)) in
    i ∙ ap (λ b. whole t s (slice_index ws k) + cond (nat_lt a (rest t s (slice_index ws k))) 1 (cond (rest t s (slice_index ws k) == a && b) 1 0)) e
  where
    shift : (l n c : ℕ) → nat_lt l (n - c) ≡ nat_lt (c + l) n
    shift l n c = grind (arith, nat_tests)

-- one more by the threshold, where v of the same remainder came before and n are to be served
abbrev by_threshold : ℕ → ℕ → ℕ → ℕ → ℕ
by_threshold a r v n = cond (nat_lt a r) 1 (cond (r == a && nat_lt v n) 1 0)

abbrev one_below : ℕ → ℕ → ℕ
one_below n left = cond (nat_lt n left) 1 0

is_below : (left a g r n v : ℕ) → r < a → left ≤ n → by_threshold a r v (left - g) ≡ one_below n left
is_below left a g r n v e f = grind (arith, nat_tests)

is_over : (left a g r n v : ℕ) → a < r → n < left → by_threshold a r v (left - g) ≡ one_below n left
is_over left a g r n v e f = grind (arith, nat_tests)

is_flat : (left a g v : ℕ) → by_threshold a a v (left - g) ≡ one_below (g + v) left
is_flat left a g v = grind (arith, nat_tests)

module _ (t s : ℕ) (ws : List ℕ) (left a : ℕ) (h : Mark t s ws left a) where
  -- who gets one more by the threshold is who has fewer than `left` ahead
  pub same_chosen : (k : ℕ) → k < length ws → by_threshold a (rest t s (slice_index ws k)) (level t s a (take k ws)) (left - above t s a ws) ≡ one_below (ahead t s ws k) left
  same_chosen k l =
      ⊎_elim
      (λ (e : rest t s (slice_index ws k) ≡ a). equal (rest t s (slice_index ws k)) e)
      (⊎_elim
      (λ (e : rest t s (slice_index ws k) < a).
      let m = count_le (λ w. nat_le a (rest t s w)) (λ w. ltb (rest t s (slice_index ws k)) (rest t s w)) (λ w b. grind (arith, nat_tests)) ws in
      let z : left ≤ ahead t s ws k = omega (arith, h.low) in
      is_below left a (above t s a ws) (rest t s (slice_index ws k)) (ahead t s ws k) (level t s a (take k ws)) e z)
      (λ (e : a < rest t s (slice_index ws k)).
      let r = rest t s (slice_index ws k) in
      let m = count_le (λ w. nat_le r (rest t s w)) (λ w. ltb a (rest t s w)) (λ w b. grind (arith, nat_tests)) ws in
      let x = count_split (rest t s) r ws in
      let y = sum_by-take-le (λ w. cond (rest t s w == r) 1 0) ws (k + 1) in
      let v = count_by_more_yes (λ w. nat_eq (rest t s w) r) ws k 0 l (eq-eqb r r refl) in
      let z : ahead t s ws k < left = omega (arith, h.high) in
      is_over left a (above t s a ws) r (ahead t s ws k) (level t s a (take k ws)) e z))
      (cases_order (rest t s (slice_index ws k)) a)
    where
      equal : (r : ℕ) → r ≡ a → by_threshold a r (level t s a (take k ws)) (left - above t s a ws) ≡ one_below (above t s r ws + level t s r (take k ws)) left
      equal r e = rw e (is_flat left a (above t s a ws) (level t s a (take k ws)))

-- the shares by the threshold are the shares
pub given_is : (t : ℕ) (ws : List ℕ) (a : ℕ) → Mark t (sum ws) ws (left_over t (sum ws) ws) a → given t (sum ws) a (left_over t (sum ws) ws - above t (sum ws) a ws) ws ≡ by_remainders t ws
given_is t ws a h =
    let s = sum ws in
    let left = left_over t s ws in
    let n = left - above t s a ws in
    fill_by_all (share t s ws) (given t s a n ws) (length ws) 0 (given_length t s a n ws)
    (λ k l. given_at t s a n ws k l ∙ ap (λ x. whole t s (slice_index ws k) + x) (same_chosen t s ws left a h k l))

-- no remainder reaches the sum
pub from_none : (t s : ℕ) (ws : List ℕ) → 0 < s → from t s s ws ≡ 0
from_none t s ws h = count_none (λ w. nat_le s (rest t s w)) (λ w. lt-leb s (rest t s w) (mod-lt (t * w) h)) ws

-- the remainder 0 is reached by all
pub from_zero : (t s : ℕ) (ws : List ℕ) → from t s 1 ws ≤ from t s 0 ws
from_zero t s ws = count_le (λ w. nat_le 1 (rest t s w)) (λ w. nat_le 0 (rest t s w)) (λ w b. grind (arith, nat_tests)) ws

-- there is a mark, below any number that no remainder reaches
find_mark : (t s : ℕ) (ws : List ℕ) (left n : ℕ) → from t s n ws ≤ left → left ≤ from t s 0 ws → (a : ℕ) × Mark t s ws left a
find_mark t s ws left zero f e =
    let m = count_split (rest t s) 0 ws in
    (0, record { low = e; high = omega arith })
find_mark t s ws left (suc n) f e =
    ⊎_elim
    (λ (l : from t s n ws ≤ left). find_mark t s ws left n l e)
    (λ (l : left < from t s n ws). (n, record { low = omega arith; high = f }))
    (cases_le (from t s n ws) left)
  where
    cases_le : (m n : ℕ) → (m ≤ n) ⊎ (n < m)
    cases_le m n = ⊎_elim (λ (h : n < m). inr h) (λ (h : m ≤ n). inl h) (cases_lt n m)

pub remainders_sum : (t : ℕ) (ws : List ℕ) → Passes t ws → sum (by_remainders t ws) ≡ t
remainders_sum t ws p =
    let s = sum ws in
    let left = left_over t s ws in
    let b = wholes_le t ws p in
    let f = find_mark t s ws left s (let z = from_none t s ws p.some in omega arith) (let e = enough t ws p in let z = from_zero t s ws in omega arith) in
    let a = f.0 in
    let g = given_sum t s a (left - above t s a ws) ws in
    let c = count_split (rest t s) a ws in
    ap sum (sym (given_is t ws a f.1)) ∙ g ∙ omega (arith, f.1.low, f.1.high)

pub remainders_near : (t : ℕ) (ws : List ℕ) → Passes t ws → (k : ℕ) → k < length ws → Near t (sum ws) (slice_index ws k) (slice_index (by_remainders t ws) k)
remainders_near t ws p k l =
    let s = sum ws in
    let left = left_over t s ws in
    let w = slice_index_or ws k 0 in
    let e = get_or-map-range_with_len (share t s ws) 0 (length ws) k k 0 l (omega arith) in
    let n = enough t ws p in
    rw e (⊎_elim
    (λ (z : ahead t s ws k < left).
    let m = count_le (λ v. nat_le 1 (rest t s v)) (λ v. nat_le 1 (rest t s v)) (λ v b. b) ws in
    let q : 0 < rest t s w = ⊎_elim (λ (h : 0 < rest t s w). h) (λ (h : rest t s w ≤ 0). let u : rest t s w ≡ 0 = omega arith in let v : ahead t s ws k ≡ above t s 0 ws + level t s (rest t s w) (take k ws) = ap (λ r. above t s r ws + level t s (rest t s w) (take k ws)) u in absurd (omega arith)) (cases_lt 0 (rest t s w)) in
    inr (ap (λ x. whole t s w + x) (is_one (ahead t s ws k) left z), q))
    (λ (z : left ≤ ahead t s ws k). inl (let y = is_none (ahead t s ws k) left z in omega arith))
    (cases_lt (ahead t s ws k) left))
  where
    is_one : (n left : ℕ) → n < left → one_below n left ≡ 1
    is_one n left h = grind (arith, nat_tests)

    is_none : (n left : ℕ) → left ≤ n → one_below n left ≡ 0
    is_none n left h = grind (arith, nat_tests)

pub remainders_fair : (t : ℕ) (ws : List ℕ) → Passes t ws → Fair t ws (by_remainders t ws)
remainders_fair t ws p = record {
  len = length-map-range_with_len (share t (sum ws) ws) 0 (length ws);
  adds_up = remainders_sum t ws p;
  near = remainders_near t ws p;
}
