-- The packed sheet, and the turns of the loops over it.
use Rattle.std.proofs.Common.{◌≡◌, ℕ, zero, suc, ◌+◌, ◌-◌, ◌*◌, ◌/◌, ◌%◌, ◌^◌, ◌<◌, ◌≤◌, max, Bool, true, false, cond, ◌&&◌, eqb, ltb, leb, ◌⊎◌, List, [], ◌∷◌, map, length, get_or, take, sum_by, sum, sym, refl, ap, ◌∙◌, inl, inr, ⊎_elim, mod-lt, mul_comm, add-mul, lt_of_mul-lt-mul_right, mul-add, add-one, arith}
use native.Mathlib.Nat.{two-pow-succ}
use lib.Bits.{bit_and}
use Rattle.std.proofs.lemmas.List.Sums.{sum_by-cons, sum_by_more, sum_by-take-le, get_or-le-sum_by}
use Rattle.std.proofs.lemmas.Nat.{mul-le, div_below, mod-mul-add, and_mask, pow-add, pow_below}
use Rattle.std.proofs.lemmas.Bool.{cases_order, cases_lt, le-leb, lt-leb}
use Rattle.std.proofs.lemmas.Bool.Decides.{nat_tests}
use Rattle.divider.specs.Questions.{limit, Passes}
use Rattle.divider.specs.Shares.{whole, rest}
use Rattle.divider.proofs.Parts.{wholes_le}
use Rattle.largest.specs.Largest.{left_over, above, by_remainders}
use Rattle.largest.specs.Packing.{packed, reached, at_level, raised, share_of, Divides}
use Rattle.largest.specs.Counts.{count_le}
use Rattle.largest.specs.declared.packing.Packing.{Packing}
use Rattle.largest.specs.Remainders.{from, from_none, from_zero, enough, one_more, given, given_is, Mark}

-- all is the sum of the weights, the questions passed, and the packed numbers fit.
pub record Ready (total all unit : ℕ) (weights : List ℕ) : Type 0 where
  pub is_sum : all ≡ sum weights
  pub passes : Passes total weights
  pub over : total < unit
  pub fits : all * unit < 2 ^ 64

pub whole_le : (t s w : ℕ) → 0 < s → w ≤ s → whole t s w ≤ t
whole_le t s w h l =
    let m = mul-le t w t s (omega arith) l in
    let a = add-mul t 1 s in
    let d = div_below (t * w) s (t + 1) h (omega arith) in
    omega arith

-- where a packed number lies by its remainder
pub lies : (a u r q : ℕ) → q < u → ((r < a) × (r * u + q < a * u)) ⊎ (((r ≡ a) × (a * u ≤ r * u + q) × (r * u + q < a * u + u)) ⊎ ((a < r) × (a * u + u ≤ r * u + q)))
lies a u r q h =
    ⊎_elim
    (λ (e : r ≡ a). let p = ap (λ n. n * u) e in inr (inl (e, omega arith, omega arith)))
    (⊎_elim
    (λ (l : r < a).
    let m = mul-le (r + 1) u a u (omega arith) (omega arith) in
    let n = add-mul r 1 u in
    inl (l, omega arith))
    (λ (l : a < r).
    let m = mul-le (a + 1) u r u (omega arith) (omega arith) in
    let n = add-mul a 1 u in
    inr (inr (l, omega arith))))
    (cases_order r a)

-- the tests of a packed number are those of its remainder
module _ (a u r q : ℕ) (h : q < u) where
  reaches : leb (a * u) (r * u + q) ≡ leb a r
  reaches =
      ⊎_elim
      (λ l. lt-leb (a * u) (r * u + q) l.1 ∙ sym (lt-leb a r l.0))
      (⊎_elim
      (λ l. le-leb (a * u) (r * u + q) l.1 ∙ sym (le-leb a r (omega arith)))
      (λ l. le-leb (a * u) (r * u + q) (omega arith) ∙ sym (le-leb a r (omega arith))))
      (lies a u r q h)

  same_level : at_level u (a * u) (r * u + q) ≡ eqb r a
  same_level =
      ⊎_elim
      (λ (l : (r < a) × (r * u + q < a * u)). grind (arith, nat_tests))
      (⊎_elim
      (λ (l : (r ≡ a) × (a * u ≤ r * u + q) × (r * u + q < a * u + u)). grind (arith, nat_tests))
      (λ (l : (a < r) × (a * u + u ≤ r * u + q)). grind (arith, nat_tests)))
      (lies a u r q h)

  -- the share that it makes, where c was added to it
  share_kept : (c d : ℕ) (b : Bool) → c ≡ 0 → leb (a * u + u) (r * u + q) ≡ b → cond b 1 0 ≡ d → share_of u (a * u + u) (r * u + q + c) ≡ q + d
  share_kept c d b e t f =
      let z : r * u + q + 0 ≡ r * u + q = omega arith in
      let m = mod-mul-add r u q h in
      rw (e, z, m, t, f)

  share_raised : (c : ℕ) → c ≡ u → a * u ≤ r * u + q → share_of u (a * u + u) (r * u + q + c) ≡ q + 1
  share_raised c e l =
      let n = add-mul r 1 u in
      let z : r * u + q + u ≡ (r + 1) * u + q = omega arith in
      let m = mod-mul-add (r + 1) u q h in
      let t = le-leb (a * u + u) ((r + 1) * u + q) (omega arith) in
      rw (e, z, m, t)

  same_share : (n : ℕ) → share_of u (a * u + u) (r * u + q + cond (at_level u (a * u) (r * u + q) && ltb 0 n) u 0) ≡ q + one_more a n r
  same_share n =
      ⊎_elim
      (λ (l : (r < a) × (r * u + q < a * u)). share_kept _ (one_more a n r) false (grind (arith, nat_tests)) (lt-leb (a * u + u) (r * u + q) (omega arith)) (grind (arith, nat_tests)))
      (⊎_elim
      (λ (l : (r ≡ a) × (a * u ≤ r * u + q) × (r * u + q < a * u + u)).
      ⊎_elim
      (λ (k : 0 < n).
      let d : one_more a n r ≡ 1 = grind (arith, nat_tests) in
      rw d (share_raised _ (grind (arith, nat_tests)) l.1))
      (λ (k : n ≤ 0). share_kept _ (one_more a n r) false (grind (arith, nat_tests)) (lt-leb (a * u + u) (r * u + q) l.2) (grind (arith, nat_tests)))
      (cases_lt 0 n))
      (λ (l : (a < r) × (a * u + u ≤ r * u + q)). share_kept _ (one_more a n r) true (grind (arith, nat_tests)) (le-leb (a * u + u) (r * u + q) l.1) (grind (arith, nat_tests))))
      (lies a u r q h)

module _ (t s u : ℕ) (some : 0 < s) (over : t < u) where
  pub reached_is : (a : ℕ) (ws : List ℕ) → sum ws ≤ s → reached u a (map (packed t s u) ws) ≡ from t s a ws
  reached_is a [] l = refl
  reached_is a (w ∷ ws) l =
      let z = sum_by-cons (λ x. x) w ws in
      let q = whole_le t s w some (omega arith) in
      let m = sum_by-cons (λ x. cond (leb (a * u) x) 1 0) (packed t s u w) (map (packed t s u) ws) in
      let n = sum_by-cons (λ x. cond (leb a (rest t s x)) 1 0) w ws in
      let e : ◌≡◌ {A = ℕ} (cond (leb (a * u) (packed t s u w)) 1 0) (cond (leb a (rest t s w)) 1 0) = ap (λ b. cond b 1 0) (reaches a u (rest t s w) (whole t s w) (omega arith)) in
      let i = reached_is a ws (omega arith) in
      omega arith

  pub shares_are : (a n : ℕ) (ws : List ℕ) → sum ws ≤ s → map (share_of u (a * u + u)) (raised u (a * u) n (map (packed t s u) ws)) ≡ given t s a n ws
  shares_are a n [] l = refl
  shares_are a n (w ∷ ws) l =
      let z = sum_by-cons (λ x. x) w ws in
      let q = whole_le t s w some (omega arith) in
      let x = same_share a u (rest t s w) (whole t s w) (omega arith) n in
      let y = same_level a u (rest t s w) (whole t s w) (omega arith) in
      let i = shares_are a (n - cond (eqb (rest t s w) a) 1 0) ws (omega arith) in
      rw (x, y, i)

-- what the code has before it cuts, and after
module _ (t s u : ℕ) (ws : List ℕ) (r : Ready t s u ws) where
  pub divisor : 0 < s
  divisor = omega (arith, r.is_sum, r.passes.some)

  within : sum ws ≤ s
  within = omega (arith, r.is_sum)

  pub none_reaches : reached u s (map (packed t s u) ws) ≡ 0
  none_reaches = reached_is t s u divisor r.over s ws within ∙ from_none t s ws divisor

  pub all_reach : left_over t s ws ≤ reached u 0 (map (packed t s u) ws)
  all_reach =
      let e = reached_is t s u divisor r.over 0 ws within in
      let n : left_over t s ws ≤ from t s 1 ws = rw r.is_sum (enough t ws r.passes) in
      let z = from_zero t s ws in
      omega arith

  pub shares_by : (a n : ℕ) → Divides u (map (packed t s u) ws) (left_over t s ws) a n → map (share_of u (a * u + u)) (raised u (a * u) n (map (packed t s u) ws)) ≡ by_remainders t ws
  shares_by a n d =
      let e = reached_is t s u divisor r.over a ws within in
      let f = reached_is t s u divisor r.over (a + 1) ws within in
      let g : from t s (a + 1) ws ≡ above t s a ws = rw add-one refl in
      let k : n ≡ left_over t s ws - above t s a ws = omega (arith, d.remains) in
      let m : Mark t s ws (left_over t s ws) a = record { low = omega (arith, d.enough); high = omega (arith, d.served) } in
      let m' = rw r.is_sum at m in
      shares_are t s u divisor r.over a n ws within ∙ rw (k, r.is_sum) (given_is t ws a m')

  -- the numbers at a place
  module _ (i : ℕ) (h : i < length ws) where
    pub whole_below : whole t s (get_or ws i 0) < u
    whole_below =
        let g = get_or-le-sum_by (λ x. x) ws i 0 h in
        let l = whole_le t s (get_or ws i 0) divisor (omega (arith, within)) in
        omega (arith, r.over)

    pub packed_fits : packed t s u (get_or ws i 0) < 2 ^ 64
    packed_fits =
        let b = mod-lt (t * get_or ws i 0) divisor in
        let q = whole_below in
        let m = mul-le (rest t s (get_or ws i 0) + 1) u s u (omega arith) (omega arith) in
        let n = add-mul (rest t s (get_or ws i 0)) 1 u in
        omega (arith, r.fits)

    pub left_more : (left : ℕ) → left ≡ t - sum_by (whole t s) (take i ws) → (whole t s (get_or ws i 0) ≤ left) × (left - whole t s (get_or ws i 0) ≡ t - sum_by (whole t s) (take (i + 1) ws))
    left_more left e =
        let m = sum_by_more (whole t s) ws i 0 h in
        let l = sum_by-take-le (whole t s) ws (i + 1) in
        let b : sum_by (whole t s) ws ≤ t = rw r.is_sum (wholes_le t ws r.passes) in
        (omega arith, omega arith)

-- fewer reach a larger number
pub reached_falls : (u a : ℕ) (xs : List ℕ) → reached u (a + 1) xs ≤ reached u a xs
reached_falls u a xs =
    let m = add-mul a 1 u in
    count_le (λ x. leb ((a + 1) * u) x) (λ x. leb (a * u) x) (λ x b. grind (arith, nat_tests)) xs

-- no spare unit raises nothing
pub raised_none : (u v n : ℕ) (xs : List ℕ) → n ≡ 0 → raised u v n xs ≡ xs
raised_none u v n [] e = refl
raised_none u v n (x ∷ xs) e =
    let c : at_level u v x && ltb 0 n ≡ false = grind (arith, nat_tests) in
    let z : x + 0 ≡ x = omega arith in
    rw (c, z) (ap (λ ys. x ∷ ys) (raised_none u v (n - cond (at_level u v x) 1 0) xs (omega arith)))

-- where the bisection ends, the number below the upper bound is the mark
pub mark_below : (u : ℕ) (xs : List ℕ) (left served low high : ℕ) → low < high → left ≤ reached u low xs → served ≡ reached u high xs → served ≤ left → (left ≤ served) ⊎ (high - low ≤ 1) → Divides u xs left (high - 1) (left - served)
mark_below u xs left served low high h l e s end =
    let m : high - 1 + 1 ≡ high = omega arith in
    let f = reached_falls u (high - 1) xs in
    let g = ap (λ n. reached u n xs) m in
    record {
      enough = ⊎_elim (λ (d : left ≤ served). omega arith) (λ (d : high - low ≤ 1). let k : high - 1 ≡ low = omega arith in rw k l) end;
      served = omega arith;
      remains = omega arith;
    }

-- the mask of a power of two takes the remainder by it
pub mask_is : (u x : ℕ) → (k : ℕ) × (u ≡ 2 ^ k) → bit_and x (u - 1) ≡ x % u
mask_is u x p = ap (λ v. bit_and x (v - 1)) p.1 ∙ and_mask x p.0 ∙ ap (λ v. x % v) (sym p.1)

-- the packed numbers fit under a power of two just above the total
pub unit_fits : (t s u : ℕ) → s ≤ limit → t * s ≤ limit → (k : ℕ) × (u ≡ 2 ^ k) → u / 2 < max 1 (t + 1) → s * u < 2 ^ 64
unit_fits t s u small fits p h = go p.0 p.1
  where
    go : (k : ℕ) → u ≡ 2 ^ k → s * u < 2 ^ 64
    go zero f = let d : s * u ≡ s * 1 = ap (λ n. s * n) f in omega arith
    go (suc k) f =
        let d = two-pow-succ k in
        let m = mul-le s u s (t + t) (omega arith) (omega arith) in
        let a = mul-add s t t in
        let c = mul_comm s t in
        omega arith

-- above every packed number there is room for a unit more
pub room : (s u : ℕ) → s * u < 2 ^ 64 → (k : ℕ) × (u ≡ 2 ^ k) → u < 2 ^ 64 → s * u + u ≤ 2 ^ 64
room s u f p l =
    let k = p.0 in
    ⊎_elim
    (λ (b : k < 65).
    let e : 2 ^ (64 - k) * u ≡ 2 ^ 64 = ap (λ n. 2 ^ (64 - k) * n) p.1 ∙ sym (pow-add 2 (64 - k) k) ∙ ap (λ n. 2 ^ n) (let z : 64 - k + k ≡ 64 = omega arith in z) in
    let q : s * u < 2 ^ (64 - k) * u = omega arith in
    let r : s + 1 ≤ 2 ^ (64 - k) = omega (arith, lt_of_mul-lt-mul_right u q) in
    let n = mul-le (s + 1) u (2 ^ (64 - k)) u r (omega arith) in
    let o = add-mul s 1 u in
    omega arith)
    (λ (b : 65 ≤ k). let g = pow_below 64 k (omega arith) in absurd (omega (arith, p.1)))
    (cases_lt k 65)

-- a packing is ready for weights that add up to its sum and pass with its total
pub ready : (p : Packing) (ws : List ℕ) → p.sum ≡ sum ws → Passes p.total ws → Ready p.total p.sum p.unit ws
ready p ws e q = record { is_sum = e; passes = q; over = p.over; fits = omega (arith, p.room, p.over) }
