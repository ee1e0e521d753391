-- Shares near their exact shares, with the sign of what is divided.
use Rattle.std.proofs.Common.{◌≡◌, ℕ, zero, suc, ◌+◌, ◌-◌, ◌*◌, ◌<◌, ltb, List, [], ◌∷◌, map, ℤ, pos, negsuc, ◌+ℤ◌, ◌-ℤ◌, ◌*ℤ◌, neg_ℤ, fold, sum, refl, ap, ◌∙◌, subst, ⊎_elim, mod-lt, add-mul, one-mul, div-add-mod', zero-mul, add-one, arith}
use borrow.Author.Differences.{ints}
use Rattle.std.proofs.lemmas.Bool.{cond_both, ltb-true, ltb-false}
use Rattle.divider.specs.Shares.{Near, whole}
use Rattle.book.specs.Rates.{size, like}
use Rattle.runs.specs.Runs.{WithinOne, sumℤ}

-- The size of a difference.
pub size_minus : (a b : ℕ) → size (pos a -ℤ pos b) ≡ (a - b) + (b - a)
size_minus a zero = omega arith
size_minus a (suc b) =
    cond_both (ltb a (suc b)) (negsuc (suc b - suc a)) (pos (a - suc b)) (λ z. size z ≡ (a - suc b) + (suc b - a))
    (λ t. omega (arith, ltb-true a (suc b) t)) (λ t. omega (arith, ltb-false a (suc b) t))

pub size_neg : (z : ℤ) → size (neg_ℤ z) ≡ size z
size_neg (pos zero) = refl
size_neg (pos (suc n)) = omega arith
size_neg (negsuc n) = omega arith

-- Times the sum of the weights, a share and its exact share differ by less than that sum.
share_times : (total s w x : ℕ) → 0 < s → Near total s w x → (x * s < total * w + s) × (total * w < x * s + s)
share_times total s w x some near =
    let parts = div-add-mod' (total * w) s in
    let low = mod-lt (total * w) some in
    ⊎_elim
    (λ e. let is = ap (λ (n : ℕ). n * s) e in (omega arith, omega arith))
    (λ e. let is = ap (λ (n : ℕ). n * s) e.0 ∙ add-mul (whole total s w) 1 s in (omega (arith, e.1, one-mul s), omega (arith, e.1, one-mul s)))
    near

pub within_one : (total s w x : ℕ) → 0 < s → Near total s w x → WithinOne (pos x) (pos (total * w)) s
within_one total s w x some near =
    omega (arith, size_minus (x * s) (total * w), share_times total s w x some near)

neg_times : (x s : ℕ) → neg_ℤ (pos x) *ℤ pos s ≡ neg_ℤ (pos (x * s))
neg_times zero s = rw (zero-mul s)
neg_times (suc x) s = refl

-- The same of a share with the sign of what is divided.
pub within_one_like : (z : ℤ) (s w x : ℕ) → 0 < s → Near (size z) s w x → WithinOne (like z x) (z *ℤ pos w) s
within_one_like (pos n) s w x some near = within_one n s w x some near
within_one_like (negsuc n) s w x some near =
    let near_one = subst (λ (t : ℕ). size (pos (x * s) -ℤ pos (t * w)) < s) (add-one n) (within_one (n + 1) s w x some near) in
    let turned : neg_ℤ (pos (x * s)) -ℤ neg_ℤ (pos (suc n * w)) ≡ neg_ℤ (pos (x * s) -ℤ pos (suc n * w)) = omega (arith, ints) in
    let same = ap (λ (t : ℤ). size (t -ℤ neg_ℤ (pos (suc n * w)))) (neg_times x s) ∙ ap size turned ∙ size_neg (pos (x * s) -ℤ pos (suc n * w)) in
    omega arith

-- Shares with one sign add up to their sum with that sign.
like_plus : (z : ℤ) (a b : ℕ) → like z a +ℤ like z b ≡ like z (a + b)
like_plus (pos n) a b = refl
like_plus (negsuc n) a b = omega (arith, ints)

like_folded : (z : ℤ) (a : ℕ) (xs : List ℕ) → fold (λ b y. b +ℤ y) (like z a) (map (like z) xs) ≡ like z (fold (λ b x. b + x) a xs)
like_folded z a [] = refl
like_folded z a (x ∷ xs) = ap (λ (t : ℤ). fold (λ b y. b +ℤ y) t (map (like z) xs)) (like_plus z a x) ∙ like_folded z (a + x) xs

like_none : (z : ℤ) → pos 0 ≡ like z 0
like_none (pos n) = refl
like_none (negsuc n) = refl

pub like_sum : (z : ℤ) (xs : List ℕ) → sumℤ (map (like z) xs) ≡ like z (sum xs)
like_sum z xs = rw (like_none z) (like_folded z 0 xs)

pub like_size : (z : ℤ) → like z (size z) ≡ z
like_size (pos n) = refl
like_size (negsuc n) = omega (arith, ints)
