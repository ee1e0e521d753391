-- Whole parts and remainders, all together.
use Rattle.std.proofs.Common.{◌≡◌, ℕ, ◌+◌, ◌*◌, ◌/◌, ◌≤◌, List, [], ◌∷◌, sum_by, sum, add-mul, mul-zero, div-add-mod', mul-add, le_of_mul-le-mul_right, arith}
use Rattle.std.proofs.lemmas.List.Sums.{sum_by-cons}
use Rattle.std.proofs.lemmas.Nat.{mul-le}
use Rattle.divider.specs.Questions.{limit, Passes}
use Rattle.divider.specs.Shares.{whole, rest}

-- the whole parts and the remainders make up the total times the sum
pub parts_make : (t s : ℕ) (ws : List ℕ) → sum_by (whole t s) ws * s + sum_by (rest t s) ws ≡ t * sum ws
parts_make t s [] = rw mul-zero (omega arith)
parts_make t s (w ∷ ws) =
    let q = sum_by-cons (whole t s) w ws in
    let r = sum_by-cons (rest t s) w ws in
    let z = sum_by-cons (λ x. x) w ws in
    let i = parts_make t s ws in
    let d = div-add-mod' (t * w) s in
    let m = add-mul (t * w / s) (sum_by (whole t s) ws) s in
    let n = mul-add t w (sum ws) in
    rw (q, r, z) (omega arith)

-- the whole parts do not add up to more than the total
pub wholes_le : (t : ℕ) (ws : List ℕ) → Passes t ws → sum_by (whole t (sum ws)) ws ≤ t
wholes_le t ws p =
    let e = parts_make t (sum ws) ws in
    let l : sum_by (whole t (sum ws)) ws * sum ws ≤ t * sum ws = omega arith in
    le_of_mul-le-mul_right l p.some

-- the total is within the limit
pub total_le : (t : ℕ) (ws : List ℕ) → Passes t ws → t ≤ limit
total_le t ws p = let m = mul-le t 1 t (sum ws) (omega arith) p.some in omega (arith, p.fits)
