-- Quotients and remainders of a sum.
use Rattle.std.proofs.Common.{◌≡◌, ℕ, ◌+◌, ◌-◌, ◌*◌, ◌/◌, ◌%◌, ◌<◌, ◌≤◌, ◌⊎◌, ap, ◌∙◌, inl, inr, ⊎_elim, mod-lt, add-mul, one-mul, div-add-mod', arith}
use lib.Arith.{digits_div}
use Rattle.std.proofs.lemmas.Bool.{cases_lt}

-- a / s is q where a is q * s + r with r below s
quotient : (a s q r : ℕ) → r < s → a ≡ q * s + r → a / s ≡ q
quotient a s q r h e = ap (λ n. n / s) e ∙ digits_div q h

-- the quotient of a sum is the sum of the quotients, or one more where the second leaves a remainder
pub quotient_of_sum : (a b s : ℕ) → 0 < s → ((a + b) / s ≡ a / s + b / s) ⊎ (((a + b) / s ≡ a / s + b / s + 1) × (0 < b % s))
quotient_of_sum a b s h =
    let ea = div-add-mod' a s in
    let eb = div-add-mod' b s in
    let la = mod-lt a h in
    let lb = mod-lt b h in
    let m = add-mul (a / s) (b / s) s in
    ⊎_elim
    (λ (lt : a % s + b % s < s). inl (quotient (a + b) s (a / s + b / s) (a % s + b % s) lt (omega arith)))
    (λ (ge : s ≤ a % s + b % s).
    let n = add-mul (a / s + b / s) 1 s in
    let o = one-mul s in
    inr (quotient (a + b) s (a / s + b / s + 1) (a % s + b % s - s) (omega arith) (omega arith), omega arith))
    (cases_lt (a % s + b % s) s)

pub quotient_grows : (a b s : ℕ) → 0 < s → a / s ≤ (a + b) / s
quotient_grows a b s h = ⊎_elim (λ e. omega arith) (λ e. omega arith) (quotient_of_sum a b s h)
