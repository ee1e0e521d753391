-- The shares by running sums are fair.
use Rattle.std.specs.Prelude.{◌≡◌, ℕ, zero, suc, ◌+◌, ◌-◌, ◌*◌, ◌/◌, ◌<◌, ◌≤◌, List, [], ◌∷◌, ◌++◌, length, take, drop, sum, slice_index, slice_set, refl}
use Rattle.std.proofs.Common.{ap, inl, inr, ⊎_elim, mul-add, mul-div_cancel, zero-add, mul-zero, arith}
use Rattle.std.proofs.lemmas.List.Sums.{sum_by-cons, sum_by_more, sum_by-take-le}
use Rattle.std.proofs.lemmas.List.{take_more_set, at_drop_more, append_assoc}
use Rattle.divider.specs.Questions.{Passes}
use Rattle.divider.specs.Shares.{Near, Fair}
use Rattle.running.specs.Running.{running_from, by_running}
use Rattle.divider.proofs.Quotients.{quotient_of_sum, quotient_grows}

pub running_length : (t s b : ℕ) (ws : List ℕ) → length (running_from t s b ws) ≡ length ws
running_length t s b [] = refl
running_length t s b (w ∷ ws) = ap suc (running_length t s (b + w) ws)

pub step_grows : (t s b w : ℕ) → 0 < s → t * b / s ≤ t * (b + w) / s
step_grows t s b w h = rw mul-add (quotient_grows (t * b) (t * w) s h)

pub running_sum : (t s b : ℕ) (ws : List ℕ) → 0 < s → t * b / s + sum (running_from t s b ws) ≡ t * (b + sum ws) / s
running_sum t s b [] h = let e : b + 0 ≡ b = omega arith in rw e (omega arith)
running_sum t s b (w ∷ ws) h =
    let g = step_grows t s b w h in
    let x = t * (b + w) / s - t * b / s in
    let e = sum_by-cons (λ n. n) x (running_from t s (b + w) ws) in
    let f = sum_by-cons (λ n. n) w ws in
    let i = running_sum t s (b + w) ws h in
    let j : b + sum (w ∷ ws) ≡ b + w + sum ws = omega arith in
    rw j (omega arith)

pub step_near : (t s b w : ℕ) → 0 < s → Near t s w (t * (b + w) / s - t * b / s)
step_near t s b w h =
    rw mul-add (⊎_elim (λ e. inl (omega arith)) (λ e. inr (omega arith, e.1)) (quotient_of_sum (t * b) (t * w) s h))

pub running_near : (t s b : ℕ) (ws : List ℕ) (k : ℕ) → 0 < s → k < length ws → Near t s (slice_index ws k) (slice_index (running_from t s b ws) k)
running_near t s b [] k h l = absurd (omega arith)
running_near t s b (w ∷ ws) zero h l = step_near t s b w h
running_near t s b (w ∷ ws) (suc k) h l = running_near t s (b + w) ws k h (omega arith)

pub running_fair : (t : ℕ) (ws : List ℕ) → Passes t ws → Fair t ws (by_running t ws)
running_fair t ws p = record {
  len = running_length t (sum ws) 0 ws;
  adds_up =
      let e = running_sum t (sum ws) 0 ws p.some in
      let z : t * 0 / sum ws ≡ 0 = rw mul-zero (omega arith) in
      let y : t * (0 + sum ws) / sum ws ≡ t = rw zero-add (mul-div_cancel t p.some) in
      omega arith;
  near = λ k l. running_near t (sum ws) 0 ws k p.some l;
}

-- one turn of the loop that writes them
pub running_more : (t s b x : ℕ) (ws old xs : List ℕ) (i : ℕ) → i < length ws → length old ≡ length ws → x ≡ t * (b + slice_index ws i) / s - t * b / s → take i old ++ running_from t s b (drop i ws) ≡ xs → take (i + 1) (slice_set old i x) ++ running_from t s (b + slice_index ws i) (drop (i + 1) ws) ≡ xs
running_more t s b x ws old xs i h l e inv =
    let h' : i < length old = omega arith in
    let a = take_more_set old i x h' in
    let d : running_from t s b (drop i ws) ≡ (t * (b + slice_index ws i) / s - t * b / s) ∷ running_from t s (b + slice_index ws i) (drop (i + 1) ws) = at_drop_more (running_from t s b) ws i 0 h in
    let q = append_assoc (take i old) (x ∷ []) (running_from t s (b + slice_index ws i) (drop (i + 1) ws)) in
    cc

-- the sum of the weights that came, and with the next
pub front_sum : (ws : List ℕ) (i b : ℕ) → i < length ws → b ≡ sum (take i ws) → (b + slice_index ws i ≡ sum (take (i + 1) ws)) × (b + slice_index ws i ≤ sum ws)
front_sum ws i b h e =
    let m = sum_by_more (λ x. x) ws i 0 h in
    let l = sum_by-take-le (λ x. x) ws (i + 1) in
    (omega arith, omega arith)
