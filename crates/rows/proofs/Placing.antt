-- Bytes written at the front of a buffer, piece by piece, and the digits of numbers.
use Rattle.std.proofs.Common.{◌≡◌, ℕ, zero, suc, ◌+◌, ◌-◌, ◌*◌, ◌/◌, ◌%◌, ◌^◌, ◌<◌, ◌≤◌, List, [], ◌∷◌, ◌++◌, length, take, drop, Some, None, Option, IfNone, IfSome, decimal, sym, refl, ap, ◌∙◌, ⊎_elim, add-one, arith}
use Rattle.std.proofs.Math.Nat.{pow-le-pow_right}
use Rattle.std.specs.Option.{unwrap_or}
use Rattle.std.proofs.lemmas.Bool.{cases_lt, le-leb}
use Rattle.std.proofs.lemmas.Fmt.{decimal_digit, decimal_by_steps, decimal_is_IsNumeral, length-decimal-le}
use Rattle.std.proofs.lemmas.Grind.{pow_more}
use Rattle.std.proofs.lemmas.Int.Digits.{digits_value-lt}
use Rattle.std.proofs.lemmas.List.{append-nil, append_assoc, length-append, length-drop, take_at, take_rest, drop_at, drop_all, drop-drop}
use Rattle.rows.specs.Rows.{over, Writes}
use borrow.Rule.Slice.PartMut.{put_mid}

-- some bytes are written at the front of a buffer, up to a place
abbrev pub Written : List ℕ → List ℕ → List ℕ → ℕ → Type 0
Written done buffer b at = (at ≡ length done) × (b ≡ over done buffer)

-- another piece has room behind them
pub room_behind : (done buffer b : List ℕ) (at n : ℕ) → Written done buffer b at → length done + n ≤ length buffer → n ≤ length (take (length b - at) (drop at b))
room_behind done buffer b at n w h =
    let l = ap length w.1 ∙ length-append done (drop (length done) buffer) in
    let d = length-drop (length done) buffer in
    rw (take_rest b at, length-drop at b) (omega arith)

-- and is written there
pub written_more : (done s buffer b p : List ℕ) (at n : ℕ) → Written done buffer b at → n ≡ length s → p ≡ over s (take (length b - at) (drop at b)) → Written (done ++ s) buffer (put_mid at (length b - at) b p) (at + n)
written_more done s buffer b p at n w e g =
    let after = drop (length done) buffer in
    let m : length b ≤ at + (length b - at) = omega arith in (
      omega (arith, length-append done s),
      rw (drop-drop (length b - at) at b, drop_all (at + (length b - at)) b m, append-nil p, g, take_rest b at, w.1, take_at done after at (sym w.0), drop_at done after at (sym w.0), drop-drop (length s) (length done) buffer, ← length-append done s, ← append_assoc done s) refl,
    )

-- and that is all
pub written_all : (s buffer b : List ℕ) (n : ℕ) → length s ≤ length buffer → Written s buffer b n → Writes s buffer (Some n) b
written_all s buffer b n room w =
    let t = le-leb (length s) (length buffer) room in
    record { answer = rw (t, w.0) refl; after = rw (t, w.1) refl }

-- the digits before some bytes, from the last on
abbrev pub prepended : ℕ → ℕ → List ℕ → List ℕ
prepended zero n bs = bs
prepended (suc k) n bs = prepended k (n / 10) ((48 + n % 10) ∷ bs)

digits_prepended : (n : ℕ) (bs : List ℕ) → n < 2 ^ 64 → prepended (length (decimal n)) n bs ≡ decimal n ++ bs
digits_prepended n bs fits =
    decimal_by_steps (λ m ds. (cs : List ℕ) → prepended (length ds) m cs ≡ ds ++ cs)
    (λ m h cs. let r : m % 10 ≡ m = omega arith in rw r refl)
    (λ m ds h more cs.
    let last = (48 + m % 10) ∷ [] in
    ap (λ k. prepended k m cs) (length-append ds last ∙ add-one (length ds)) ∙ more (last ++ cs) ∙ sym (append_assoc ds last cs))
    n fits bs

pub all_prepended : (n k : ℕ) (buffer : List ℕ) → n < 2 ^ 64 → k ≡ length (decimal n) → prepended k n (drop k buffer) ≡ over (decimal n) buffer
all_prepended n k buffer fits e = rw e (digits_prepended n (drop (length (decimal n)) buffer) fits)

-- how many digits there are
pub logged : (n : ℕ) (o : Option ℕ) → n < 2 ^ 64 → IfNone o (n ≡ 0) → IfSome o (λ k. 10 ^ k ≤ n) → IfSome o (λ k. n < 10 * 10 ^ k) → unwrap_or o 0 + 1 ≡ length (decimal n)
logged n None fits none low high = sym (ap length (decimal_digit n (omega arith)))
logged n (Some k) fits none low high =
    let ds = decimal_is_IsNumeral n fits in
    let top = digits_value-lt 10 (decimal n) ds.0.1 in
    let more = pow_more 10 k in
    let most = length-decimal-le (k + 1) n (omega arith) (omega arith) fits in
    ⊎_elim
    (λ (h : k < length (decimal n)). omega arith)
    (λ (h : length (decimal n) ≤ k). let p = pow-le-pow_right {n = 10} (omega arith) h in absurd (omega (arith, ds.1)))
    (cases_lt k (length (decimal n)))
